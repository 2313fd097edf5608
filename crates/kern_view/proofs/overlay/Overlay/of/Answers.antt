use Rattle.std.proofs.Common.{ℕ, List, ap, ◌∙◌, arith, length, ◌≤◌}
use Rattle.std.proofs.lemmas.List.{take_all}
use Rattle.kern_model.specs.Journal.{laid_over}
use Rattle.kern_view.proofs.LaidLemmas.{laid_in_reverse}
use Rattle.kern_view.proofs.overlay.Overlay.of.Goals as goal

pub returns : goal.returns
returns c = λ addr default.
    let end : length c.args.pairs.now ≤ c.loop-addr.addr-index = omega arith in
    laid_in_reverse c.loop-addr.values.entries addr default
    ∙ c.loop-addr.invariant addr default
    ∙ ap (λ (ps : List (ℕ × ℕ)). laid_over ps addr default) (take_all c.loop-addr.addr-index c.args.pairs.now end)
