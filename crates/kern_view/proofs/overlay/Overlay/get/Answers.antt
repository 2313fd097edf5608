use Rattle.std.proofs.Common.{ℕ, List, Option, unwrap_or, sym, ap, ◌∙◌}
use Rattle.kern_model.specs.Journal.{laid_over}
use Rattle.kern_view.proofs.LaidLemmas.{laid_in_reverse}
use Rattle.kern_view.proofs.overlay.Overlay.get.Goals as goal

pub returns-in-Some : goal.returns-in-Some
returns-in-Some c =
    ap (λ (o : Option ℕ). unwrap_or o c.args.default) c.in-Some.ensures.value
    ∙ sym (laid_in_reverse c.self.inside.values.entries c.args.addr c.args.default)
    ∙ ap (λ (ps : List (ℕ × ℕ)). laid_over ps c.args.addr c.args.default) c.self.view_is

pub returns-in-None : goal.returns-in-None
returns-in-None c =
    ap (λ (o : Option ℕ). unwrap_or o c.args.default) c.in-None.ensures.value
    ∙ sym (laid_in_reverse c.self.inside.values.entries c.args.addr c.args.default)
    ∙ ap (λ (ps : List (ℕ × ℕ)). laid_over ps c.args.addr c.args.default) c.self.view_is
