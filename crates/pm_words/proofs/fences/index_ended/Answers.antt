use Rattle.std.proofs.Common.{ℕ, Some, nat_eq, sym, ap, ◌∙◌}
use Rattle.std.proofs.lemmas.Bool.{eqb-true}
use Rattle.std.proofs.lemmas.Map.Made.{lookup_key_passes}
use Rattle.pm_words.proofs.fences.index_ended.Goals as goal

pub returns-then-ends_by-clause-there : goal.returns-then-ends_by-clause-there
returns-then-ends_by-clause-there c =
    let k = c.in_ok-index.field-0-1.now in
    let h = c.in_ok-index.words.now in
    let is = eqb-true c.args.line k (lookup_key_passes (nat_eq c.args.line) c.args.pending.now.entries k (sym c.in_ok-index.ensures.key)) in
    (h, c.in_ok-index.ensures.entry ∙ ap (λ (j : ℕ). Some (j, h)) (sym is))
