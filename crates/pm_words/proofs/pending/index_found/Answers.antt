use Rattle.std.proofs.Common.{ℕ, Some, nat_eq, sym, ap, ◌∙◌}
use Rattle.std.proofs.lemmas.Bool.{eqb-true}
use Rattle.std.proofs.lemmas.Map.Made.{lookup_key_passes}
use Rattle.pm_words.proofs.pending.index_found.Goals as goal

pub returns-in-Some-clause-some : goal.returns-in-Some-clause-some
returns-in-Some-clause-some c =
    let k = c.in-Some.field-0-1.now in
    let h = c.in-Some.field-0-2.now in
    let is = eqb-true c.args.line k (lookup_key_passes (nat_eq c.args.line) c.args.pending.now.entries k (sym c.in-Some.ensures.key)) in
    (h, c.in-Some.ensures.entry ∙ ap (λ (j : ℕ). Some (j, h)) (sym is))
