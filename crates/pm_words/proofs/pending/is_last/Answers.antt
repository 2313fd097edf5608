use Rattle.std.proofs.Common.{ℕ, Some, sym, ap, ◌∙◌}
use Rattle.std.proofs.lemmas.Bool.{eqb-true}
use Rattle.pm_words.proofs.pending.is_last.Goals as goal

pub returns-in-Some : goal.returns-in-Some
returns-in-Some c = λ same.
    let h = c.in-Some.field-0-1.now in
    (h, sym c.in-Some.ensures.entry ∙ ap (λ (k : ℕ). Some (k, h)) (eqb-true c.in-Some.field-0-0.now c.args.line same))
