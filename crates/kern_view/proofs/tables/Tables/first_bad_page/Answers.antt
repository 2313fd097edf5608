use Rattle.std.proofs.Common.{arith, sym, ◌∙◌}
use Rattle.kern_view.proofs.tables.Tables.first_bad_page.Goals as goal

pub returns-then-owner_fails : goal.returns-then-owner_fails
returns-then-owner_fails c =
    (omega arith, omega arith, sym c.owner_fails.ensures ∙ c.if-owner_fails.true, λ k _ lt. c.loop-page.invariant k lt)
