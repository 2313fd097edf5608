use Rattle.std.proofs.Common.{arith, sym, ◌∙◌}
use Rattle.kern_view.proofs.tables.Tables.first_bad_bucket.Goals as goal

pub returns-then-bucket_fails : goal.returns-then-bucket_fails
returns-then-bucket_fails c =
    (omega arith, omega arith, sym c.bucket_fails.ensures ∙ c.if-bucket_fails.true, λ k _ lt. c.loop-bucket.invariant k lt)
