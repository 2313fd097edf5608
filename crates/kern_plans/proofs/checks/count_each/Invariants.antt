use Rattle.std.proofs.Common.{◌≡◌, ◌==◌, ℕ, nat_eq, unwrap_or, count_by, take}
use Rattle.std.specs.HashMap.{get}
use Rattle.kern_plans.proofs.checks.count_each.Given as goal

abbrev pub invariant-loop-page : goal.invariant-loop-page
invariant-loop-page l = (page : ℕ) → unwrap_or (get nat_eq l.counts page) 0 ≡ count_by (λ p. p == page) (take l.page-index l.pages)
