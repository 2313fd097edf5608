use Rattle.std.proofs.Common.{ℕ, All}
use Rattle.pm_words.specs.Memory.{IsAddress}
use Rattle.kern_journal.proofs.tests.many.Given as goal

abbrev pub invariant-loop : goal.invariant-loop
invariant-loop l = All (λ (p : ℕ × ℕ). IsAddress 32768 p.0) l.pairs.items
