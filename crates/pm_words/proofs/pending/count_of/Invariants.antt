use Rattle.std.proofs.Common.{◌≡◌, ◌+◌, ◌≤◌, length, drop}
use Rattle.pm_words.specs.View.{values_at}
use Rattle.pm_words.proofs.pending.count_of.Given as goal

-- so many so far, and the others are to come
pub record Counting (l : goal.Live-loop-entry) : Type 0 where
  pub count : l.count + length (values_at l.place (drop l.entry-index l.older)) ≡ length (values_at l.place l.older)
  pub most : l.count ≤ l.entry-index

abbrev pub invariant-loop-entry : goal.invariant-loop-entry
invariant-loop-entry l = Counting l
