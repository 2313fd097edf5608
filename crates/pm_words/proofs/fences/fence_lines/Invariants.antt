use Rattle.std.proofs.Common.{ℕ, ◌≤◌, length}
use Rattle.pm_words.specs.View.{ArePending}
use Rattle.pm_words.proofs.PlaceLemmas.{IsSoFar}
use Rattle.pm_words.proofs.fences.fence_lines.Given as goal

-- the fence has come to the lines from `i` on
pub record Fencing (l : goal.Live-loop-i) : Type 0 where
  pub inside : l.i ≤ length l.lines
  pub so : (k : ℕ) → IsSoFar l.thread l.lines l.i l.initial.pending.entries l.pending.entries k
  pub pending : (count : ℕ) → ArePending count l.initial.pending.entries → ArePending count l.pending.entries

abbrev pub invariant-loop-i : goal.invariant-loop-i
invariant-loop-i l = Fencing l
