use Rattle.std.proofs.Common.{◌≡◌, ℕ, ◌*◌, length, slice_index_or}
use Rattle.pm_words.specs.View.{older_at, ArePending}
use Rattle.pm_words.specs.Crash.{picked}
use Rattle.pm_words.proofs.crash.settle.Given as goal

-- a crash of what is left leaves what one of all would have left
pub record Settling (l : goal.Live-loop-line) : Type 0 where
  pub len : length l.present ≡ length l.initial.present
  pub left : (k : ℕ) → picked l.choice (8 * k) (older_at l.pending.entries k) (slice_index_or l.present k 0)
      ≡ picked l.choice (8 * k) (older_at l.initial.pending.entries k) (slice_index_or l.initial.present k 0)
  pub pending : ArePending (length l.present) l.pending.entries

abbrev pub invariant-loop-line : goal.invariant-loop-line
invariant-loop-line l = Settling l

abbrev pub decreases-loop-line : goal.decreases-loop-line
decreases-loop-line l = length l.pending.entries
