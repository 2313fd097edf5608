use Rattle.std.proofs.Common.{◌≡◌, ℕ, ◌+◌, ◌*◌, ◌<◌, ◌≤◌, length, slice_index_or}
use Rattle.pm_words.specs.View.{values_at}
use Rattle.pm_words.specs.Crash.{picked}
use Rattle.pm_words.proofs.crash.settle_line.Given as goal

-- the words of the line so far are settled, all others as they were
pub record Settling (l : goal.Live-loop-place) : Type 0 where
  pub end : l.place-end ≡ 8 * l.line + 8
  pub from : 8 * l.line ≤ l.place
  pub len : length l.present ≡ length l.initial.present
  pub here : (k : ℕ) → 8 * l.line ≤ k → k < l.place → slice_index_or l.present k 0 ≡ picked l.choice (8 * k) (values_at k l.words.older) (slice_index_or l.initial.present k 0)
  pub before : (k : ℕ) → k < 8 * l.line → slice_index_or l.present k 0 ≡ slice_index_or l.initial.present k 0
  pub after : (k : ℕ) → l.place ≤ k → slice_index_or l.present k 0 ≡ slice_index_or l.initial.present k 0

abbrev pub invariant-loop-place : goal.invariant-loop-place
invariant-loop-place l = Settling l
