use Rattle.std.proofs.Common.{◌≡◌, ◌≢◌, ℕ, ◌<◌, slice_index_or}
use Rattle.pm_words.specs.declared.pending.Mark.{Mark}
use Rattle.pm_words.proofs.pending.replace.Given as goal

-- nothing is changed yet, and no mark so far is the thread's
abbrev pub invariant-loop-mark : goal.invariant-loop-mark
invariant-loop-mark l = (l.mark-items ≡ l.initial.mark-items) × ((k : ℕ) (d : Mark) → k < l.mark-index → (slice_index_or l.mark-items k d).thread ≢ l.thread)
