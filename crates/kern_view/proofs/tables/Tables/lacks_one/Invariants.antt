use Rattle.std.proofs.Common.{◌≡◌, ℕ, ◌<◌, ◌≤◌, ◌&&◌, not, false, slice_index_or}
use Rattle.kern_model.specs.KernelView.{pages_of}
use Rattle.kern_model.specs.Journal.{kernel_word}
use Rattle.kern_model.specs.KernelTables.{belongs}
use Rattle.kern_view.proofs.tables.Tables.lacks_one.Given as goal

abbrev pub invariant-loop-id : goal.invariant-loop-id
invariant-loop-id l =
    (k : ℕ) → 1 ≤ k → k < l.id → belongs (pages_of l.self) (kernel_word l.self) l.bucket k && not (slice_index_or l.seen k false) ≡ false
