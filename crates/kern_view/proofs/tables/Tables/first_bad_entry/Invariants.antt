use Rattle.std.proofs.Common.{◌≡◌, ℕ, ◌<◌, ◌≤◌, false}
use Rattle.kern_model.specs.KernelView.{pages_of}
use Rattle.kern_model.specs.Journal.{kernel_word}
use Rattle.kern_model.specs.KernelTables.{entry_fails}
use Rattle.kern_view.proofs.tables.Tables.first_bad_entry.Given as goal

abbrev pub invariant-loop-id : goal.invariant-loop-id
invariant-loop-id l = (k : ℕ) → 1 ≤ k → k < l.id → entry_fails (pages_of l.self) (kernel_word l.self) k ≡ false
