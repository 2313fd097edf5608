use Rattle.std.proofs.Common.{◌≡◌, ℕ, ◌<◌, ◌≤◌, ◌&&◌, ◌==◌, not, false}
use Rattle.kern_model.specs.KernelView.{pages_of}
use Rattle.kern_model.specs.Journal.{kernel_word}
use Rattle.kern_view.specs.RuleParts.{has_path}
use Rattle.kern_view.proofs.tables.Tables.path_stands_twice.Given as goal

abbrev pub invariant-loop-other : goal.invariant-loop-other
invariant-loop-other l =
    (k : ℕ) → 1 ≤ k → k < l.other → not (k == l.id) && has_path (pages_of l.self) (kernel_word l.self) l.path k ≡ false
