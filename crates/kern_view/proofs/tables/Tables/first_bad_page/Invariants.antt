use Rattle.std.proofs.Common.{◌≡◌, ℕ, ◌<◌, false}
use Rattle.kern_model.specs.KernelView.{pages_of}
use Rattle.kern_model.specs.Journal.{kernel_word}
use Rattle.kern_model.specs.KernelTables.{owner_fails}
use Rattle.kern_view.proofs.tables.Tables.first_bad_page.Given as goal

abbrev pub invariant-loop-page : goal.invariant-loop-page
invariant-loop-page l = (k : ℕ) → k < l.page → owner_fails (pages_of l.self) (kernel_word l.self) k ≡ false
