use Rattle.std.proofs.Common.{◌≡◌}
use Rattle.kern_model.specs.KernelView.{pages_of}
use Rattle.kern_model.specs.Journal.{kernel_word}
use Rattle.kern_roots.specs.Entries.{path_piece}
use Rattle.kern_roots.proofs.ReadingPieces.{pieces}
use Rattle.kern_roots.proofs.reading.entry.read_path.Given as goal

abbrev pub invariant-loop-i : goal.invariant-loop-i
invariant-loop-i l = l.path.items ≡ pieces (path_piece (pages_of l.words) (kernel_word l.words) l.id) l.i
