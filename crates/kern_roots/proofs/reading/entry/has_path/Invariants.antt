use Rattle.kern_roots.specs.Entries as spec
use Rattle.kern_roots.proofs.ReadingPaths.{Agree}
use Rattle.kern_roots.proofs.reading.entry.has_path.Given as goal

abbrev pub invariant-loop-i : goal.invariant-loop-i
invariant-loop-i l = Agree (spec.path_of l.words l.id) l.path l.i
