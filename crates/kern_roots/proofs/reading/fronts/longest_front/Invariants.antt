use Rattle.std.proofs.Common.{◌≤◌}
use Rattle.kern_roots.proofs.ReadingFronts.{NoneLonger}
use Rattle.kern_roots.proofs.reading.fronts.longest_front.Given as goal

abbrev pub invariant-loop-end : goal.invariant-loop-end
invariant-loop-end l = record { least : 1 ≤ l.end; most : l.end ≤ l.most; none_longer : NoneLonger l.words l.path l.most l.end }

abbrev pub decreases-loop-end : goal.decreases-loop-end
decreases-loop-end l = l.end
