use Rattle.std.proofs.Common.{◌≡◌, ◌++◌, map, take, drop}
use Rattle.pm_words.specs.View.{lowered}
use Rattle.pm_words.proofs.pending.lower.Given as goal

abbrev pub invariant-loop-mark : goal.invariant-loop-mark
invariant-loop-mark l = l.mark-items ≡ map (lowered l.gone) (take l.mark-index l.initial.mark-items) ++ drop l.mark-index l.initial.mark-items
