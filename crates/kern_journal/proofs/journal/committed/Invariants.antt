use Rattle.std.proofs.Common.{◌≡◌, map}
use Rattle.std.specs.List.{range_with_len}
use Rattle.kern_model.specs.Inner.{pair_at}
use Rattle.kern_journal.proofs.journal.committed.Given as goal

abbrev pub invariant-loop-i : goal.invariant-loop-i
invariant-loop-i l = l.pairs.items ≡ map (pair_at l.words) (range_with_len 0 l.i)
