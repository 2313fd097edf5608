use Rattle.std.proofs.Common.{◌≡◌, take}
use Rattle.kern_model.specs.PathMap as map
use Rattle.kern_roots.proofs.changing.pairs.from_address.Given as goal

abbrev pub invariant-loop-i : goal.invariant-loop-i
invariant-loop-i l = l.pairs.items ≡ map.from_address l.start (take l.i l.ws)
