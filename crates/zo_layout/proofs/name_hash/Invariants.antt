use Rattle.std.proofs.Common.{◌≡◌, take}
use Rattle.zo_layout.specs.Layout as spec
use Rattle.zo_layout.proofs.name_hash.Given as goal

abbrev pub invariant-loop-byte : goal.invariant-loop-byte
invariant-loop-byte l = l.hash ≡ spec.name_hash (take l.byte-index l.name)
