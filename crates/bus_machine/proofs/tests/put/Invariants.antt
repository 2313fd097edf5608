use Rattle.std.proofs.Common.{◌≡◌, length}
use Rattle.bus_machine.proofs.tests.put.Given as goal

abbrev pub invariant-loop-addr : goal.invariant-loop-addr
invariant-loop-addr l = length l.words ≡ 32768
