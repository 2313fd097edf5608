use Rattle.std.proofs.Common.{◌≤◌}
use Rattle.tr_rows.proofs.tests.oracle.split.Given as goal

-- the piece that goes on began at or before the byte that comes next
abbrev pub invariant-loop-at : goal.invariant-loop-at
invariant-loop-at l = l.start ≤ l.at
