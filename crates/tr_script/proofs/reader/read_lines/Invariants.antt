use Rattle.std.proofs.Common.{◌≤◌, ◌+◌, length}
use Rattle.tr_script.proofs.ReadingLemmas.{HasRead}
use Rattle.tr_script.proofs.reader.read_lines.Given as goal

abbrev pub invariant-loop-rest : goal.invariant-loop-rest
invariant-loop-rest l = record {
  from_1 : 1 ≤ l.number;
  counted : l.number + length l.rest ≤ length l.fn.text + 1;
  read : HasRead l.fn.text l.seen l.lines.items l.rest l.number;
}

abbrev pub decreases-loop-rest : goal.decreases-loop-rest
decreases-loop-rest l = length l.rest
