use Rattle.std.proofs.Common.{◌≡◌, ◌≤◌, ◌+◌, take}
use Rattle.tr_script.specs.Places.{line_behind, column_behind}
use Rattle.tr_script.proofs.reader.place_after.Given as goal

abbrev pub invariant-loop-byte : goal.invariant-loop-byte
invariant-loop-byte l = record {
  line_from_1 : 1 ≤ l.line;
  column_from_1 : 1 ≤ l.column;
  line_fits : l.line ≤ l.byte-index + 1;
  column_fits : l.column ≤ l.byte-index + 1;
  line : l.line ≡ line_behind 1 (take l.byte-index l.text);
  column : l.column ≡ column_behind 1 (take l.byte-index l.text);
}
