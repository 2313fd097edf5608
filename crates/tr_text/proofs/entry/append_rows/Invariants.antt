use Rattle.std.proofs.Common.{◌≡◌, ◌++◌, take}
use Rattle.tr_text.specs.Text as spec
use Rattle.tr_text.proofs.entry.append_rows.Given as goal

abbrev pub invariant-loop-row : goal.invariant-loop-row
invariant-loop-row l = l.text.items ≡ l.initial.text.items ++ spec.rows_text (take l.row-index l.rows)
