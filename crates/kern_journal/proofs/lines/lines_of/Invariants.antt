use Rattle.std.proofs.Common.{◌≡◌, take}
use Rattle.kern_model.specs.Inner.{lines_of}
use Rattle.kern_journal.proofs.lines.lines_of.Given as goal

abbrev pub invariant-loop-addr : goal.invariant-loop-addr
invariant-loop-addr l = l.lines.items ≡ lines_of (take l.addr-index l.pairs)
