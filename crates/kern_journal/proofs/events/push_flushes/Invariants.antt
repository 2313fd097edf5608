use Rattle.std.proofs.Common.{◌≡◌, ◌++◌, take}
use Rattle.kern_model.specs.Inner.{flushes_at}
use Rattle.kern_journal.proofs.events.push_flushes.Given as goal

abbrev pub invariant-loop-addr : goal.invariant-loop-addr
invariant-loop-addr l = l.events.items ≡ l.initial.events.items ++ flushes_at (take l.addr-index l.lines)
