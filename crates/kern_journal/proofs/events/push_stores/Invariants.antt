use Rattle.std.proofs.Common.{◌≡◌, ◌++◌, take}
use Rattle.kern_model.specs.Inner.{stores_of}
use Rattle.kern_journal.proofs.events.push_stores.Given as goal

abbrev pub invariant-loop-addr : goal.invariant-loop-addr
invariant-loop-addr l = l.events.items ≡ l.initial.events.items ++ stores_of (take l.addr-index l.pairs)
