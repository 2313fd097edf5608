use Rattle.std.proofs.Common.{◌≡◌, take}
use Rattle.kern_model.specs.KernelCalls.{in_order}
use Rattle.kern_commit.proofs.steps.in_order.Given as goal

abbrev pub invariant-loop-addr : goal.invariant-loop-addr
invariant-loop-addr l = l.by_address.entries ≡ in_order (take l.addr-index l.pairs)
