use Rattle.std.proofs.Common.{◌≡◌, drop}
use Rattle.kern_model.specs.KernelCalls as calls
use Rattle.kern_plans.proofs.checks.bad_address_page.Given as goal

abbrev pub invariant-loop-addr : goal.invariant-loop-addr
invariant-loop-addr l = calls.bad_address_page l.asked.words l.id (drop l.addr-index l.addrs) ≡ calls.bad_address_page l.asked.words l.id l.addrs
