use Rattle.std.proofs.Common.{◌≡◌, take}
use Rattle.kern_model.specs.KernelCalls as calls
use Rattle.kern_plans.proofs.calls.merge.unlisted.Given as goal

abbrev pub invariant-loop-page : goal.invariant-loop-page
invariant-loop-page l = l.rest.items ≡ calls.unlisted l.listed (take l.page-index l.pages)
