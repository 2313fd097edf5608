use Rattle.std.proofs.Common.{◌≡◌, ◌++◌, take}
use Rattle.kern_model.specs.KernelCalls as calls
use Rattle.kern_plans.proofs.giving.pass_pages.Given as goal

abbrev pub invariant-loop-page : goal.invariant-loop-page
invariant-loop-page l = l.pairs.items ≡ l.initial.pairs.items ++ calls.owner_pairs l.words l.owner (take l.page-index l.pages)
