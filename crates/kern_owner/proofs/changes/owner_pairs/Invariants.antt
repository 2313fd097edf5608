use Rattle.std.proofs.Common.{◌≡◌, take}
use Rattle.kern_model.specs.KernelView.{pages_of}
use Rattle.kern_owner.specs.Owners.{owner_pairs}
use Rattle.kern_owner.proofs.changes.owner_pairs.Given as goal

abbrev pub invariant-loop-page : goal.invariant-loop-page
invariant-loop-page l = l.pairs.items ≡ owner_pairs (pages_of l.words) l.owner (take l.page-index l.list)
