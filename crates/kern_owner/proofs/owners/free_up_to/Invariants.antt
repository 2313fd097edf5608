use Rattle.std.proofs.Common.{◌≡◌, ◌≤◌, length, nat_eq}
use Rattle.kern_model.specs.Kernel.{kernel_owner}
use Rattle.kern_owner.proofs.RangeLemmas.{below}
use Rattle.kern_owner.proofs.owners.free_up_to.Given as goal

abbrev pub invariant-loop-page : goal.invariant-loop-page
invariant-loop-page l = record {
  count : l.free ≡ length (below (λ page. nat_eq (kernel_owner l.words page) 0) l.page);
  most : l.free ≤ l.most;
}
