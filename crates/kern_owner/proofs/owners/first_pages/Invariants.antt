use Rattle.std.proofs.Common.{◌≡◌, ◌≤◌, length, nat_eq}
use Rattle.kern_model.specs.Kernel.{kernel_owner}
use Rattle.kern_owner.proofs.RangeLemmas.{below}
use Rattle.kern_owner.proofs.owners.first_pages.Given as goal

abbrev pub invariant-loop-page : goal.invariant-loop-page
invariant-loop-page l = record {
  list : l.list.items ≡ below (λ page. nat_eq (kernel_owner l.words page) l.id) l.page;
  most : length l.list.items ≤ l.most;
}
