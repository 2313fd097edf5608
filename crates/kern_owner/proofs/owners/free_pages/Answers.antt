use Rattle.std.proofs.Common.{◌≤◌, ◌≡◌, length, nat_eq, arith}
use Rattle.kern_model.specs.KernelView.{pages_of}
use Rattle.kern_model.specs.Kernel.{kernel_owner, spare_pages}
use Rattle.kern_owner.proofs.RangeLemmas.{below_length}
use Rattle.kern_owner.proofs.owners.free_pages.Goals as goal

pub returns : goal.returns
returns c =
    let few : length (spare_pages c.args.words.now) ≤ pages_of c.args.words.now = below_length (λ page. nat_eq (kernel_owner c.args.words.now page) 0) (pages_of c.args.words.now) in
    let count : c.pages.result ≡ pages_of c.args.words.now = omega arith in
    let is = c.free_up_to.ensures in
    omega arith
