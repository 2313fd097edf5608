use Rattle.std.proofs.Common.{◌≤◌, ◌≡◌, ℕ, List, length, nat_eq, arith, IfOk, subst}
use Rattle.std.proofs.lemmas.List.{take_all}
use Rattle.kern_model.specs.KernelView.{pages_of}
use Rattle.kern_model.specs.Kernel.{kernel_owner, coffer_pages}
use Rattle.kern_owner.proofs.RangeLemmas.{below_length}
use Rattle.kern_owner.proofs.owners.pages_of.Goals as goal

pub returns : goal.returns
returns c =
    let few : length (coffer_pages c.args.words.now c.args.id) ≤ pages_of c.args.words.now = below_length (λ page. nat_eq (kernel_owner c.args.words.now page) c.args.id) (pages_of c.args.words.now) in
    let count : c.pages.result ≡ pages_of c.args.words.now = omega arith in
    subst (λ (xs : List ℕ). IfOk c.first_pages.result (λ list. list.items ≡ xs)) (take_all c.pages.result (coffer_pages c.args.words.now c.args.id) (omega arith)) c.first_pages.ensures
