use Rattle.std.proofs.Common.{◌<◌, nat_eq, ◌∙◌, ℕ}
use Rattle.std.proofs.lemmas.List.Elements.{All-same, All-take}
use Rattle.kern_model.specs.KernelView.{pages_of}
use Rattle.kern_model.specs.Kernel.{kernel_owner, coffer_pages}
use Rattle.kern_owner.proofs.RangeLemmas.{within}
use Rattle.kern_owner.proofs.changes.grant.Goals as goal

pub owner_pairs-requires : goal.owner_pairs-requires
owner_pairs-requires c = record {
  inside = All-same (λ (page : ℕ). page < pages_of c.args.words.now) _ _ (c.deref.ensures.value ∙ c.in_ok-pages.ensures)
      (All-take (λ (page : ℕ). page < pages_of c.args.words.now) c.args.count (coffer_pages c.args.words.now 0) (within (λ page. nat_eq (kernel_owner c.args.words.now page) 0) (pages_of c.args.words.now)));
}
