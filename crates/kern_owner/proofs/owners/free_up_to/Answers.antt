use Rattle.std.proofs.Common.{◌≤◌, ◌∙◌, length, nat_eq, sym, arith}
use Rattle.std.proofs.lemmas.Bool.{eq-eqb, ne_eqb}
use Rattle.kern_model.specs.KernelView.{pages_of}
use Rattle.kern_model.specs.Kernel.{kernel_owner, spare_pages}
use Rattle.kern_owner.proofs.RangeLemmas.{below_rises, counted, counted_not}
use Rattle.kern_owner.proofs.owners.free_up_to.Goals as goal
use Rattle.kern_owner.proofs.owners.free_up_to.Goals.{then-owner-eq-NOBODY, else-owner-eq-NOBODY}

pub returns-then-free-most : goal.returns-then-free-most
returns-then-free-most c =
    let count = c.loop-page.invariant.count in
    let here = c.if-free-most.true in
    let rises : _ ≤ length (spare_pages c.args.words.now) =
    below_rises (λ page. nat_eq (kernel_owner c.args.words.now page) 0) c.loop-page.page (pages_of c.args.words.now) (omega arith)
    in
    omega arith

pub loop-page-preserved : goal.loop-page-preserved
loop-page-preserved c =
    elim c.if-owner-eq-NOBODY.branch [
      | then-owner-eq-NOBODY w ↦ record {
        count = w.free-is ∙ counted (λ page. nat_eq (kernel_owner c.args.words.now page) 0) c.loop-page.page c.loop-page.free c.loop-page.invariant.count
            (eq-eqb _ 0 (sym c.owner.ensures ∙ w.if-owner-eq-NOBODY.true));
        most = let most = c.loop-page.invariant.most in let isnt = c.if-free-most.false in let is = w.free-is in omega arith;
      }
      | else-owner-eq-NOBODY w ↦ record {
        count = w.free-is ∙ counted_not (λ page. nat_eq (kernel_owner c.args.words.now page) 0) c.loop-page.page c.loop-page.free c.loop-page.invariant.count
            (ne_eqb _ 0 (λ is. w.if-owner-eq-NOBODY.false (c.owner.ensures ∙ is)));
        most = let most = c.loop-page.invariant.most in let is = w.free-is in omega arith;
      }
    ]
