use Rattle.std.proofs.Common.{◌≡◌, ◌∙◌, ℕ, Vec, Global, List, length, nat_eq, sym, ap, arith}
use Rattle.std.proofs.lemmas.Bool.{eq-eqb, ne_eqb}
use Rattle.std.proofs.lemmas.List.{length_push, take_all}
use Rattle.kern_model.specs.KernelView.{pages_of}
use Rattle.kern_model.specs.Kernel.{kernel_owner, coffer_pages}
use Rattle.kern_owner.proofs.RangeLemmas.{below, first_below, gathered, gathered_not}
use Rattle.kern_owner.proofs.owners.first_pages.Goals as goal
use Rattle.kern_owner.proofs.owners.first_pages.Goals.{then-owner-id+in_ok-push, else-owner-id}

pub returns-then-len-most : goal.returns-then-len-most
returns-then-len-most c =
    let len = c.len.ensures in
    let here = c.if-len-most.true in
    first_below (λ page. nat_eq (kernel_owner c.args.words.now page) c.args.id) c.loop-page.page (pages_of c.args.words.now) c.args.most c.loop-page.list.items (omega arith)
    c.loop-page.invariant.list (omega arith)

pub loop-page-preserved : goal.loop-page-preserved
loop-page-preserved c =
    elim c.if-owner-id.branch [
      | then-owner-id+in_ok-push w ↦ record {
        list = ap (λ (v : Vec ℕ Global). v.items) w.list-is ∙ gathered (λ page. nat_eq (kernel_owner c.args.words.now page) c.args.id) c.loop-page.page c.loop-page.list.items w.push.new.self.items c.loop-page.invariant.list
            w.in_ok-push.ensures.items (eq-eqb _ c.args.id (sym c.owner.ensures ∙ w.if-owner-id.true));
        most =
            let most = c.loop-page.invariant.most in
            let isnt = c.if-len-most.false in
            let size = ap (λ (v : Vec ℕ Global). length v.items) w.list-is ∙ ap (λ (xs : List ℕ). length xs) w.in_ok-push.ensures.items ∙ length_push c.loop-page.list.items c.loop-page.page in
            let len = c.len.ensures in
            omega arith;
      }
      | else-owner-id w ↦ record {
        list = ap (λ (v : Vec ℕ Global). v.items) w.list-is ∙ gathered_not (λ page. nat_eq (kernel_owner c.args.words.now page) c.args.id) c.loop-page.page c.loop-page.list.items c.loop-page.invariant.list
            (ne_eqb _ c.args.id (λ is. w.if-owner-id.false (c.owner.ensures ∙ is)));
        most =
            let most = c.loop-page.invariant.most in
            let size = ap (λ (v : Vec ℕ Global). length v.items) w.list-is in
            omega arith;
      }
    ]

pub returns : goal.returns
returns c =
    let last : c.loop-page.page ≡ pages_of c.args.words.now = omega arith in
    let is = c.loop-page.invariant.list ∙ ap (λ (n : ℕ). below (λ page. nat_eq (kernel_owner c.args.words.now page) c.args.id) n) last in
    let size = ap (λ (xs : List ℕ). length xs) is in
    let most = c.loop-page.invariant.most in
    is ∙ sym (take_all c.args.most (coffer_pages c.args.words.now c.args.id) (omega arith))
