use Rattle.std.proofs.Common.{◌≡◌, ◌∙◌, ℕ, Some, None, set, ap, subst, arith}
use Rattle.kern_model.specs.KernelView.{pages_of}
use Rattle.kern_calls.specs.Steps.{IsPageAt, FollowsWord, with_owners}
use Rattle.kern_calls.proofs.FollowLemmas.{on_ok, followed_page, followed_none}
use Rattle.kern_calls.proofs.kernel.Kernel.follow_word.Goals as goal

pub returns-in-Some : goal.returns-in-Some
returns-in-Some c =
    let words = c.args.words.now in
    let count : c.pages.result ≡ pages_of words = let all = c.pages.ensures.pages in omega arith in
    let here : IsPageAt (pages_of words) c.args.addr c.in-Some.page = subst (λ (n : ℕ). IsPageAt n c.args.addr c.in-Some.page) count c.in-Some.ensures.found in
    let only : (q : ℕ) → IsPageAt (pages_of words) c.args.addr q → Some c.in-Some.page ≡ Some q = subst (λ (n : ℕ). (q : ℕ) → IsPageAt n c.args.addr q → Some c.in-Some.page ≡ Some q) count c.in-Some.ensures.only in
    on_ok c.pass.result (c.pass.new.self ≡ with_owners (set c.args.self.now.owners c.in-Some.page c.owner.result) c.args.self.now) (FollowsWord words c.args.addr c.args.self.now c.pass.new.self)
    (λ is. followed_page words c.args.addr c.in-Some.page c.args.self.now c.pass.new.self c.requires.count here only
    (is ∙ ap (λ (o : ℕ). with_owners (set c.args.self.now.owners c.in-Some.page o) c.args.self.now) c.owner.ensures))
    c.pass.ensures

pub returns-in-None : goal.returns-in-None
returns-in-None c =
    let words = c.args.words.now in
    let count : c.pages.result ≡ pages_of words = let all = c.pages.ensures.pages in omega arith in
    followed_none words c.args.addr c.args.self.now (subst (λ (n : ℕ). (q : ℕ) → IsPageAt n c.args.addr q → None ≡ Some q) count c.in-None.ensures.only)
