use Rattle.std.proofs.Common.{◌≡◌, ℕ, List, [], ◌∷◌, refl, ap, subst, ◌∙◌, arith}
use Rattle.zo_layout.specs.Layout.{page_at, word_of}
use Rattle.pm_words.specs.Word.{Word}
use Rattle.kern_model.specs.declared.inner.Inner.{Inner}
use Rattle.kern_model.specs.declared.inner.Inner.TheVariants.{Store}
use Rattle.kern_model.specs.Inner.{made, made_all, IsCut}
use Rattle.kern_commit.proofs.CutLemmas.{cut_in_first, row_more, zeros_are, where_err}
use Rattle.kern_commit.proofs.steps.zero_page.Goals as goal

pub loop-i-preserved : goal.loop-i-preserved
loop-i-preserved c =
    let addr : c.word_of-addr.result ≡ word_of (page_at c.args.page) c.loop-i.i = c.word_of-addr.ensures ∙ ap (λ (start : ℕ). word_of start c.loop-i.i) c.page_at.ensures in
    record {
      done =
          c.in_ok-make.ensures.ok ∙ ap (λ (a : ℕ). made c.loop-i.words (Store a 0)) addr ∙ ap (λ (words : List Word). made words (Store (word_of (page_at c.args.page) c.loop-i.i) 0)) c.loop-i.invariant.done
          ∙ row_more (λ i. Store (word_of (page_at c.args.page) i) 0) c.loop-i.i c.args.words.now;
      len = c.make.ensures.len ∙ c.loop-i.invariant.len;
    }

pub returns-in_err-make-clause-err : goal.returns-in_err-make-clause-err
returns-in_err-make-clause-err c =
    let lt = c.loop-i-test.true in
    let one : IsCut (Store (word_of (page_at c.args.page) c.loop-i.i) 0 ∷ []) c.loop-i.words c.make.new.words = (0, c.in_err-make.ensures.err) in
    let cut = subst (λ (words : List Word). IsCut (Store (word_of (page_at c.args.page) c.loop-i.i) 0 ∷ []) words c.make.new.words) c.loop-i.invariant.done one in
    where_err c.from_residual.result
    (subst (λ (es : List Inner). IsCut es c.args.words.now c.make.new.words) (zeros_are c.args.page 512 refl) (cut_in_first (λ i. Store (word_of (page_at c.args.page) i) 0) 512 c.loop-i.i c.args.words.now c.make.new.words lt cut))

pub returns-clause-ok : goal.returns-clause-ok
returns-clause-ok c =
    let least = c.loop-i-test.false in
    let most = c.loop-i.auto.i-end in
    let all : c.loop-i.i ≡ 512 = omega (arith, least, most) in
    c.loop-i.invariant.done ∙ ap (λ (es : List Inner). made_all es c.args.words.now) (zeros_are c.args.page c.loop-i.i all)
