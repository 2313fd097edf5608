use Rattle.std.proofs.Common.{◌≡◌, ℕ, ◌+◌, ◌*◌, List, [], ◌∷◌, refl, ap, subst, ◌∙◌, arith}
use Rattle.zo_layout.specs.Layout.{page_at}
use Rattle.pm_words.specs.Word.{Word}
use Rattle.kern_model.specs.declared.inner.Inner.{Inner}
use Rattle.kern_model.specs.declared.inner.Inner.TheVariants.{Flush}
use Rattle.kern_model.specs.Inner.{made, made_all, IsCut}
use Rattle.kern_commit.proofs.CutLemmas.{cut_in_first, row_more, flushes_are, where_err}
use Rattle.kern_commit.proofs.steps.flush_page.Goals as goal

pub loop-i-preserved : goal.loop-i-preserved
loop-i-preserved c =
    let addr : c.page_at.result + 64 * c.loop-i.i ≡ page_at c.args.page + 64 * c.loop-i.i = ap (λ (start : ℕ). start + 64 * c.loop-i.i) c.page_at.ensures in
    record {
      done =
          c.in_ok-make.ensures.ok ∙ ap (λ (a : ℕ). made c.loop-i.words (Flush a)) addr ∙ ap (λ (words : List Word). made words (Flush (page_at c.args.page + 64 * c.loop-i.i))) c.loop-i.invariant.done
          ∙ row_more (λ i. Flush (page_at c.args.page + 64 * i)) c.loop-i.i c.args.words.now;
      len = c.make.ensures.len ∙ c.loop-i.invariant.len;
    }

pub returns-in_err-make-clause-err : goal.returns-in_err-make-clause-err
returns-in_err-make-clause-err c =
    let lt = c.loop-i-test.true in
    let one : IsCut (Flush (page_at c.args.page + 64 * c.loop-i.i) ∷ []) c.loop-i.words c.make.new.words = (0, c.in_err-make.ensures.err) in
    let cut = subst (λ (words : List Word). IsCut (Flush (page_at c.args.page + 64 * c.loop-i.i) ∷ []) words c.make.new.words) c.loop-i.invariant.done one in
    where_err c.from_residual.result
    (subst (λ (es : List Inner). IsCut es c.args.words.now c.make.new.words) (flushes_are c.args.page 64 refl) (cut_in_first (λ i. Flush (page_at c.args.page + 64 * i)) 64 c.loop-i.i c.args.words.now c.make.new.words lt cut))

pub returns-clause-ok : goal.returns-clause-ok
returns-clause-ok c =
    let least = c.loop-i-test.false in
    let most = c.loop-i.auto.i-end in
    let all : c.loop-i.i ≡ 64 = omega (arith, least, most) in
    c.loop-i.invariant.done ∙ ap (λ (es : List Inner). made_all es c.args.words.now) (flushes_are c.args.page c.loop-i.i all)
