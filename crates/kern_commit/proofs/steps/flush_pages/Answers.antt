use Rattle.std.proofs.Common.{List, get_or, ap, subst, ◌∙◌}
use Rattle.pm_words.specs.Word.{Word}
use Rattle.kern_model.specs.Inner.{made_all, IsCut}
use Rattle.kern_commit.specs.Pages.{page_flushes}
use Rattle.kern_commit.proofs.CutLemmas.{cut_in_pages, pages_more, where_err}
use Rattle.kern_commit.proofs.steps.flush_pages.Goals as goal

pub loop-page-preserved : goal.loop-page-preserved
loop-page-preserved c =
    let i = c.loop-page.page-index in
    record {
      done =
          c.in_ok-flush_page.ensures.ok ∙ ap (made_all (page_flushes (get_or c.args.granted.now i 0))) c.loop-page.invariant.done
          ∙ pages_more page_flushes c.args.granted.now i 0 c.args.words.now c.loop-page-test.true;
      len = c.flush_page.ensures.len ∙ c.loop-page.invariant.len;
    }

pub returns-in_err-flush_page-clause-err : goal.returns-in_err-flush_page-clause-err
returns-in_err-flush_page-clause-err c =
    let i = c.loop-page.page-index in
    where_err c.from_residual.result
    (cut_in_pages page_flushes c.args.granted.now i 0 c.args.words.now c.flush_page.new.words c.loop-page-test.true
    (subst (λ (words : List Word). IsCut (page_flushes (get_or c.args.granted.now i 0)) words c.flush_page.new.words) c.loop-page.invariant.done c.in_err-flush_page.ensures.err))
