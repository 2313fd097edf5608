use Rattle.std.proofs.Common.{List, subst}
use Rattle.std.proofs.lemmas.Result.{on_err_weaker}
use Rattle.pm_words.specs.Word.{Word}
use Rattle.kern_model.specs.Inner.{IsCut}
use Rattle.kern_model.specs.KernelCalls.{zero_events, stored_events}
use Rattle.kern_commit.proofs.CutLemmas.{cut_before, cut_after, where_err}
use Rattle.kern_commit.proofs.steps.commit.Goals as goal

pub returns-in_err-zero_pages-clause-err : goal.returns-in_err-zero_pages-clause-err
returns-in_err-zero_pages-clause-err c =
    where_err c.from_residual.result (cut_before (zero_events c.args.granted.now) (stored_events c.args.pairs.now) c.args.words.now c.zero_pages.new.words c.in_err-zero_pages.ensures.err)

pub returns-clause-err : goal.returns-clause-err
returns-clause-err c =
    on_err_weaker c.store_pairs.result
    (λ cut. cut_after (zero_events c.args.granted.now) (stored_events c.args.pairs.now) c.args.words.now c.store_pairs.new.words (subst (λ (words : List Word). IsCut (stored_events c.args.pairs.now) words c.store_pairs.new.words) c.in_ok-zero_pages.ensures.ok cut))
    c.store_pairs.ensures.err
