use Rattle.kern_model.proofs.EventLemmas.{one_pair_more}
use Rattle.kern_journal.proofs.events.journal_words.Goals as goal

pub loop-i-preserved : goal.loop-i-preserved
loop-i-preserved c =
    let more = one_pair_more c.args.pairs.now c.loop-i.i (0, 0) c.loop-i-test.true in
    let first = c.in_ok-push.ensures.items in
    let second = c.in_ok-push-2.ensures.items in
    cc
