use Rattle.std.proofs.Common.{arith}
use Rattle.std.proofs.lemmas.List.FromFn.{map-range_with_len_more}
use Rattle.kern_model.specs.Inner.{pair_at}
use Rattle.kern_journal.proofs.journal.committed.Goals as goal

pub loop-i-preserved : goal.loop-i-preserved
loop-i-preserved c =
    let more = map-range_with_len_more (pair_at c.args.words.now) 0 c.loop-i.i c.loop-i.i (omega arith) in
    let pushed = c.in_ok-push.ensures.items in
    cc
