use Rattle.kern_commit.proofs.OrderLemmas.{one_inserted_more}
use Rattle.kern_commit.proofs.steps.in_order.Goals as goal

pub loop-addr-preserved : goal.loop-addr-preserved
loop-addr-preserved c =
    one_inserted_more c.args.pairs.now c.loop-addr.addr-index (0, 0) c.loop-addr.by_address.entries c.insert.new.self.entries c.loop-addr-test.true c.loop-addr.invariant c.in_ok-insert.ensures.entries
