use Rattle.std.proofs.Common.{arith}
use Rattle.kern_commit.proofs.CountLemmas.{zero_few}
use Rattle.kern_commit.proofs.steps.count_events.Goals as goal

pub overflow_add-result : goal.overflow_add-result
overflow_add-result c =
    let zeros = zero_few c.args.granted.now c.requires.few in
    let is = c.count_zero_events.ensures in
    let few = c.in_ok-count_stored_events.ensures.few in
    omega (arith, zeros, is, few)
