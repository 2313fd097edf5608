use Rattle.kern_calls.proofs.MapLemmas.{past_one}
use Rattle.kern_calls.proofs.maps.cred_in.Goals as goal

pub loop-started-preserved : goal.loop-started-preserved
loop-started-preserved c =
    let at = c.loop-started in
    let next = past_one c.args.processes.now at.started-index c.args.process _ _ c.loop-started-test.true c.if-started-process.false at.invariant.reads at.invariant.there in
    record { reads = next.0; there = next.1 }
