use Rattle.std.proofs.Common.{length, sym, arith}
use Rattle.std.proofs.lemmas.Bool.{eqb-false}
use Rattle.kern_commit.proofs.CountLemmas.{zero_length}
use Rattle.kern_commit.proofs.steps.count_zero_events.Goals as goal

pub returns : goal.returns
returns c =
    let some = eqb-false (length c.args.granted.now) 0 (sym c.if-is_empty.ensures) in
    sym (zero_length c.args.granted.now (omega (arith, some)))
