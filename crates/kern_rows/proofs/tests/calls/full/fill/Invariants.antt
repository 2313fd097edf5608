use Rattle.kern_calls.specs.Calls.{IsMounted}
use Rattle.kern_rows.proofs.tests.calls.full.fill.Given as goal

abbrev pub invariant-loop-name : goal.invariant-loop-name
invariant-loop-name l = IsMounted l.stand.kernel l.stand.words
