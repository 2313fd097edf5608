use Rattle.kern_calls.specs.Calls.{IsMounted}
use Rattle.kern_stand.proofs.stand.Stand.wrong_lines.Given as goal

abbrev pub invariant-loop-line : goal.invariant-loop-line
invariant-loop-line l = IsMounted l.self.kernel l.self.words
