use Rattle.std.proofs.Common.{◌-◌, length}
use Rattle.tr_top.proofs.CallRuns.{FinishRuns}
use Rattle.tr_top.proofs.runner.Runner.finish.Given as goal

abbrev pub invariant-loop-self : goal.invariant-loop-self
invariant-loop-self g l =
    let written = g.O.Sink.written in
    let faults = g.O.Sink.faults in
    FinishRuns l.fn.self l.self l.thread (written l.fn.out) (written l.out) (faults l.fn.out) (faults l.out)

abbrev pub decreases-loop-self : goal.decreases-loop-self
decreases-loop-self g l = 4194304 - length l.self.core.trace
