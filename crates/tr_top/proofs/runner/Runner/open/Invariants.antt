use Rattle.std.proofs.Common.{◌-◌, length}
use Rattle.tr_top.proofs.CallRuns.{OpenRuns}
use Rattle.tr_top.proofs.runner.Runner.open.Given as goal

abbrev pub invariant-loop-mark : goal.invariant-loop-mark
invariant-loop-mark g l =
    let written = g.O.Sink.written in
    let faults = g.O.Sink.faults in
    OpenRuns l.fn.self l.self l.thread (written l.fn.out) (written l.out) (faults l.fn.out) (faults l.out)

abbrev pub decreases-loop-mark : goal.decreases-loop-mark
decreases-loop-mark g l = 4194304 - length l.self.core.trace
