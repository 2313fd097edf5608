use Rattle.std.proofs.Common.{◌≡◌}
use Rattle.tr_top.proofs.LineRuns.{LineRuns}
use Rattle.tr_top.proofs.runner.Runner.run.Given as goal

abbrev pub invariant-loop-line : goal.invariant-loop-line
invariant-loop-line g l =
    let written = g.O.Sink.written in
    let faults = g.O.Sink.faults in
    record {
      items : l.line-items ≡ l.fn.self.lines;
      runs : LineRuns l.fn.self l.self l.line-index (written l.fn.out) (written l.out) (faults l.fn.out) (faults l.out);
    }
