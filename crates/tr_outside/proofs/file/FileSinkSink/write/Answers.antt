use Rattle.std.proofs.Common.{ap}
use Rattle.tr_outside.specs.Adapter.{AdapterState}
use Rattle.tr_outside.proofs.Answered.{writes_as}
use Rattle.tr_outside.proofs.file.FileSinkSink.write.Goals as goal

pub returns-clause-known : goal.returns-clause-known
returns-clause-known g c =
    writes_as c.args.self.now.known _ _ c.args.from.now c.write_opened-outcome.result c.counted_write.result
    (ap (λ (s : AdapterState). s.known) c.self.view_is)
    c.counted_write.ensures.same c.counted_write.ensures.failed c.write_opened-outcome.ensures.known
