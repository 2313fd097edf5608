use Rattle.std.proofs.Common.{ap}
use Rattle.tr_outside.specs.Adapter.{AdapterState}
use Rattle.tr_outside.proofs.Answered.{reads_as}
use Rattle.tr_outside.proofs.standard.StdSourceSource.read.Goals as goal

pub returns-clause-known : goal.returns-clause-known
returns-clause-known g c =
    reads_as c.args.self.now.known _ _ c.read_opened-outcome.new.into c.read_opened-outcome.result c.counted.result
    (ap (λ (s : AdapterState). s.known) c.self.view_is)
    c.counted.ensures.same c.counted.ensures.failed c.read_opened-outcome.ensures.known
