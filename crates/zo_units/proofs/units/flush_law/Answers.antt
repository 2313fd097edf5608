use Rattle.zo_units.proofs.Steps.{flushes}
use Rattle.zo_units.proofs.units.flush_law.Goals as goal

pub returns : goal.returns
returns c = flushes
