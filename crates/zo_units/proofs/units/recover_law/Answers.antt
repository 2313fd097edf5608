use Rattle.zo_units.proofs.Starts.{recovers}
use Rattle.zo_units.proofs.units.recover_law.Goals as goal

pub returns : goal.returns
returns c = recovers
