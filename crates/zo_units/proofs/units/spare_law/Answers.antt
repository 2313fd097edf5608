use Rattle.zo_units.proofs.Frames.{spares}
use Rattle.zo_units.proofs.units.spare_law.Goals as goal

pub returns : goal.returns
returns c = spares
