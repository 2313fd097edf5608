use Rattle.zo_units.proofs.Survives.{survives}
use Rattle.zo_units.proofs.units.survive_law.Goals as goal

pub returns : goal.returns
returns c = survives
