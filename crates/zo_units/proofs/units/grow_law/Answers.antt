use Rattle.zo_units.proofs.Steps.{grows}
use Rattle.zo_units.proofs.units.grow_law.Goals as goal

pub returns : goal.returns
returns c = grows
