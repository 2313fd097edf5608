use Rattle.zo_units.proofs.Telling.{aside}
use Rattle.zo_units.proofs.units.aside_law.Goals as goal

pub returns : goal.returns
returns c = aside
