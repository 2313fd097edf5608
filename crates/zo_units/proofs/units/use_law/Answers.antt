use Rattle.zo_units.proofs.Steps.{uses}
use Rattle.zo_units.proofs.units.use_law.Goals as goal

pub returns : goal.returns
returns c = uses
