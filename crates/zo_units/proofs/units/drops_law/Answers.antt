use Rattle.zo_units.proofs.Nodes.{drops}
use Rattle.zo_units.proofs.units.drops_law.Goals as goal

pub returns : goal.returns
returns c = drops
