use Rattle.zo_units.proofs.Places.{rise}
use Rattle.zo_units.proofs.memory.own_law.Goals as goal

pub returns : goal.returns
returns c = rise
