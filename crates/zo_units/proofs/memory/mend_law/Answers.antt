use Rattle.zo_units.proofs.Places.{mend}
use Rattle.zo_units.proofs.memory.mend_law.Goals as goal

pub returns : goal.returns
returns c = mend
