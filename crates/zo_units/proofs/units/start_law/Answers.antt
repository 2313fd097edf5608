use Rattle.zo_units.proofs.Starts.{starts}
use Rattle.zo_units.proofs.units.start_law.Goals as goal

pub returns : goal.returns
returns c = starts
