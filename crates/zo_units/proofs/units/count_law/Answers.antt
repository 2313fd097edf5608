use Rattle.zo_units.proofs.Counts.{counts}
use Rattle.zo_units.proofs.units.count_law.Goals as goal

pub returns : goal.returns
returns c = counts
