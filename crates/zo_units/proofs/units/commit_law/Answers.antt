use Rattle.zo_units.proofs.Linked.{links}
use Rattle.zo_units.proofs.units.commit_law.Goals as goal

pub returns : goal.returns
returns c = links
