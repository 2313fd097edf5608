use Rattle.zo_laws.proofs.Trees.{tree_stays}
use Rattle.zo_laws.proofs.tree_stays.Goals as goal

pub returns : goal.returns
returns c = tree_stays
