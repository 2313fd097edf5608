use Rattle.zo_laws.proofs.Trees.{one_tree}
use Rattle.zo_laws.proofs.one_tree.Goals as goal

pub returns : goal.returns
returns c = one_tree
