use Rattle.kern_roots.proofs.ChangingDrop.{drop_is}
use Rattle.kern_roots.proofs.laws.drop_law.Goals as goal

pub returns : goal.returns
returns c = drop_is
