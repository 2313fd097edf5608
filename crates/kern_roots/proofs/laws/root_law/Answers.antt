use Rattle.kern_roots.proofs.ChangingSets.{root_is}
use Rattle.kern_roots.proofs.laws.root_law.Goals as goal

pub returns : goal.returns
returns c = root_is
