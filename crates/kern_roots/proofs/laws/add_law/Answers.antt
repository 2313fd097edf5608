use Rattle.kern_roots.proofs.ChangingAdded.{add_is}
use Rattle.kern_roots.proofs.laws.add_law.Goals as goal

pub returns : goal.returns
returns c = add_is
