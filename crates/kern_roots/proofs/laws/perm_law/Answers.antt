use Rattle.kern_roots.proofs.ChangingSets.{perm_is}
use Rattle.kern_roots.proofs.laws.perm_law.Goals as goal

pub returns : goal.returns
returns c = perm_is
