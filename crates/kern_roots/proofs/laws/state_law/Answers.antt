use Rattle.kern_roots.proofs.ChangingSets.{state_is}
use Rattle.kern_roots.proofs.laws.state_law.Goals as goal

pub returns : goal.returns
returns c = state_is
