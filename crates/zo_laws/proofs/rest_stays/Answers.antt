use Rattle.zo_laws.proofs.Trees.{rest_stays}
use Rattle.zo_laws.proofs.rest_stays.Goals as goal

pub returns : goal.returns
returns c = rest_stays
