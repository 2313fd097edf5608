use Rattle.zo_shared.proofs.AllDeeds.{relies}
use Rattle.zo_shared.proofs.laws.rely_law.Goals as goal

pub returns : goal.returns
returns c = relies
