use Rattle.zo_plan.proofs.Expiry.{expired}
use Rattle.zo_plan.proofs.laws.expired_law.Goals as goal

pub returns : goal.returns
returns c = expired
