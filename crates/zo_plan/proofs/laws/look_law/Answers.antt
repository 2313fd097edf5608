use Rattle.zo_plan.proofs.Looking.{looked_law}
use Rattle.zo_plan.proofs.laws.look_law.Goals as goal

pub returns : goal.returns
returns c = looked_law
