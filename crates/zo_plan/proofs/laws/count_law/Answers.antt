use Rattle.zo_plan.proofs.Lengths.{count}
use Rattle.zo_plan.proofs.laws.count_law.Goals as goal

pub returns : goal.returns
returns c = count
