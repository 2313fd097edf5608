use Rattle.std.proofs.Common.{arith}
use Rattle.std.proofs.lemmas.Grind.{common_steps}
use Rattle.kern_plans.proofs.checks.count_each.Goals as goal

pub loop-page-preserved : goal.loop-page-preserved
loop-page-preserved c = λ page. grind (arith, common_steps, c.loop-page.invariant page)
