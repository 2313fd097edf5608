use Rattle.zo_ops.proofs.SeenLaws.{some_root}
use Rattle.zo_ops.proofs.op.OpRun.fill.Goals as goal

pub returns-in-None-clause-gives : goal.returns-in-None-clause-gives
returns-in-None-clause-gives c = λ s k. absurd (some_root c.args.self.now.mapped c.args.command.now k.base k.lacks.ground c.in-None.ensures)
