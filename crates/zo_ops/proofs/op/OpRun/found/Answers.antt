use Rattle.zo_ops.proofs.LookExits.{is_create, is_stat, exists_gives, kind_load_gives}
use Rattle.zo_ops.proofs.op.OpRun.found.Goals as goal

pub returns-in-Create-clause-gives : goal.returns-in-Create-clause-gives
returns-in-Create-clause-gives c = λ s k. exists_gives c.args.target c.args.self.now.mapped c.args.command.now s (is_create _ _ _ c.in-Create.is) k

pub returns-in-To-clause-gives : goal.returns-in-To-clause-gives
returns-in-To-clause-gives c = rw (c.load.ensures.stage, c.load.ensures.step) (λ s k. kind_load_gives c.args.target c.in-To.file c.page_kind.result c.args.self.now.mapped c.args.command.now s (is_stat _ _ c.in-Stat.is) (c.of.ensures.to c.in-To.file c.in-To.is) c.page_kind.ensures k)
