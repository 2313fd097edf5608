use Rattle.zo_ops.proofs.LookExits.{is_create, is_stat, pool_load_gives, missing_gives}
use Rattle.zo_ops.proofs.op.OpRun.missing.Goals as goal

pub returns-in-Create-clause-gives : goal.returns-in-Create-clause-gives
returns-in-Create-clause-gives c = rw (c.load.ensures.stage, c.load.ensures.step) (λ s k. pool_load_gives c.args.place c.pool_head.result c.args.self.now.mapped c.args.command.now s (is_create _ _ _ c.in-Create.is) c.pool_head.ensures k)

pub returns-in-Stat-clause-gives : goal.returns-in-Stat-clause-gives
returns-in-Stat-clause-gives c = λ s k. missing_gives c.args.place c.args.self.now.mapped c.args.command.now s (is_stat _ _ c.in-Stat.is) k
