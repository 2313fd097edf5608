use Rattle.zo_ops.proofs.CountExits.{count_load_gives, count_over_gives, count_not_damaged}
use Rattle.zo_ops.proofs.op.OpRun.count.Goals as goal

pub returns-in-Load-clause-gives : goal.returns-in-Load-clause-gives
returns-in-Load-clause-gives c = rw (c.load.ensures.stage, c.load.ensures.step) (λ command s k. count_load_gives c.args.self.now.mapped command c.args.count c.next.new.self c.args.answer.now c.next.result c.next.ensures.dir c.next.ensures.gives c.in-Load.addr c.in-Load.is s k)

pub returns-in-Counted-clause-gives : goal.returns-in-Counted-clause-gives
returns-in-Counted-clause-gives c = λ command s k. count_over_gives c.args.self.now.mapped command c.args.count c.next.new.self c.args.answer.now c.next.result c.next.ensures.dir c.next.ensures.gives c.in-Counted.names c.in-Counted.is s k

pub returns-in-Damaged-clause-gives : goal.returns-in-Damaged-clause-gives
returns-in-Damaged-clause-gives c = λ command s k. absurd (count_not_damaged c.args.self.now.mapped command c.args.count c.next.new.self c.args.answer.now c.next.result c.next.ensures.dir c.next.ensures.gives c.in-Damaged.addr c.in-Damaged.is s k)
