use Rattle.std.proofs.Common.{sym, ◌∙◌}
use Rattle.zo_ops.proofs.StoreExits.{run_acts, run_act_gives, run_done_gives, run_not_damaged}
use Rattle.zo_ops.proofs.op.OpRun.store.Goals as goal

pub returns-in-Act-clause-gives : goal.returns-in-Act-clause-gives
returns-in-Act-clause-gives c = λ command s k. run_act_gives c.args.self.now.mapped command c.args.run c.next.new.self c.args.answer.now c.in-Act.action c.in-Act.mark (sym c.next.ensures.step ∙ c.in-Act.is) c.next.ensures.left s k

pub returns-in-Done-clause-gives : goal.returns-in-Done-clause-gives
returns-in-Done-clause-gives c = λ command s k. run_done_gives c.args.self.now.mapped command c.args.run c.next.new.self c.args.answer.now (sym c.next.ensures.step ∙ c.in-Done.is) s k

pub returns-in-Damaged-clause-gives : goal.returns-in-Damaged-clause-gives
returns-in-Damaged-clause-gives c = λ command s k. absurd (run_not_damaged c.args.self.now.mapped command c.args.run c.next.new.self c.args.answer.now c.in-Damaged.addr (sym c.next.ensures.step ∙ c.in-Damaged.is) s k)

pub returns-in-Act-clause-acts : goal.returns-in-Act-clause-acts
returns-in-Act-clause-acts c = run_acts c.args.self.now.mapped c.args.answer.now c.args.run c.in-Act.action c.in-Act.mark (sym c.next.ensures.step ∙ c.in-Act.is)
