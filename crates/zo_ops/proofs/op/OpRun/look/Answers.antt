use Rattle.std.proofs.Common.{subst}
use Rattle.zo_ops.specs.Knows.{StageKnows}
use Rattle.zo_ops.proofs.LookExits.{look_load_gives, look_found_knows, look_missing_knows}
use Rattle.zo_ops.proofs.op.OpRun.look.Goals as goal

pub returns-in-Load-clause-gives : goal.returns-in-Load-clause-gives
returns-in-Load-clause-gives c = λ s k. look_load_gives c.args.self.now.mapped c.args.command.now c.in-Looking.look c.next.new.self c.args.answer.now c.next.result c.next.ensures.keeps c.next.ensures.gives c.in-Load.addr c.in-Load.is s
    (subst (λ t. StageKnows c.args.self.now.mapped c.args.command.now t c.args.answer.now s) c.in-Looking.is k)

pub returns-in-Found-clause-gives : goal.returns-in-Found-clause-gives
returns-in-Found-clause-gives c = λ s k. c.found.ensures.gives s
    (look_found_knows c.args.self.now.mapped c.args.command.now c.in-Looking.look c.next.new.self c.args.answer.now c.next.result c.next.ensures.keeps c.next.ensures.gives c.in-Found.place c.in-Found.target c.in-Found.is s
    (subst (λ t. StageKnows c.args.self.now.mapped c.args.command.now t c.args.answer.now s) c.in-Looking.is k))

pub returns-in-Missing-clause-gives : goal.returns-in-Missing-clause-gives
returns-in-Missing-clause-gives c = λ s k. c.missing.ensures.gives s
    (look_missing_knows c.args.self.now.mapped c.args.command.now c.in-Looking.look c.next.new.self c.args.answer.now c.next.result c.next.ensures.keeps c.next.ensures.gives c.in-Missing.place c.in-Missing.is s
    (subst (λ t. StageKnows c.args.self.now.mapped c.args.command.now t c.args.answer.now s) c.in-Looking.is k))
