use Rattle.std.proofs.Common.{sym, subst}
use Rattle.tr_types.specs.declared.action.Action.TheVariants.{Pkru}
use Rattle.tr_types.specs.declared.entry.Mark.TheVariants.{Close}
use Rattle.zo_ops.specs.Knows.{StepsFrom}
use Rattle.tr_dispatch.specs.Sessions.{LeadsTo}
use Rattle.tr_dispatch.specs.declared.session.SessionStep.TheVariants as step
use Rattle.tr_dispatch.specs.declared.session.Stage.TheVariants as stage
use Rattle.tr_dispatch.proofs.Exits.{act_gives, close_gives}
use Rattle.tr_dispatch.proofs.session.Session.work.Goals as goal

pub returns-in-Act-clause-gives : goal.returns-in-Act-clause-gives
returns-in-Act-clause-gives c =
    subst (λ s. LeadsTo c.args.self.now.thread c.args.self.now.command s c.args.answer.now (stage.Working c.next.new.self) (step.Act c.in-Act.action c.in-Act.mark)) (sym c.in-Working.is)
    (act_gives c.args.self.now.thread c.args.self.now.command c.args.answer.now c.in-Working.op c.next.new.self c.in-Act.mark c.in-Act.action
    (subst (StepsFrom c.in-Working.op c.args.self.now.command c.args.answer.now c.next.new.self) c.in-Act.is c.in_ok-action.ensures.gives))

pub returns-in-Over-clause-gives : goal.returns-in-Over-clause-gives
returns-in-Over-clause-gives c =
    subst (λ s. LeadsTo c.args.self.now.thread c.args.self.now.command s c.args.answer.now (stage.Closing c.in-Over.reply) (step.Act (Pkru c.closed.result.0) Close)) (sym c.in-Working.is)
    (close_gives c.args.self.now.thread c.args.self.now.command c.args.answer.now c.in-Working.op c.next.new.self c.in-Over.reply c.closed.result.0 c.closed.ensures
    (subst (StepsFrom c.in-Working.op c.args.self.now.command c.args.answer.now c.next.new.self) c.in-Over.is c.in_ok-action.ensures.gives))
