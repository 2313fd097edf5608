use Rattle.std.proofs.Common.{sym, subst}
use Rattle.tr_types.specs.declared.action.Action.{Action}
use Rattle.tr_types.specs.declared.entry.Mark.TheVariants.{Plain}
use Rattle.tr_dispatch.specs.Sessions.{LeadsTo}
use Rattle.tr_dispatch.specs.declared.session.SessionStep.TheVariants as step
use Rattle.tr_dispatch.specs.declared.session.Stage.TheVariants as stage
use Rattle.tr_dispatch.proofs.Exits.{unmap_gives}
use Rattle.tr_dispatch.proofs.session.Session.unmap.Goals as goal

pub returns-clause-gives : goal.returns-clause-gives
returns-clause-gives c = λ answer.
    subst (λ (a : Action). LeadsTo c.args.self.now.thread c.args.self.now.command (stage.Closing c.args.reply) answer (stage.Ending c.args.reply) (step.Act a Plain)) (sym c.in_ok-unmap.ensures)
    (unmap_gives c.args.self.now.thread c.args.self.now.command answer c.args.reply)
