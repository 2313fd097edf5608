use Rattle.std.proofs.Common.{sym, subst}
use Rattle.tr_types.specs.declared.action.Action.{Action}
use Rattle.tr_types.specs.declared.entry.Mark.TheVariants.{Plain}
use Rattle.tr_dispatch.specs.Sessions.{GivesAction, LeadsTo}
use Rattle.tr_dispatch.specs.declared.session.SessionStep.TheVariants as step
use Rattle.tr_dispatch.specs.declared.session.Stage.TheVariants as stage
use Rattle.tr_dispatch.proofs.Exits.{find_built, find_gives}
use Rattle.tr_dispatch.proofs.session.Session.find.Goals as goal

pub returns-clause-built : goal.returns-clause-built
returns-clause-built c = λ valid.
    subst (λ (a : Action). GivesAction (step.Act a Plain)) (sym c.in_ok-look.ensures) (find_built c.args.self.now.command c.in_ok-path.path valid c.in_ok-path.ensures)

pub returns-clause-gives : goal.returns-clause-gives
returns-clause-gives c = λ answer.
    subst (λ (a : Action). LeadsTo c.args.self.now.thread c.args.self.now.command stage.Begin answer stage.Finding (step.Act a Plain)) (sym c.in_ok-look.ensures)
    (find_gives c.args.self.now.thread c.args.self.now.command answer c.in_ok-path.path c.in_ok-path.ensures)
