use Rattle.std.proofs.Common.{sym, subst}
use Rattle.tr_types.specs.declared.action.Action.{Action}
use Rattle.tr_types.specs.declared.entry.Mark.TheVariants.{Plain}
use Rattle.tr_dispatch.specs.Sessions.{GivesAction, LeadsTo}
use Rattle.tr_dispatch.specs.declared.session.SessionStep.TheVariants as step
use Rattle.tr_dispatch.specs.declared.session.Stage.TheVariants as stage
use Rattle.tr_dispatch.proofs.Exits.{map_built, map_gives}
use Rattle.tr_dispatch.proofs.session.Session.map.Goals as goal

pub returns-clause-built : goal.returns-clause-built
returns-clause-built c = λ valid.
    subst (λ (a : Action). GivesAction (step.Act a Plain)) (sym c.in_ok-map.ensures)
    (map_built c.args.self.now.command c.in_ok-consulted_path.field-0 c.right_of.result valid c.in_ok-consulted_path.ensures c.right_of.ensures)

pub returns-clause-gives : goal.returns-clause-gives
returns-clause-gives c =
    subst (λ (a : Action). LeadsTo c.args.self.now.thread c.args.self.now.command stage.Finding c.args.answer.now stage.Mapping (step.Act a Plain)) (sym c.in_ok-map.ensures)
    (map_gives c.args.self.now.thread c.args.self.now.command c.args.answer.now c.in_ok-consulted_path.field-0 c.right_of.result c.in_ok-consulted_path.ensures c.right_of.ensures)
