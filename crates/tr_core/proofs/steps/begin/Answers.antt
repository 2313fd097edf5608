use Rattle.std.proofs.Common.{◌≡◌, sym, subst, ◌∙◌}
use Rattle.tr_types.specs.declared.action.Answer.TheVariants.{Done}
use Rattle.zo_model.specs.Commands.{IsCommand}
use Rattle.tr_dispatch.specs.Sessions.{LeadsTo, RunsOn, GivesAction}
use Rattle.tr_dispatch.specs.declared.session.Stage.TheVariants as stage
use Rattle.tr_core.specs.declared.calls.Ready.{Ready}
use Rattle.tr_core.proofs.steps.begin.Goals as goal

pub returns-clause-begins : goal.returns-clause-begins
returns-clause-begins c =
    let is = sym c.in_ok-call.ensures.ok in
    let leads =
    subst (λ t. LeadsTo t c.args.command stage.Begin Done c.next.new.self.stage c.in_ok-next.next) c.begin-session.ensures.thread
    (subst (λ d. LeadsTo c.begin-session.result.thread d stage.Begin Done c.next.new.self.stage c.in_ok-next.next) c.begin-session.ensures.command
    (subst (λ s. LeadsTo c.begin-session.result.thread c.begin-session.result.command s Done c.next.new.self.stage c.in_ok-next.next) c.begin-session.ensures.stage
    c.in_ok-next.ensures.gives)) in
    record {
      thread_is = subst (λ (r : Ready). r.session.thread ≡ c.args.thread) is (c.in_ok-next.ensures.thread ∙ c.begin-session.ensures.thread);
      command_is = subst (λ (r : Ready). r.session.command ≡ c.args.command) is (c.in_ok-next.ensures.command ∙ c.begin-session.ensures.command);
      leads = subst (λ (r : Ready). LeadsTo c.args.thread c.args.command stage.Begin Done r.session.stage r.next) is leads;
      runs = subst (λ (r : Ready). RunsOn r.session.stage r.next) is c.in_ok-next.ensures.runs;
      gives = subst (λ (r : Ready). GivesAction r.next) is (c.in_ok-next.ensures.built (subst IsCommand (sym c.begin-session.ensures.command) c.requires));
    }
