use Rattle.std.proofs.Common.{refl, sym, subst, ◌∙◌}
use Rattle.std.proofs.lemmas.Bool.{iff_false}
use Rattle.bus_model.specs.Machine.{ThreadWasStarted}
use Rattle.bus_machine.specs.View.{MachineView}
use Rattle.bus_machine.specs.Calls.{ActsAs, IsRefused, ThreadHasEnded}
use Rattle.bus_machine.proofs.Noted.{noted_act, thread_has_ended, thread_lives}
use Rattle.bus_machine.proofs.machine.Machine.act.Goals as goal

pub returns-then-not-has_thread : goal.returns-then-not-has_thread
returns-then-not-has_thread c =
    subst (λ (old : MachineView). IsRefused old old × (ThreadWasStarted old.bus c.args.thread → ⊥)) c.self.view_is
    ((sym c.has_failed.ensures ∙ c.if-has_failed.false, refl), iff_false c.has_thread.ensures.was c.if-not-has_thread.true)

pub returns-then-is_down : goal.returns-then-is_down
returns-then-is_down c =
    let was = c.has_thread.ensures.was.0 c.if-not-has_thread.false in
    subst (λ (old : MachineView). IsRefused old old × ThreadWasStarted old.bus c.args.thread × ThreadHasEnded old c.args.thread) c.self.view_is
    ((sym c.has_failed.ensures ∙ c.if-has_failed.false, refl), was, thread_has_ended c.self.inside.bus c.is_down.result c.args.thread c.if-is_down.true c.is_down.ensures.ended c.has_thread.ensures.housed was)

pub returns : goal.returns
returns c =
    subst (λ (old : MachineView). ActsAs old c.noted.new.bus c.args.thread c.args.now c.args.action.now c.noted.result) c.self.view_is
    (noted_act c.self.inside.bus c.act-done.new.self c.noted.new.bus (sym c.has_failed.ensures ∙ c.if-has_failed.false) c.args.thread c.args.now c.args.action.now c.act-done.result c.noted.result
    (thread_lives c.self.inside.bus c.is_down.result c.args.thread c.if-is_down.false c.is_down.ensures.ended (c.has_thread.ensures.was.0 c.if-not-has_thread.false)) c.act-done.ensures c.noted.ensures)
