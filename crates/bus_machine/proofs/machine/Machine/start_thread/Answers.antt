use Rattle.std.proofs.Common.{◌≡◌, ◌⊎◌, inr, Contains, true, refl, sym, subst, ◌∙◌}
use Rattle.std.proofs.lemmas.Bool.{iff_false}
use Rattle.bus_model.specs.Machine.{ProcessWasStarted, ThreadWasStarted}
use Rattle.bus_machine.specs.View.{MachineView}
use Rattle.bus_machine.specs.Calls.{StartsThread, IsRefused}
use Rattle.bus_machine.proofs.Noted.{noted_thread, process_lives}
use Rattle.bus_machine.proofs.machine.Machine.start_thread.Goals as goal

pub returns-then-not-has_process : goal.returns-then-not-has_process
returns-then-not-has_process c =
    subst (λ (old : MachineView). IsRefused old old × (ProcessWasStarted old.bus c.args.process → ⊥)) c.self.view_is
    ((sym c.has_failed.ensures ∙ c.if-has_failed.false, refl), iff_false c.has_process.ensures c.if-not-has_process.true)

pub returns-then-has_thread : goal.returns-then-has_thread
returns-then-has_thread c =
    subst (λ (old : MachineView). IsRefused old old × ProcessWasStarted old.bus c.args.process × ThreadWasStarted old.bus c.args.thread) c.self.view_is
    ((sym c.has_failed.ensures ∙ c.if-has_failed.false, refl), c.has_process.ensures.0 c.if-not-has_process.false, c.has_thread.ensures.was.0 c.if-has_thread.true)

pub returns-then-is_down : goal.returns-then-is_down
returns-then-is_down c =
    subst (λ (old : MachineView). IsRefused old old × ProcessWasStarted old.bus c.args.process × (ThreadWasStarted old.bus c.args.thread → ⊥) × (Contains old.ended c.args.process ⊎ (old.down ≡ true))) c.self.view_is
    ((sym c.has_failed.ensures ∙ c.if-has_failed.false, refl), c.has_process.ensures.0 c.if-not-has_process.false, iff_false c.has_thread.ensures.was c.if-has_thread.false, inr (sym c.is_down.ensures.down ∙ c.if-is_down.true))

pub returns : goal.returns
returns c =
    subst (λ (old : MachineView). StartsThread old c.noted.new.bus c.args.thread c.args.process c.noted.result) c.self.view_is
    (noted_thread c.self.inside.bus c.start_thread-done.new.self c.noted.new.bus (sym c.has_failed.ensures ∙ c.if-has_failed.false) c.args.thread c.args.process c.start_thread-done.result c.noted.result
    (process_lives c.self.inside.bus c.is_down.result c.args.process c.if-is_down.false c.is_down.ensures.ended (c.has_process.ensures.0 c.if-not-has_process.false))
    (iff_false c.has_thread.ensures.was c.if-has_thread.false) (sym c.is_down.ensures.down ∙ c.if-is_down.false) c.start_thread-done.ensures c.noted.ensures)
