use Rattle.std.proofs.Common.{◌≡◌, true, refl, sym, subst, ◌∙◌}
use Rattle.std.proofs.lemmas.Bool.{iff_false}
use Rattle.bus_model.specs.Machine.{ProcessWasStarted}
use Rattle.bus_machine.specs.View.{MachineView}
use Rattle.bus_machine.specs.Calls.{StartsProcess, IsRefused}
use Rattle.bus_machine.proofs.Noted.{noted_process}
use Rattle.bus_machine.proofs.machine.Machine.start_process.Goals as goal

pub returns-then-has_process : goal.returns-then-has_process
returns-then-has_process c =
    subst (λ (old : MachineView). IsRefused old old × ProcessWasStarted old.bus c.args.process) c.self.view_is
    ((sym c.has_failed.ensures ∙ c.if-has_failed.false, refl), c.has_process.ensures.0 c.if-has_process.true)

pub returns-then-is_down : goal.returns-then-is_down
returns-then-is_down c =
    subst (λ (old : MachineView). IsRefused old old × (ProcessWasStarted old.bus c.args.process → ⊥) × (old.down ≡ true)) c.self.view_is
    ((sym c.has_failed.ensures ∙ c.if-has_failed.false, refl), iff_false c.has_process.ensures c.if-has_process.false, sym c.is_down.ensures.down ∙ c.if-is_down.true)

pub returns : goal.returns
returns c =
    subst (λ (old : MachineView). StartsProcess old c.noted.new.bus c.args.process c.args.cred c.noted.result) c.self.view_is
    (noted_process c.self.inside.bus c.start_process-done.new.self c.noted.new.bus (sym c.has_failed.ensures ∙ c.if-has_failed.false) c.args.process c.args.cred c.start_process-done.result c.noted.result
    (iff_false c.has_process.ensures c.if-has_process.false) (sym c.is_down.ensures.down ∙ c.if-is_down.false) c.start_process-done.ensures c.noted.ensures)
