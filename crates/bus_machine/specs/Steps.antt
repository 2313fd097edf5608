-- What a step of a thread does on a bus, at a tick: its answer is right, and the bus is as after it.
use Rattle.std.specs.Prelude.{◌≡◌, ℕ}
use Rattle.bus_model.specs.Machine.{Answers, bus_after}
use Rattle.tr_types.specs.declared.action.Action.{Action}
use Rattle.tr_types.specs.declared.action.Answer.{Answer}
use Rattle.bus_machine.specs.View.{MachineView}
use Rattle.bus_machine.specs.Calls.{with_bus}

pub record Does (old new : MachineView) (thread now : ℕ) (action : Action) (answer : Answer) : Type 0 where
  pub answers : Answers old.bus thread now action answer
  pub after : new ≡ with_bus old (bus_after thread now action answer old.bus)
