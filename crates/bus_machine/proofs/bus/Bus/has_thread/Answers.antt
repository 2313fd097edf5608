use Rattle.std.proofs.Common.{ℕ, Option, ap, subst, ◌∙◌}
use Rattle.std.specs.Prelude.{IsTrue, ◌↔◌, is_some}
use Rattle.bus_model.specs.Machine.{ThreadWasStarted}
use Rattle.bus_machine.specs.View.{MachineView}
use Rattle.bus_machine.proofs.Started.{thread_iff}
use Rattle.bus_machine.proofs.bus.Bus.has_thread.Goals as goal

pub returns-clause-was : goal.returns-clause-was
returns-clause-was c =
    subst (λ (v : MachineView). IsTrue c.is_some.result ↔ ThreadWasStarted v.bus c.args.thread) c.self.view_is
    (thread_iff c.self.inside.kernel.callers.threads c.args.thread c.is_some.result (c.is_some.ensures ∙ ap (λ (o : Option ℕ). is_some o) c.process_of.ensures.process))

pub returns-clause-housed : goal.returns-clause-housed
returns-clause-housed c = rw (← c.self.view_is) (c.process_of.ensures.started)
