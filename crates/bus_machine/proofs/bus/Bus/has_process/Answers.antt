use Rattle.std.proofs.Common.{sym, subst}
use Rattle.std.specs.Prelude.{IsTrue, ◌↔◌}
use Rattle.bus_model.specs.Machine.{ProcessWasStarted}
use Rattle.bus_machine.specs.View.{MachineView}
use Rattle.bus_machine.proofs.Started.{process_iff}
use Rattle.bus_machine.proofs.bus.Bus.has_process.Goals as goal

pub returns : goal.returns
returns c =
    subst (λ (v : MachineView). IsTrue c.has_process.result ↔ ProcessWasStarted v.bus c.args.process) c.self.view_is
    (process_iff c.self.inside.kernel.callers c.args.process c.has_process.result c.has_process.ensures)
