use Rattle.std.proofs.Common.{◌≡◌, subst}
use Rattle.bus_model.specs.Machine.{ThreadWasStarted, callers_of}
use Rattle.kern_model.specs.KernelCalls as calls
use Rattle.bus_machine.specs.View.{MachineView}
use Rattle.bus_machine.proofs.Started.{has_number}
use Rattle.bus_machine.proofs.bus.Bus.cred_of.Goals as goal

pub returns : goal.returns
returns c =
    subst (λ (v : MachineView). ThreadWasStarted v.bus c.args.thread → c.cred_of.result ≡ calls.cred_of (callers_of v.bus) c.args.thread) c.self.view_is
    (λ was. c.cred_of.ensures.cred (has_number c.self.inside.kernel.callers.threads c.args.thread was))
