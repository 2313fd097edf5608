use Rattle.std.proofs.Common.{sym, ap, subst, ◌∙◌}
use Rattle.kern_calls.specs.Calls.{KernelView, with_thread}
use Rattle.bus_model.specs.Machine.{ProcessWasStarted, ThreadWasStarted}
use Rattle.bus_machine.specs.Ties.{AreTied}
use Rattle.bus_machine.specs.View.{MachineView, IsUp}
use Rattle.bus_machine.proofs.Started.{none_started}
use Rattle.bus_machine.proofs.Stores.{either_way, whole, tied_thread}
use Rattle.bus_machine.proofs.bus.Bus.start_thread.Goals as goal

pub start_thread-requires-clause-small : goal.start_thread-requires-clause-small
start_thread-requires-clause-small c =
    (c.self.invariant.tied (subst IsUp (sym c.self.view_is) c.requires.works)).small c.args.process
    (subst (λ (v : MachineView). ProcessWasStarted v.bus c.args.process) (sym c.self.view_is) c.requires.process)

pub start_thread-requires-clause-fresh : goal.start_thread-requires-clause-fresh
start_thread-requires-clause-fresh c =
    none_started c.self.inside.kernel.callers.threads c.args.thread (λ was. c.requires.fresh (subst (λ (v : MachineView). ThreadWasStarted v.bus c.args.thread) c.self.view_is was))

pub invariant_of-self : goal.invariant_of-self
invariant_of-self c = whole c.self.invariant.count (λ works.
    let self = c.self.inside in
    let tied = c.self.invariant.tied works in
    either_way (λ (k : KernelView). AreTied self.words k self.pkrus.items) c.start_thread.result _ (with_thread c.args.thread c.args.process self.kernel) self.kernel
    c.start_thread.ensures.ok c.start_thread.ensures.err (tied_thread self.words self.kernel self.pkrus.items tied c.args.thread c.args.process c.requires.small) tied)
