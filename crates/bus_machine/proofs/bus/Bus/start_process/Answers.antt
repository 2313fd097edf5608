use Rattle.std.proofs.Common.{sym, subst}
use Rattle.kern_calls.specs.Calls.{KernelView, with_process}
use Rattle.bus_machine.specs.Ties.{AreTied}
use Rattle.bus_machine.specs.View.{IsUp}
use Rattle.bus_machine.proofs.Viewed.{view_of, process_started}
use Rattle.bus_machine.proofs.Stores.{either_way, whole, tied_process}
use Rattle.bus_machine.proofs.bus.Bus.start_process.Goals as goal

pub invariant_of-self : goal.invariant_of-self
invariant_of-self c = whole c.self.invariant.count (λ works.
    let self = c.self.inside in
    let tied = c.self.invariant.tied works in
    either_way (λ (k : KernelView). AreTied self.words k self.pkrus.items) c.start_process.result _ (with_process c.args.process c.args.cred self.kernel) self.kernel
    c.start_process.ensures.ok c.start_process.ensures.err (tied_process self.words self.kernel self.pkrus.items tied c.args.process c.args.cred c.requires.small) tied)

pub returns : goal.returns
returns c =
    let self = c.self.inside in
    let works : IsUp (view_of self.words self.kernel self.pkrus.items self.down self.failed) = subst IsUp (sym c.self.view_is) c.requires.works in
    process_started self.words self.kernel c.start_process.new.self self.pkrus.items self.down self.failed c.args.process c.args.cred works.1 c.start_process.result c.args.self.now c.self.view_is c.start_process.ensures.ok
