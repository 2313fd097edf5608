use Rattle.std.proofs.Common.{ap, sym, subst, ◌∙◌, arith}
use Rattle.std.proofs.lemmas.List.{length-set}
use Rattle.bus_model.specs.Machine.{ThreadWasStarted}
use Rattle.bus_machine.specs.View.{MachineView, IsUp}
use Rattle.bus_machine.proofs.Stores.{tied_register, whole}
use Rattle.bus_machine.proofs.bus.Bus.set_pkru.Goals as goal

pub index_mut-requires : goal.index_mut-requires
index_mut-requires c =
    let tied = c.self.invariant.tied (subst IsUp (sym c.self.view_is) c.requires.works) in
    let count = tied.registers.count in
    let small = tied.registers.small c.args.thread (subst (λ (v : MachineView). ThreadWasStarted v.bus c.args.thread) (sym c.self.view_is) c.requires.started) in
    let same = c.from.ensures in
    omega arith

pub invariant_of-self : goal.invariant_of-self
invariant_of-self c =
    whole (length-set c.self.inside.pkrus.items c.from.result c.args.pkru ∙ c.self.invariant.count) (λ works.
    tied_register c.self.inside.words c.self.inside.kernel c.self.inside.pkrus.items (c.self.invariant.tied works) c.from.result c.args.pkru)
