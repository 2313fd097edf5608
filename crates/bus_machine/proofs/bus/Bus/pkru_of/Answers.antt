use Rattle.std.proofs.Common.{◌≡◌, ◌<◌, ℕ, List, length, slice_index_or, ap, sym, subst, ◌∙◌, arith}
use Rattle.std.proofs.lemmas.List.{get_or_read}
use Rattle.bus_model.specs.Machine.{ThreadWasStarted, pkru_of}
use Rattle.kern_model.specs.Rights.{closed_pkru}
use Rattle.bus_machine.specs.View.{MachineView, IsUp}
use Rattle.bus_machine.proofs.bus.Bus.pkru_of.Goals as goal

pub index-requires : goal.index-requires
index-requires c =
    let tied = c.self.invariant.tied (subst IsUp (sym c.self.view_is) c.requires.works) in
    let count = tied.registers.count in
    let small = tied.registers.small c.args.thread (subst (λ (v : MachineView). ThreadWasStarted v.bus c.args.thread) (sym c.self.view_is) c.requires.started) in
    let same = c.from.ensures in
    omega arith

pub returns : goal.returns
returns c =
    let tied = c.self.invariant.tied (subst IsUp (sym c.self.view_is) c.requires.works) in
    let count = tied.registers.count in
    let small = tied.registers.small c.args.thread (subst (λ (v : MachineView). ThreadWasStarted v.bus c.args.thread) (sym c.self.view_is) c.requires.started) in
    let same = c.from.ensures in
    let inside : c.from.result < length c.self.inside.pkrus.items = omega arith in
    get_or_read c.self.inside.pkrus.items c.from.result c.index.result.now inside c.index.ensures closed_pkru
    ∙ ap (λ (n : ℕ). slice_index_or c.self.inside.pkrus.items n closed_pkru) same
    ∙ ap (λ (v : MachineView). pkru_of v.bus c.args.thread) c.self.view_is
