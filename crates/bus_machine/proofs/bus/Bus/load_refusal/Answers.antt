use Rattle.std.proofs.Common.{ℕ, ◌/◌, sym, ap, subst, ◌∙◌, arith, ◌≡◌}
use Rattle.kern_model.specs.Kernel.{kernel_owner}
use Rattle.bus_model.specs.Machine.{ThreadWasStarted, pkru_of, load_refusal}
use Rattle.kern_model.specs.Rights.{load_fault}
use Rattle.bus_machine.specs.View.{MachineView, IsUp}
use Rattle.bus_machine.specs.Ties.{bus_of}
use Rattle.bus_machine.proofs.Accesses.{page_inside, load_by_rights}
use Rattle.bus_machine.proofs.Started.{has_number}
use Rattle.bus_machine.proofs.bus.Bus.load_refusal.Goals as goal

pub overflow_cast-page : goal.overflow_cast-page
overflow_cast-page c =
    let self = c.self.inside in
    let tied = c.self.invariant.tied (subst IsUp (sym c.self.view_is) c.requires.works) in
    let size = tied.mounted.working.size in
    let word = sym c.has_word.ensures ∙ c.if-not-has_word.false in
    let inside = page_inside self.words c.args.addr size word in
    let most = size.most in
    omega arith

pub may_load-requires : goal.may_load-requires
may_load-requires c = has_number c.self.inside.kernel.callers.threads c.args.thread (subst (λ (v : MachineView). ThreadWasStarted v.bus c.args.thread) (sym c.self.view_is) c.requires.started)

pub returns : goal.returns
returns c =
    let self = c.self.inside in
    let tied = c.self.invariant.tied (subst IsUp (sym c.self.view_is) c.requires.works) in
    let mounted = tied.mounted in
    let word = sym c.has_word.ensures ∙ c.if-not-has_word.false in
    let inside = page_inside self.words c.args.addr mounted.working.size word in
    let bus = bus_of self.words self.kernel self.pkrus.items in
    c.may_load.ensures.inside self.words mounted inside
    ∙ ap (λ (pkru : ℕ). load_fault self.kernel.callers.threads self.kernel.holders c.args.thread pkru (kernel_owner self.words (c.args.addr / 4096))) (c.pkru_of.ensures ∙ ap (λ (v : MachineView). pkru_of v.bus c.args.thread) (sym c.self.view_is))
    ∙ sym (load_by_rights bus c.args.thread c.args.addr word)
    ∙ ap (λ (v : MachineView). load_refusal v.bus c.args.thread c.args.addr) c.self.view_is
