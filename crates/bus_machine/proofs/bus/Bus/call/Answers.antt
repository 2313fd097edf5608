use Rattle.std.proofs.Common.{◌≡◌, sym, subst}
use Rattle.tr_types.specs.declared.kernel_call.KernAnswer.{KernAnswer}
use Rattle.tr_types.specs.declared.action.Action.TheVariants.{Kernel}
use Rattle.tr_types.specs.declared.action.Answer.TheVariants.{Kern}
use Rattle.bus_model.specs.Machine.{ThreadWasStarted}
use Rattle.bus_machine.specs.View.{MachineView}
use Rattle.bus_machine.specs.Steps.{Does}
use Rattle.bus_machine.proofs.Viewed.{view_of}
use Rattle.bus_machine.proofs.Called.{may_call, done_by, does_call}
use Rattle.bus_machine.proofs.Started.{has_number}
use Rattle.bus_machine.proofs.Stores.{tied_called, whole}
use Rattle.bus_machine.proofs.bus.Bus.call.Goals as goal

pub call-requires-clause-caller : goal.call-requires-clause-caller
call-requires-clause-caller c =
    may_call c.self.inside.kernel.callers c.args.thread c.args.call.now
    (has_number c.self.inside.kernel.callers.threads c.args.thread (subst (λ (v : MachineView). ThreadWasStarted v.bus c.args.thread) (sym c.self.view_is) c.requires.started))

pub invariant_of-self-in_err-new-in_default : goal.invariant_of-self-in_err-new-in_default
invariant_of-self-in_err-new-in_default c = whole c.self.invariant.count (λ works.
    let self = c.self.inside in
    tied_called self.words self.kernel self.pkrus.items (c.self.invariant.tied works) c.args.thread c.args.now c.args.call.now c.call.result c.call.new.self c.call.new.words
    (done_by self.kernel self.words c.args.thread c.args.now c.args.call.now c.call.result c.call.new.self c.call.new.words c.in_default.not-NoMemory c.call.ensures.answered))

pub invariant_of-self-in_default : goal.invariant_of-self-in_default
invariant_of-self-in_default c = whole c.self.invariant.count (λ works.
    let self = c.self.inside in
    tied_called self.words self.kernel self.pkrus.items (c.self.invariant.tied works) c.args.thread c.args.now c.args.call.now c.call.result c.call.new.self c.call.new.words
    (done_by self.kernel self.words c.args.thread c.args.now c.args.call.now c.call.result c.call.new.self c.call.new.words c.in_default.not-NoMemory c.call.ensures.answered))

pub returns-in_ok-new-in_default : goal.returns-in_ok-new-in_default
returns-in_ok-new-in_default c =
    let self = c.self.inside in
    let done = done_by self.kernel self.words c.args.thread c.args.now c.args.call.now c.call.result c.call.new.self c.call.new.words c.in_default.not-NoMemory c.call.ensures.answered in
    let same : c.in_ok-new-in_default.field-0 ≡ c.call.result = c.in_ok-new-in_default.ensures in
    subst (λ (v : MachineView). Does v (view_of c.call.new.words c.call.new.self self.pkrus.items self.down self.failed) c.args.thread c.args.now (Kernel c.args.call.now) (Kern c.in_ok-new-in_default.field-0)) c.self.view_is
    (does_call self.words self.kernel self.pkrus.items self.down self.failed c.args.thread c.args.now c.args.call.now c.call.result c.in_ok-new-in_default.field-0 same c.call.new.self c.call.new.words done)
