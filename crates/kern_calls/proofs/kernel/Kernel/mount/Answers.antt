use Rattle.std.proofs.Common.{ℕ, Err, Option, MatchOption, inl, ap, subst}
use Rattle.kern_model.specs.KernelRules.{IsFirstFault, IsSoundKernel}
use Rattle.kern_model.specs.Inner.{redo_events}
use Rattle.kern_view.proofs.FaultLemmas.{one_fault}
use Rattle.kern_calls.specs.declared.mount.MountFault.TheVariants.{BadKernel}
use Rattle.kern_calls.proofs.MountLemmas.{still_sound, mounted_fresh, steady_fresh, whole_cut}
use Rattle.kern_calls.proofs.kernel.Kernel.mount.Goals as goal

pub returns-in-Some-clause-refuses : goal.returns-in-Some-clause-refuses
returns-in-Some-clause-refuses c = λ place first.
    let words = c.args.words.now in
    let found : IsFirstFault words c.in-Some.place =
    subst (λ (fault : Option ℕ). MatchOption fault (IsSoundKernel words) (IsFirstFault words)) c.in-Some.is c.in_ok-first_fault.ensures.fault in
    inl (ap (λ (at : ℕ). Err (BadKernel at)) (one_fault words c.in-Some.place place found first))

pub over-requires : goal.over-requires
over-requires c =
    let words = c.args.words.now in
    let sound : IsSoundKernel words =
    subst (λ (fault : Option ℕ). MatchOption fault (IsSoundKernel words) (IsFirstFault words)) c.in-None.is c.in_ok-first_fault.ensures.fault in
    still_sound words c.redo.new.words c.view_law.ensures.finished c.in_ok-first_fault.ensures.size sound c.in_ok-redo.ensures.ok

pub returns-clause-sound_after : goal.returns-clause-sound_after
returns-clause-sound_after c =
    let words = c.args.words.now in
    let sound : IsSoundKernel words =
    subst (λ (fault : Option ℕ). MatchOption fault (IsSoundKernel words) (IsFirstFault words)) c.in-None.is c.in_ok-first_fault.ensures.fault in
    still_sound words c.redo.new.words c.view_law.ensures.finished c.in_ok-first_fault.ensures.size sound c.in_ok-redo.ensures.ok

pub returns-clause-mounted : goal.returns-clause-mounted
returns-clause-mounted c =
    let words = c.args.words.now in
    let sound : IsSoundKernel words =
    subst (λ (fault : Option ℕ). MatchOption fault (IsSoundKernel words) (IsFirstFault words)) c.in-None.is c.in_ok-first_fault.ensures.fault in
    λ idle. mounted_fresh words c.redo.new.words c.in_ok-kernel.kernel c.view_law.ensures.finished c.in_ok-first_fault.ensures.size sound c.in_ok-redo.ensures.ok c.in_ok-kernel.ensures idle

pub returns-in_err-kernel-clause-no_memory : goal.returns-in_err-kernel-clause-no_memory
returns-in_err-kernel-clause-no_memory c = λ no. whole_cut (redo_events c.args.words.now) c.args.words.now c.redo.new.words c.in_ok-redo.ensures.ok

pub returns-clause-steady : goal.returns-clause-steady
returns-clause-steady c =
    let words = c.args.words.now in
    let sound : IsSoundKernel words =
    subst (λ (fault : Option ℕ). MatchOption fault (IsSoundKernel words) (IsFirstFault words)) c.in-None.is c.in_ok-first_fault.ensures.fault in
    steady_fresh words c.redo.new.words c.in_ok-first_fault.ensures.size sound c.in_ok-redo.ensures.ok
