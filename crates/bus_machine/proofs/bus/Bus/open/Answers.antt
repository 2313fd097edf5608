use Rattle.std.proofs.Common.{ℕ, List, [], length, Err, sym, ap, subst, ◌∙◌, replicate, false}
use Rattle.std.proofs.lemmas.List.{length-replicate}
use Rattle.kern_model.specs.Rights.{closed_pkru}
use Rattle.bus_machine.proofs.Stores.{whole}
use Rattle.std.proofs.lemmas.Result.{err_from_is_err_and}
use Rattle.pm_words.specs.Word.{Word}
use Rattle.kern_model.specs.KernelRules.{IsFirstFault}
use Rattle.bus_model.proofs.Registers.{closed_pkrus_are}
use Rattle.kern_calls.specs.Calls.{IsMounted}
use Rattle.kern_calls.specs.declared.mount.MountFault.{MountFault}
use Rattle.bus_machine.specs.Opening.{settled_words}
use Rattle.bus_machine.proofs.Opened.{mounted_settled, tied_opened, passed_bad, passed_refusal, passed_done}
use Rattle.bus_machine.proofs.bus.Bus.open.Goals as goal

pub returns-in_err-kernel-clause-bad : goal.returns-in_err-kernel-clause-bad
returns-in_err-kernel-clause-bad c =
    let p = err_from_is_err_and c.from_residual.result c.from_residual.ensures.1 in
    passed_bad c.in_err-kernel.field-0.0 c.from_residual.result (IsFirstFault c.args.words) (p.1 ∙ ap (λ (f : MountFault). Err f) p.2) c.in_err-kernel.ensures.bad

pub returns-in_err-kernel-clause-refuses : goal.returns-in_err-kernel-clause-refuses
returns-in_err-kernel-clause-refuses c =
    let p = err_from_is_err_and c.from_residual.result c.from_residual.ensures.1 in
    passed_refusal c.in_err-kernel.field-0.0 c.from_residual.result (IsFirstFault c.args.words) (p.1 ∙ ap (λ (f : MountFault). Err f) p.2) c.in_err-kernel.ensures.refuses

pub returns-clause-bus : goal.returns-clause-bus
returns-clause-bus c =
    let words = c.in-Ok.ensures.ok ∙ ap settled_words c.in_ok-kernel.ensures.ok in
    let (callers, holders) = c.in_ok-kernel.ensures.fresh in
    let pkrus = c.in-Ok-vec.ensures.items_if_clones_equal (λ y e. e) ∙ ap (λ (x : ℕ). replicate 256 x) c.closed.ensures ∙ sym closed_pkrus_are in
    λ i. record {
      bus = record { words = words i; processes = (callers i).processes; threads = (callers i).threads; holders = holders i; pkrus = pkrus i };
      ended = [];
      down = false;
      failed = false;
    }

pub invariant_of-result : goal.invariant_of-result
invariant_of-result c =
    let kernel = c.in_ok-kernel.kernel in
    let (callers, holders) = c.in_ok-kernel.ensures.fresh in
    let pkrus = c.in-Ok-vec.ensures.items_if_clones_equal (λ y e. e) ∙ ap (λ (x : ℕ). replicate 256 x) c.closed.ensures in
    whole (ap (λ (l : List ℕ). length l) pkrus ∙ length-replicate 256 closed_pkru) (λ works. tied_opened _ kernel _
    (subst (λ (ws : List Word). IsMounted kernel ws) (sym c.in-Ok.ensures.ok)
    (mounted_settled kernel c.mount.new.words c.settle.ensures.size c.in_ok-kernel.ensures.sound_after c.in_ok-kernel.ensures.finished c.in_ok-kernel.ensures.told holders))
    callers pkrus)

pub returns-clause-refuses : goal.returns-clause-refuses
returns-clause-refuses c = passed_done c.in_ok-kernel.kernel _ (IsFirstFault c.args.words) c.in_ok-kernel.ensures.refuses
