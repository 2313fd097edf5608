-- What callers see of a bus, by its parts.
use Rattle.std.proofs.Common.{◌≡◌, ℕ, List, [], ◌∷◌, ◌++◌, Bool, true, false, sym, ap, ◌∙◌, Result, Ok, Err}
use Rattle.std.specs.Prelude.{OnOk}
use Rattle.std.specs.declared.alloc.AllocError.{AllocError}
use Rattle.pm_words.specs.Word.{Word}
use Rattle.pm_words.specs.Crash.{after_crash}
use Rattle.tr_types.specs.declared.entry.Pick.{Pick}
use Rattle.tr_types.specs.declared.permission.Cred.{Cred}
use Rattle.kern_calls.specs.Calls.{KernelView, without_any_maps, with_process as kernel_with_process}
use Rattle.bus_model.specs.Machine.{choice_of, closed_pkrus, with_process}
use Rattle.bus_machine.specs.Calls.{with_bus, with_crash}
use Rattle.bus_machine.specs.Ties.{bus_of, ended_by}
use Rattle.bus_machine.specs.View.{MachineView}

abbrev pub view_of : List Word → KernelView → List ℕ → Bool → Bool → MachineView
view_of words kernel pkrus down failed = record { bus = bus_of words kernel pkrus; ended = ended_by down kernel.callers.processes; down = down; failed = failed }

-- while the machine is up nobody has ended, whoever was started
none_ended : (down : Bool) (old new : List (ℕ × Cred)) → down ≡ false → ended_by down new ≡ ended_by down old
none_ended down old new up = ap (λ (d : Bool). ended_by d new) up ∙ sym (ap (λ (d : Bool). ended_by d old) up)

-- a process is started
pub process_started : (words : List Word) (kernel after : KernelView) (pkrus : List ℕ) (down failed : Bool) (process : ℕ) (cred : Cred) → down ≡ false → (done : Result Unit AllocError)
    → (old : MachineView) → view_of words kernel pkrus down failed ≡ old → OnOk done (after ≡ kernel_with_process process cred kernel)
    → OnOk done (view_of words after pkrus down failed ≡ with_bus old (with_process process cred old.bus))
process_started words kernel after pkrus down failed process cred up (Ok x) old is step =
    ap (λ (k : KernelView). view_of words k pkrus down failed) step
    ∙ (λ i. record {
      bus = with_process process cred (bus_of words kernel pkrus);
      ended = none_ended down kernel.callers.processes (kernel.callers.processes ++ (process, cred) ∷ []) up i;
      down = down;
      failed = failed;
    })
    ∙ ap (λ (v : MachineView). with_bus v (with_process process cred v.bus)) is
process_started words kernel after pkrus down failed process cred up (Err e) old is step = tt

-- a crash has come
pub view_crashed : (words : List Word) (kernel after : KernelView) (pkrus closed : List ℕ) (down failed : Bool) (pick : Pick) (left : List Word)
    → left ≡ after_crash (choice_of pick) words → after ≡ without_any_maps kernel → closed ≡ closed_pkrus → view_of left after closed true failed ≡ with_crash pick (view_of words kernel pkrus down failed)
view_crashed words kernel after pkrus closed down failed pick left memory maps registers =
    (λ i. record {
      bus = bus_of (memory i) (maps i) (registers i);
      ended = ended_by true (maps i).callers.processes;
      down = true;
      failed = failed;
    })
