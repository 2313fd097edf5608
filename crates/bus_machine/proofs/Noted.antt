-- What the machine answers, of what its bus did.
use Rattle.std.proofs.Common.{◌≡◌, ℕ, ◌<◌, List, [], Bool, true, false, Option, Some, None, refl, sym, ap, subst, ◌∙◌, Result, Ok, Err, arith}
use Rattle.std.specs.Prelude.{IfOk, OnOk, MatchResult, Contains, is_some}
use Rattle.std.specs.declared.alloc.AllocError.{AllocError}
use Rattle.tr_types.specs.declared.action.Action.{Action}
use Rattle.tr_types.specs.declared.action.Answer.{Answer}
use Rattle.bus_model.specs.Machine.{ProcessWasStarted, ThreadWasStarted, with_process, with_thread}
use Rattle.kern_model.specs.Rights.{process_of}
use Rattle.tr_types.specs.declared.permission.Cred.{Cred}
use Rattle.bus_machine.specs.View.{MachineView}
use Rattle.bus_machine.specs.Calls.{with_bus, ActsAs, ProcessLives, StartsProcess, StartsThread, ThreadHasEnded, ThreadLives}
use Rattle.bus_machine.specs.Steps.{Does}
use Rattle.bus_machine.specs.Ties.{ended_by}
use Rattle.bus_machine.proofs.Started.{has_number}
use Rattle.bus_machine.specs.declared.fault.BusFault.{BusFault}
use Rattle.bus_machine.specs.declared.fault.BusFault.TheVariants.{NoMemory}

-- the machine after a step of its bus, which it notes where memory ran out
abbrev pub Notes : {T : Type 0} → MachineView → MachineView → Result T AllocError → Result T BusFault → Type 0
Notes mid after done result = MatchResult done (λ x. (result ≡ Ok x) × (after ≡ mid)) (λ _. (result ≡ Err NoMemory) × (after.failed ≡ true))

-- Who has ended, by whether a crash has come.

pub none_has_ended : (v : MachineView) (down : Bool) (process : ℕ) → down ≡ false → v.ended ≡ ended_by down v.bus.processes → Contains v.ended process → ⊥
none_has_ended v down process up ended among =
    let (k, lt, at) = subst (λ (l : List ℕ). Contains l process) (ended ∙ ap (λ (d : Bool). ended_by d v.bus.processes) up) among in
    omega arith

pub has_ended : (v : MachineView) (down : Bool) (process : ℕ) → down ≡ true → v.ended ≡ ended_by down v.bus.processes → ProcessWasStarted v.bus process → Contains v.ended process
has_ended v down process is ended among = subst (λ (l : List ℕ). Contains l process) (sym (ended ∙ ap (λ (d : Bool). ended_by d v.bus.processes) is)) among

pub thread_lives : (v : MachineView) (down : Bool) (thread : ℕ) → down ≡ false → v.ended ≡ ended_by down v.bus.processes → ThreadWasStarted v.bus thread → ThreadLives v thread
thread_lives v down thread up ended was = (was, λ process is among. none_has_ended v down process up ended among)

pub process_lives : (v : MachineView) (down : Bool) (process : ℕ) → down ≡ false → v.ended ≡ ended_by down v.bus.processes → ProcessWasStarted v.bus process → ProcessLives v process
process_lives v down process up ended was = (was, λ among. none_has_ended v down process up ended among)

pub thread_has_ended : (v : MachineView) (down : Bool) (thread : ℕ) → down ≡ true → v.ended ≡ ended_by down v.bus.processes → ((process : ℕ) → process_of v.bus.threads thread ≡ Some process → ProcessWasStarted v.bus process)
    → ThreadWasStarted v.bus thread → ThreadHasEnded v thread
thread_has_ended v down thread is ended housed was = by (process_of v.bus.threads thread) refl (has_number v.bus.threads thread was)
  where
    by : (o : Option ℕ) → process_of v.bus.threads thread ≡ o → is_some o ≡ true → ThreadHasEnded v thread
    by (Some process) of some = (process, of, has_ended v down process is ended (housed process of))
    by None of some = absurd cc

module _ (old mid after : MachineView) (works : old.failed ≡ false) where
  pub noted_act : (thread now : ℕ) (action : Action) (done : Result Answer AllocError) (result : Result Answer BusFault)
      → ThreadLives old thread → IfOk done (Does old mid thread now action) → Notes mid after done result → ActsAs old after thread now action result
  noted_act thread now action (Ok answer) result started step notes =
      subst (λ (r : Result Answer BusFault). ActsAs old after thread now action r) (sym notes.0) (works, started, step.answers, notes.1 ∙ step.after)
  noted_act thread now action (Err e) result started step notes =
      subst (λ (r : Result Answer BusFault). ActsAs old after thread now action r) (sym notes.0) (notes.1, λ _. started)

  pub noted_thread : (thread process : ℕ) (done : Result Unit AllocError) (result : Result Unit BusFault)
      → ProcessLives old process → (ThreadWasStarted old.bus thread → ⊥) → old.down ≡ false → OnOk done (mid ≡ with_bus old (with_thread thread process old.bus)) → Notes mid after done result
      → StartsThread old after thread process result
  noted_thread thread process (Ok x) result lives fresh up step notes =
      subst (λ (r : Result Unit BusFault). StartsThread old after thread process r) (sym notes.0) (works, lives, fresh, up, notes.1 ∙ step)
  noted_thread thread process (Err e) result lives fresh up step notes =
      subst (λ (r : Result Unit BusFault). StartsThread old after thread process r) (sym notes.0) (notes.1, λ _. (lives, fresh, up))

  pub noted_process : (process : ℕ) (cred : Cred) (done : Result Unit AllocError) (result : Result Unit BusFault)
      → (ProcessWasStarted old.bus process → ⊥) → old.down ≡ false → OnOk done (mid ≡ with_bus old (with_process process cred old.bus)) → Notes mid after done result
      → StartsProcess old after process cred result
  noted_process process cred (Ok x) result fresh up step notes =
      subst (λ (r : Result Unit BusFault). StartsProcess old after process cred r) (sym notes.0) (works, fresh, up, notes.1 ∙ step)
  noted_process process cred (Err e) result fresh up step notes =
      subst (λ (r : Result Unit BusFault). StartsProcess old after process cred r) (sym notes.0) (notes.1, λ _. (fresh, up))
