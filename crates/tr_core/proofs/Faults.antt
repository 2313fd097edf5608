-- Which of the machine's faults can come: want of memory alone, where nobody has ended and the names are right.
use Rattle.std.proofs.Common.{◌≡◌, ℕ, List, [], ◌<◌, inl, inr, Bool, true, false, sym, ap, subst, ◌∙◌, Result, Ok, Err, arith}
use Rattle.std.specs.Prelude.{Contains}
use Rattle.bus_model.specs.Machine.{ProcessWasStarted, ThreadWasStarted}
use Rattle.bus_machine.specs.View.{MachineView}
use Rattle.bus_machine.specs.Calls.{ActsAs, StartsProcess, StartsThread}
use Rattle.bus_machine.specs.declared.fault.BusFault.{BusFault}
use Rattle.bus_machine.specs.declared.fault.BusFault.TheVariants.{NoThread, NoProcess, Started, Dead, NoMemory}
use Rattle.tr_types.specs.declared.action.Action.{Action}
use Rattle.tr_types.specs.declared.action.Answer.{Answer}
use Rattle.tr_types.specs.declared.permission.Cred.{Cred}
use Rattle.tr_core.specs.Steps.{NobodyHasEnded}

abbrev fault_of : {T : Type 0} → Result T BusFault → BusFault
fault_of (Err fault) = fault
fault_of (Ok x) = NoMemory

none_among : (l : List ℕ) (n : ℕ) → l ≡ [] → Contains l n → ⊥
none_among l n none among = let (k, lt, at) = subst (λ (l : List ℕ). Contains l n) none among in omega arith

not_both : {b : Bool} → b ≡ false → b ≡ true → ⊥
not_both up down = cc

module _ (old new : MachineView) (up : NobodyHasEnded old) where
  pub act_fault : (thread now : ℕ) (action : Action) (result : Result Answer BusFault) → ActsAs old new thread now action result → ThreadWasStarted old.bus thread
      → (fault : BusFault) → result ≡ Err fault → fault ≡ NoMemory
  act_fault thread now action (Ok answer) acts was fault is = absurd cc
  act_fault thread now action (Err NoThread) acts was fault is = absurd (acts.1 was)
  act_fault thread now action (Err NoProcess) acts was fault is = absurd acts
  act_fault thread now action (Err Started) acts was fault is = absurd acts
  act_fault thread now action (Err Dead) acts was fault is = absurd (none_among old.ended acts.2.0 up.1 acts.2.2)
  act_fault thread now action (Err NoMemory) acts was fault is = sym (ap fault_of is)

  pub process_fault : (process : ℕ) (cred : Cred) (result : Result Unit BusFault) → StartsProcess old new process cred result → (ProcessWasStarted old.bus process → ⊥)
      → (fault : BusFault) → result ≡ Err fault → fault ≡ NoMemory
  process_fault process cred (Ok x) starts fresh fault is = absurd cc
  process_fault process cred (Err NoThread) starts fresh fault is = absurd starts
  process_fault process cred (Err NoProcess) starts fresh fault is = absurd starts
  process_fault process cred (Err Started) starts fresh fault is = absurd (fresh starts.1)
  process_fault process cred (Err Dead) starts fresh fault is = absurd (not_both up.0 starts.2)
  process_fault process cred (Err NoMemory) starts fresh fault is = sym (ap fault_of is)

  pub thread_fault : (thread process : ℕ) (result : Result Unit BusFault) → StartsThread old new thread process result → (ThreadWasStarted old.bus thread → ⊥) → ProcessWasStarted old.bus process
      → (fault : BusFault) → result ≡ Err fault → fault ≡ NoMemory
  thread_fault thread process (Ok x) starts fresh among fault is = absurd cc
  thread_fault thread process (Err NoThread) starts fresh among fault is = absurd starts
  thread_fault thread process (Err NoProcess) starts fresh among fault is = absurd (starts.1 among)
  thread_fault thread process (Err Started) starts fresh among fault is = absurd (fresh starts.2)
  thread_fault thread process (Err Dead) starts fresh among fault is = absurd (elim starts.3 [
    | inl ended ↦ none_among old.ended process up.1 ended
    | inr down ↦ not_both up.0 down
  ])
  thread_fault thread process (Err NoMemory) starts fresh among fault is = sym (ap fault_of is)
