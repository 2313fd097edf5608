-- What ties the parts of a bus together.
use Rattle.std.specs.Prelude.{◌≡◌, ℕ, ◌<◌, List, [], length, map, Bool, true, false}
use Rattle.pm_words.specs.Word.{Word}
use Rattle.tr_types.specs.declared.limits.TheConstants.{PROCESSES, THREADS}
use Rattle.tr_types.specs.declared.permission.Cred.{Cred}
use Rattle.bus_model.specs.Machine.{Bus, ProcessWasStarted, HasRegisters}
use Rattle.kern_calls.specs.Calls.{KernelView, IsMounted}

-- a memory, the kernel over it and the registers of the threads, as a bus
abbrev pub bus_of : List Word → KernelView → List ℕ → Bus
bus_of words kernel pkrus = record {
  words = words;
  processes = kernel.callers.processes;
  threads = kernel.callers.threads;
  holders = kernel.holders;
  pkrus = pkrus;
}

-- The kernel stands over the memory, each thread has a register, and the numbers of processes are small enough to be started.
pub record AreTied (words : List Word) (kernel : KernelView) (pkrus : List ℕ) : Type 0 where
  pub mounted : IsMounted kernel words
  pub registers : HasRegisters (bus_of words kernel pkrus)
  pub small : (process : ℕ) → ProcessWasStarted (bus_of words kernel pkrus) process → process < PROCESSES

-- who has ended: everyone who was started, where the machine is down
abbrev pub ended_by : Bool → List (ℕ × Cred) → List ℕ
ended_by true processes = map (λ p. p.0) processes
ended_by false processes = []

-- What always holds: the registers have their number, and the parts are tied as long as the machine is up.
pub record IsSoundBus (words : List Word) (kernel : KernelView) (pkrus : List ℕ) (down failed : Bool) : Type 0 where
  pub count : length pkrus ≡ THREADS
  pub tied : (failed ≡ false) × (down ≡ false) → AreTied words kernel pkrus
