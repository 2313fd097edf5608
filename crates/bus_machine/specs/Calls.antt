-- What each call of a machine answers, and what it leaves, by cases on the answer. A fault but NoMemory leaves all as it
-- was. NoMemory leaves the machine failed; a failed machine answers NoMemory, and nothing else.
use Rattle.std.specs.Prelude.{◌≡◌, ◌⊎◌, ℕ, Contains, Some, true, false, Result, Ok, Err}
use Rattle.kern_model.specs.Rights.{process_of}
use Rattle.bus_model.specs.Machine.{Bus, Answers, ProcessWasStarted, ThreadWasStarted, bus_after, crashed, process_numbers, with_process, with_thread}
use Rattle.tr_types.specs.declared.action.Action.{Action}
use Rattle.tr_types.specs.declared.action.Answer.{Answer}
use Rattle.tr_types.specs.declared.entry.Pick.{Pick}
use Rattle.tr_types.specs.declared.permission.Cred.{Cred}
use Rattle.bus_machine.specs.View.{MachineView}
use Rattle.bus_machine.specs.declared.fault.BusFault.{BusFault}
use Rattle.bus_machine.specs.declared.fault.BusFault.TheVariants.{NoThread, NoProcess, Started, Dead, NoMemory}

-- the bus has moved on, and nothing else
abbrev pub with_bus : MachineView → Bus → MachineView
with_bus old bus = record { bus = bus; ended = old.ended; down = old.down; failed = old.failed }

-- a crash has come
abbrev pub with_crash : Pick → MachineView → MachineView
with_crash pick old = record { bus = crashed pick old.bus; ended = process_numbers old.bus; down = true; failed = old.failed }

-- who lives, and which thread has ended with its process

abbrev pub ProcessLives : MachineView → ℕ → Type 0
ProcessLives v process = ProcessWasStarted v.bus process × (Contains v.ended process → ⊥)

abbrev pub ThreadLives : MachineView → ℕ → Type 0
ThreadLives v thread = ThreadWasStarted v.bus thread × ((process : ℕ) → process_of v.bus.threads thread ≡ Some process → Contains v.ended process → ⊥)

abbrev pub ThreadHasEnded : MachineView → ℕ → Type 0
ThreadHasEnded v thread = (process : ℕ) × (process_of v.bus.threads thread ≡ Some process) × Contains v.ended process

-- a fault of a machine that hadn't failed
abbrev pub IsRefused : MachineView → MachineView → Type 0
IsRefused old new = (old.failed ≡ false) × (new ≡ old)

abbrev pub StartsProcess : MachineView → MachineView → ℕ → Cred → Result Unit BusFault → Type 0
StartsProcess old new process cred (Ok done) =
    (old.failed ≡ false) × (ProcessWasStarted old.bus process → ⊥) × (old.down ≡ false) × (new ≡ with_bus old (with_process process cred old.bus))
StartsProcess old new process cred (Err Started) = IsRefused old new × ProcessWasStarted old.bus process
StartsProcess old new process cred (Err Dead) = IsRefused old new × (ProcessWasStarted old.bus process → ⊥) × (old.down ≡ true)
StartsProcess old new process cred (Err NoMemory) = (new.failed ≡ true) × (old.failed ≡ false → (ProcessWasStarted old.bus process → ⊥) × (old.down ≡ false))
StartsProcess old new process cred (Err fault) = ⊥

abbrev pub StartsThread : MachineView → MachineView → ℕ → ℕ → Result Unit BusFault → Type 0
StartsThread old new thread process (Ok done) =
    (old.failed ≡ false) × ProcessLives old process × (ThreadWasStarted old.bus thread → ⊥) × (old.down ≡ false) × (new ≡ with_bus old (with_thread thread process old.bus))
StartsThread old new thread process (Err NoProcess) = IsRefused old new × (ProcessWasStarted old.bus process → ⊥)
StartsThread old new thread process (Err Started) = IsRefused old new × ProcessWasStarted old.bus process × ThreadWasStarted old.bus thread
StartsThread old new thread process (Err Dead) =
    IsRefused old new × ProcessWasStarted old.bus process × (ThreadWasStarted old.bus thread → ⊥) × (Contains old.ended process ⊎ (old.down ≡ true))
StartsThread old new thread process (Err NoMemory) =
    (new.failed ≡ true) × (old.failed ≡ false → ProcessLives old process × (ThreadWasStarted old.bus thread → ⊥) × (old.down ≡ false))
StartsThread old new thread process (Err NoThread) = ⊥

-- a step of a thread at a tick
abbrev pub ActsAs : MachineView → MachineView → ℕ → ℕ → Action → Result Answer BusFault → Type 0
ActsAs old new thread now action (Ok answer) =
    (old.failed ≡ false) × ThreadLives old thread × Answers old.bus thread now action answer × (new ≡ with_bus old (bus_after thread now action answer old.bus))
ActsAs old new thread now action (Err NoThread) = IsRefused old new × (ThreadWasStarted old.bus thread → ⊥)
ActsAs old new thread now action (Err Dead) = IsRefused old new × ThreadWasStarted old.bus thread × ThreadHasEnded old thread
ActsAs old new thread now action (Err NoMemory) = (new.failed ≡ true) × (old.failed ≡ false → ThreadLives old thread)
ActsAs old new thread now action (Err fault) = ⊥
