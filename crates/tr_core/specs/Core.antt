-- What callers see of a core, and what each call answers and leaves, by cases on the answer. A fault but NoMemory leaves all
-- as it was. After NoMemory the trace is as it was, and each later call answers NoMemory.
use Rattle.std.specs.Prelude.{◌≡◌, ◌≢◌, ℕ, ◌<◌, ◌≤◌, List, [], ◌∷◌, ◌++◌, length, slice_get, Bool, true, false, Option, Some, None, IsSome, is_none, Result, Ok, Err}
use Rattle.pm_words.specs.Word.{Word}
use Rattle.pm_words.specs.Memory.{all_durable}
use Rattle.kern_model.specs.NewImage.{new_image}
use Rattle.bus_model.specs.Machine.{ProcessWasStarted, ThreadWasStarted, IsDue}
use Rattle.tr_types.specs.declared.command.Command.{Command}
use Rattle.tr_types.specs.declared.entry.Entry.{Entry}
use Rattle.tr_types.specs.declared.entry.Entry.TheVariants as entry
use Rattle.tr_types.specs.declared.entry.Mark.{Mark}
use Rattle.tr_types.specs.declared.entry.Mark.TheVariants.{Plain}
use Rattle.tr_types.specs.declared.limits.TheConstants.{PROCESSES, THREADS}
use Rattle.zo_model.specs.Alone.{root_cred}
use Rattle.tr_model.specs.Worlds.{World, put}
use Rattle.tr_core.specs.declared.limits.TheConstants.{TRACE_LIMIT}
use Rattle.tr_core.specs.declared.event.FaultEvent.{FaultEvent}
use Rattle.tr_core.specs.declared.event.FaultEvent.TheVariants as event
use Rattle.tr_core.specs.declared.fault.CoreFault.{CoreFault}
use Rattle.tr_core.specs.declared.fault.CoreFault.TheVariants.{NoThread, Idle, Running, Full, NoMemory}
use Rattle.tr_core.specs.declared.run.Turned.{Turned}
use Rattle.tr_core.specs.Traces.{world_after}

pub record CoreView : Type 0 where
  -- the words of the image over which it opened
  pub opening : List ℕ
  pub trace : List Entry
  -- for each thread, the mark of its next action; Plain where its reply comes next, none where it has no call
  pub marks : List (Option Mark)
  -- memory ran out in an earlier call
  pub failed : Bool

abbrev pub due_in : Option (Option Mark) → Option Mark
due_in None = None
due_in (Some due) = due

-- the mark of a thread's next action
abbrev pub due_at : CoreView → ℕ → Option Mark
due_at c thread = due_in (slice_get c.marks thread)

-- the world after its trace
abbrev pub world_at : CoreView → World
world_at c = world_after c.opening c.trace

abbrev pub HasProcess : CoreView → ℕ → Type 0
HasProcess c process = ProcessWasStarted (world_at c).base.machine.bus process

abbrev pub HasThread : CoreView → ℕ → Type 0
HasThread c thread = ThreadWasStarted (world_at c).base.machine.bus thread

-- no thread has a call
abbrev pub IsQuiet : CoreView → Type 0
IsQuiet c = (thread : ℕ) → due_at c thread ≡ None

-- an entry may have this tick
abbrev pub IsDueAt : CoreView → ℕ → Type 0
IsDueAt c now = IsDue (world_at c).base.machine now

-- the memory of a new image, all of whose words are durable
pub record IsNew (words : List Word) : Type 0 where
  pub pages : ℕ
  pub least : 64 ≤ pages
  pub most : pages ≤ 16384
  pub image : words ≡ all_durable (new_image pages)

-- The event can be told now. Each number is started once, the first entry alone makes the image, and users are uid 0 as
-- long as there is one coffer. A store goes astray while its thread has no call, so that its window is closed.
abbrev pub MayHappen : CoreView → FaultEvent → Type 0
MayHappen c (event.Mkfs pages) = (c.trace ≡ []) × (c.opening ≡ new_image pages)
MayHappen c (event.Process process cred) = (process < PROCESSES) × (HasProcess c process → ⊥) × (cred ≡ root_cred)
MayHappen c (event.Thread thread process) = (thread < THREADS) × (HasThread c thread → ⊥)
MayHappen c (event.Stray thread addr word) = due_at c thread ≡ None

-- what an event names was started
abbrev pub IsNamed : CoreView → FaultEvent → Type 0
IsNamed c (event.Mkfs pages) = Unit {0}
IsNamed c (event.Process process cred) = Unit {0}
IsNamed c (event.Thread thread process) = HasProcess c process
IsNamed c (event.Stray thread addr word) = HasThread c thread

-- the entry of an event
abbrev pub IsStrayOf : ℕ → ℕ → ℕ → Entry → Type 0
IsStrayOf thread addr word (entry.Stray t a w answer) = (t ≡ thread) × (a ≡ addr) × (w ≡ word)
IsStrayOf thread addr word e = ⊥

abbrev pub IsOfEvent : FaultEvent → Entry → Type 0
IsOfEvent (event.Mkfs pages) e = e ≡ entry.Mkfs pages
IsOfEvent (event.Process process cred) e = e ≡ entry.Process process cred
IsOfEvent (event.Thread thread process) e = e ≡ entry.Thread thread process
IsOfEvent (event.Stray thread addr word) e = IsStrayOf thread addr word e

-- the entry of a turn of a thread whose next action has this mark, and whether the call has ended by it
abbrev pub IsTurnOf : ℕ → ℕ → Mark → Bool → Entry → Type 0
IsTurnOf thread now mark false (entry.Act t n m action answer) = (t ≡ thread) × (n ≡ now) × (m ≡ mark)
IsTurnOf thread now mark true (entry.Reply t reply) = (t ≡ thread) × (mark ≡ Plain)
IsTurnOf thread now mark ended e = ⊥

-- a core that had not failed, and is as it was
abbrev pub IsRefused : CoreView → CoreView → Type 0
IsRefused old new = (old.failed ≡ false) × (new ≡ old)

-- memory has run out
pub record HasFailed (old new : CoreView) : Type 0 where
  pub failed : new.failed ≡ true
  pub opening : new.opening ≡ old.opening
  pub trace : new.trace ≡ old.trace

-- the trace has gained an entry
pub record Adds (old new : CoreView) (e : Entry) : Type 0 where
  pub worked : old.failed ≡ false
  pub works : new.failed ≡ false
  pub opening : new.opening ≡ old.opening
  pub room : length old.trace < TRACE_LIMIT
  pub trace : new.trace ≡ old.trace ++ e ∷ []

abbrev pub IsFull : CoreView → Type 0
IsFull c = TRACE_LIMIT ≤ length c.trace

-- a command was given to a thread
abbrev pub GivesAs : CoreView → CoreView → ℕ → Command → Result Unit CoreFault → Type 0
GivesAs old new thread command (Ok done) =
    Adds old new (entry.Call thread command) × HasThread old thread × (due_at old thread ≡ None) × ((mark : Mark) × ((t : ℕ) → due_at new t ≡ put (due_at old) thread (Some mark) t))
GivesAs old new thread command (Err NoThread) = IsRefused old new × (HasThread old thread → ⊥)
GivesAs old new thread command (Err Running) = IsRefused old new × HasThread old thread × IsSome (due_at old thread)
GivesAs old new thread command (Err Full) = IsRefused old new × HasThread old thread × (due_at old thread ≡ None) × IsFull old
GivesAs old new thread command (Err NoMemory) = HasFailed old new
GivesAs old new thread command (Err fault) = ⊥

-- what a turn was
pub record IsTurned (old new : CoreView) (thread now : ℕ) (turned : Turned) : Type 0 where
  pub e : Entry
  pub adds : Adds old new e
  pub started : HasThread old thread
  pub mark : Mark
  pub was_due : due_at old thread ≡ Some mark
  pub turn : IsTurnOf thread now mark turned.ended e
  pub position : turned.position ≡ length new.trace
  pub others : (t : ℕ) → t ≢ thread → due_at new t ≡ due_at old t
  pub ended : is_none (due_at new thread) ≡ turned.ended

-- a thread's call makes a turn
abbrev pub TurnsAs : CoreView → CoreView → ℕ → ℕ → Result Turned CoreFault → Type 0
TurnsAs old new thread now (Ok turned) = IsTurned old new thread now turned
TurnsAs old new thread now (Err NoThread) = IsRefused old new × (HasThread old thread → ⊥)
TurnsAs old new thread now (Err Idle) = IsRefused old new × HasThread old thread × (due_at old thread ≡ None)
TurnsAs old new thread now (Err Full) = IsRefused old new × HasThread old thread × IsSome (due_at old thread) × IsFull old
TurnsAs old new thread now (Err NoMemory) = HasFailed old new
TurnsAs old new thread now (Err fault) = ⊥

-- an event has happened
pub record IsHappened (old new : CoreView) (event : FaultEvent) : Type 0 where
  pub e : Entry
  pub adds : Adds old new e
  pub named : IsNamed old event
  pub of : IsOfEvent event e
  pub due : (t : ℕ) → due_at new t ≡ due_at old t

abbrev pub HappensAs : CoreView → CoreView → FaultEvent → Result Unit CoreFault → Type 0
HappensAs old new event (Ok done) = IsHappened old new event
HappensAs old new event (Err NoThread) = IsRefused old new × (IsNamed old event → ⊥)
HappensAs old new event (Err Full) = IsRefused old new × IsNamed old event × IsFull old
HappensAs old new event (Err NoMemory) = HasFailed old new
HappensAs old new event (Err fault) = ⊥
