-- How a run goes on, part by part.
use Rattle.std.specs.Prelude.{◌≡◌, ℕ, ◌<◌, ◌≤◌, List, [], ◌∷◌, ◌++◌, length, map, Option, Some, is_some, true, false, if◌then◌else◌, ◌==◌, OnOk, Ok, Err}
use Rattle.std.specs.declared.result.Result.{Result}
use Rattle.std.specs.Io.KnownBytes.{Appends}
use Rattle.tr_types.specs.declared.entry.Entry.{Entry}
use Rattle.tr_outside.specs.Causes.{Rose}
use Rattle.tr_outside.specs.Whole.{AppendsFront}
use Rattle.tr_script.specs.Grammar.{Declared, declared, MayStand}
use Rattle.tr_script.specs.declared.script.Line.{Line}
use Rattle.tr_script.specs.declared.script.Line.TheVariants.{Mkfs}
use Rattle.tr_types.specs.declared.limits.TheConstants.{PROCESSES, THREADS}
use Rattle.zo_model.specs.Alone.{root_cred}
use Rattle.tr_core.specs.Core.{CoreView, HasProcess, HasThread, IsDueAt, due_at, world_at}
use Rattle.tr_core.specs.declared.event.FaultEvent.{FaultEvent}
use Rattle.tr_core.specs.declared.event.FaultEvent.TheVariants as event
use Rattle.tr_core.specs.declared.limits.TheConstants.{TRACE_LIMIT}
use Rattle.tr_top.specs.Along.{Place, Turns, Resting, ToTheEnd, ToAnOpening, IsAtEnd, Follows, before}
use Rattle.tr_top.specs.Run.{pages_made, opening, place_after}
use Rattle.tr_top.specs.Telling.{text, texts}
use Rattle.tr_top.specs.declared.teller.Detail.{Detail}
use Rattle.tr_top.specs.declared.stop.Stop.{Stop}
use Rattle.tr_top.specs.declared.stop.Stop.TheVariants.{Full, NoMemory, OutFailed}

-- a runner as its callers see it: the script's lines, in which detail it tells, and what the run has come to
pub record RunnerView : Type 0 where
  pub lines : List Line
  pub detail : Detail
  pub core : CoreView

-- The trace follows the lines, over the image that they make. The threads with a call are those of the place in the script.
pub record IsAlong (lines : List Line) (core : CoreView) : Type 0 where
  pub opening_is : core.opening ≡ opening lines
  pub follows : Follows lines core.trace
  pub calls : core.failed ≡ false → (thread : ℕ) → (place_after lines core.trace).calls thread ≡ is_some (due_at core thread)
  pub due : IsDueAt core 0

-- A sink that had taken some bytes has then taken this text, or a front of it where the run stopped within.
abbrev pub Told : {T : Type 0} → Result T Stop → Option (List ℕ) → Option (List ℕ) → List ℕ → Type 0
Told (Ok _) taken now text = Appends taken now text
Told (Err Full) taken now text = Appends taken now text
Told (Err NoMemory) taken now text = AppendsFront taken now text
Told (Err OutFailed) taken now text = AppendsFront taken now text

-- a sink takes the text of one entry
abbrev pub TellsEntry : Detail → Result (Unit {0}) Stop → Entry → Option (List ℕ) → Option (List ℕ) → ℕ → ℕ → Type 0
TellsEntry detail (Ok _) e taken now before after = Appends taken now (text detail e)
TellsEntry detail (Err Full) e taken now before after = ⊥
TellsEntry detail (Err NoMemory) e taken now before after = (now ≡ taken) × (after ≡ before)
TellsEntry detail (Err OutFailed) e taken now before after = AppendsFront taken now (text detail e) × Rose before after

-- the trace is full, and a further entry is due
pub record IsFullAt (lines : List Line) (trace : List Entry) : Type 0 where
  pub full : TRACE_LIMIT ≤ length trace
  pub due : IsAtEnd (place_after lines trace) → ⊥

-- a part of a run, with what it has told a sink
pub record Goes {T : Type 0} (old new : RunnerView) (taken now : Option (List ℕ)) (before after : ℕ) (result : Result T Stop) : Type 0 where
  pub lines : new.lines ≡ old.lines
  pub more : List Entry
  pub gained : new.core.trace ≡ old.core.trace ++ more
  pub told : Told result taken now (texts old.detail more)
  pub detail : new.detail ≡ old.detail
  pub works : OnOk result (new.core.failed ≡ false)
  pub later : before ≤ after
  pub cause : result ≡ Err OutFailed → Rose before after
  pub full : result ≡ Err Full → IsFullAt new.lines new.core.trace

-- Where a run stands between two lines.

abbrev pub place_of : RunnerView → Place
place_of r = place_after r.lines r.core.trace

-- what the machine has started is what the lines so far have declared; a call is under way where a `call` line had no
-- `finish` line
pub record IsLike (r : RunnerView) (d : Declared) : Type 0 where
  pub processes : map (λ p. p.0) (world_at r.core).base.machine.bus.processes ≡ d.processes
  pub threads : (world_at r.core).base.machine.bus.threads ≡ d.threads
  pub fresh : d.begun ≡ false → r.core.trace ≡ []
  pub calling : (thread : ℕ) → (place_of r).calls thread ≡ true → d.calling ≡ Some thread

-- no thread has a call
abbrev pub NobodyCalls : RunnerView → Type 0
NobodyCalls r = (thread : ℕ) → (place_of r).calls thread ≡ false

-- what a core asks of an event, said of the script's place
abbrev pub CanHappen : RunnerView → FaultEvent → Type 0
CanHappen r (event.Mkfs pages) = (r.core.trace ≡ []) × (pages ≡ pages_made r.lines)
CanHappen r (event.Process process cred) = (process < PROCESSES) × (HasProcess r.core process → ⊥) × (cred ≡ root_cred)
CanHappen r (event.Thread thread process) = (thread < THREADS) × (HasThread r.core thread → ⊥)
CanHappen r (event.Stray thread addr word) = (place_of r).calls thread ≡ false

-- the lines that are left, of which the first is next
pub record IsBefore (r : RunnerView) (below : List Line) : Type 0 where
  pub place : place_of r ≡ before below (place_of r).calls

-- the line is the next of the script, and may stand there
pub record IsNextLine (r : RunnerView) (line : Line) (below : List Line) (d : Declared) : Type 0 where
  pub place : IsBefore r (line ∷ below)
  pub like : IsLike r d
  pub stands : MayStand d line
  pub first : (pages : ℕ) → line ≡ Mkfs pages → pages ≡ pages_made r.lines

-- a line that may follow
abbrev pub CanFollow : RunnerView → Line → Type 0
CanFollow r line = (below : List Line) × (d : Declared) × IsNextLine r line below d

-- these are turns of the thread
abbrev pub IsTurning : ℕ → Turns → Type 0
IsTurning thread Resting = ⊥
IsTurning thread (ToTheEnd t) = t ≡ thread
IsTurning thread (ToAnOpening t) = t ≡ thread

-- who was started is as before
pub record WhoStays (old new : RunnerView) : Type 0 where
  pub processes : (world_at new.core).base.machine.bus.processes ≡ (world_at old.core).base.machine.bus.processes
  pub threads : (world_at new.core).base.machine.bus.threads ≡ (world_at old.core).base.machine.bus.threads

-- the thread's call has ended, if it had one
pub record IsEnded (old new : RunnerView) (thread : ℕ) (below : List Line) : Type 0 where
  pub place : IsBefore new below
  pub calls : (t : ℕ) → (place_of new).calls t ≡ (if t == thread then false else (place_of old).calls t)
  pub who : WhoStays old new

-- it has opened a window or has ended
pub record IsOpened (old new : RunnerView) (thread : ℕ) (below : List Line) : Type 0 where
  pub place : IsBefore new below
  pub calls : (t : ℕ) → (place_of new).calls t ≡ true → (place_of old).calls t ≡ true
  pub who : WhoStays old new

-- the line is done: the run stands before those below, and what it declares has been started
pub record Passes (r : RunnerView) (line : Line) (below : List Line) (d : Declared) : Type 0 where
  pub place : IsBefore r below
  pub like : IsLike r (declared d line)
