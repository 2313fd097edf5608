-- The session of one call: the thread finds and maps the coffer that its command consults, opens the coffer's key alone,
-- lets the call work, closes its register, unmaps the coffer, and replies. What it knows between two of its actions,
-- stage by stage, and what it gives. All of it is said of the thread's own row of the holders, of its own register and
-- seat, and of the coffer in which it works.
use Rattle.std.specs.Prelude.{◌≡◌, ◌≢◌, ℕ, ◌<◌, length, Contains, Option, Some, None, unwrap_or, Bool, true, false}
use Rattle.bus_model.specs.Machine.{Bus, ThreadLives, pkru_of, Answers, IsAction}
use Rattle.kern_model.specs.Rights.{closed_pkru, only_pkru}
use Rattle.tr_types.specs.declared.action.Action.{Action}
use Rattle.tr_types.specs.declared.action.Answer.{Answer}
use Rattle.tr_types.specs.declared.action.Answer.TheVariants.{Done, Kern}
use Rattle.tr_types.specs.declared.command.Command.{Command}
use Rattle.tr_types.specs.declared.command.Command.TheVariants.{Create, Stat}
use Rattle.tr_types.specs.declared.command.Reply.{Reply}
use Rattle.tr_types.specs.declared.entry.Entry.TheVariants as entry
use Rattle.tr_types.specs.declared.entry.Mark.{Mark}
use Rattle.tr_types.specs.declared.kernel_call.Holder.{Holder}
use Rattle.tr_types.specs.declared.kernel_call.KernAnswer.TheVariants.{Found, Mapped}
use Rattle.tr_types.specs.declared.permission.Right.{Right}
use Rattle.zo_model.specs.Alone.{root_cred}
use Rattle.zo_model.specs.Commands.{IsCommand, sought_path}
use Rattle.zo_model.specs.Legal.{NoPoint, MayReply}
use Rattle.zo_model.specs.Seats.{Seat, LastFind, NotAsked}
use Rattle.tr_model.specs.Marks.{IsMarked}
use Rattle.tr_model.specs.OneWindow.{IsKey, IsWindowed, FindsShut, MapsFound}
use Rattle.tr_model.specs.RootCoffer.{found_at, root_mapped}
use Rattle.tr_model.specs.Worlds.{World, stepped, coffers_at, IsLegal, IsDisciplined, IsDenoted}
use Rattle.zo_ops.specs.Knows.{OpKnows}
use Rattle.tr_dispatch.specs.Rooted.{IsRooted, IsAtRest, scene_of}
use Rattle.tr_dispatch.specs.declared.session.Session.{Session}
use Rattle.tr_dispatch.specs.declared.session.SessionStep.{SessionStep}
use Rattle.tr_dispatch.specs.declared.session.SessionStep.TheVariants as step
use Rattle.tr_dispatch.specs.declared.session.Stage.{Stage}
use Rattle.tr_dispatch.specs.declared.session.Stage.TheVariants as stage

-- the command stores
abbrev pub writes : Command → Bool
writes (Create path mode) = true
writes (Stat path) = false

-- the right with which a command maps its coffer: to write or to read
abbrev pub right_of : Command → Right
right_of (Create path mode) = record { 0 = 2 }
right_of (Stat path) = record { 0 = 1 }

-- the thread's row where it has mapped the root coffer for its command
abbrev pub row_of : ℕ → Command → ℕ → Holder
row_of thread command key = record { thread = thread; id = 1; key = key; right = right_of command; exclusive = false }

-- the thread holds no coffer, and its window is closed
pub record IsBare (bus : Bus) (thread : ℕ) : Type 0 where
  pub unheld : (row : Holder) → Contains bus.holders row → row.thread ≢ thread
  pub register : pkru_of bus thread ≡ closed_pkru

-- it holds the root coffer for its command under this key, in no other row, and has this in its register
pub record HasMapped (bus : Bus) (thread : ℕ) (command : Command) (key pkru : ℕ) : Type 0 where
  pub is_key : IsKey key
  pub held : Contains bus.holders (row_of thread command key)
  pub only : (row : Holder) → Contains bus.holders row → row.thread ≡ thread → row ≡ row_of thread command key
  pub register : pkru_of bus thread ≡ pkru

-- the register in the window: the coffer's key alone, for stores only where the command stores
abbrev pub open_pkru : Command → ℕ → ℕ
open_pkru command key = only_pkru key (writes command)

-- the call has changed nothing, asked for no pages, and its reply is not settled
pub record IsFresh (w : World) (thread : ℕ) (seat : Seat) : Type 0 where
  pub uncommitted : seat.committed ≡ false
  pub unasked : seat.told ≡ NotAsked
  pub open_reply : w.verdicts thread ≡ NoPoint

-- its last Find named the path that its command looks for, and showed the root coffer
pub record HasFound (seat : Seat) : Type 0 where
  pub find : LastFind
  pub found : seat.found ≡ Some find
  pub named : find.path ≡ sought_path seat.command
  pub coffer : find.coffer ≡ 1

-- the reply is right, and the thread's part of the coffer is given back but for its map
abbrev pub MayTell : World → ℕ → Seat → Reply → Type 0
MayTell w thread seat reply = IsAtRest w × MayReply (coffers_at w) seat (w.verdicts thread) reply

-- what is known at a stage, with the answer that comes next
abbrev pub StageKnows : ℕ → Command → Stage → Answer → World → Seat → Type 0
StageKnows thread command stage.Begin answer w seat = IsBare w.base.machine.bus thread × IsAtRest w × IsFresh w thread seat
StageKnows thread command stage.Finding answer w seat =
    IsBare w.base.machine.bus thread × IsAtRest w × IsFresh w thread seat × HasFound seat × (answer ≡ Kern (Found (found_at (sought_path command)) None))
StageKnows thread command stage.Mapping answer w seat =
    (key : ℕ) × HasMapped w.base.machine.bus thread command key closed_pkru × IsAtRest w × IsFresh w thread seat × HasFound seat × (answer ≡ Kern (Mapped (root_mapped w.base.machine.bus.words key)))
StageKnows thread command (stage.Working op) answer w seat =
    (key : ℕ) × HasMapped w.base.machine.bus thread command key (open_pkru command key) × HasFound seat × OpKnows op command answer (scene_of w thread seat)
StageKnows thread command (stage.Closing reply) answer w seat =
    (key : ℕ) × HasMapped w.base.machine.bus thread command key closed_pkru × MayTell w thread seat reply
StageKnows thread command (stage.Ending reply) answer w seat = IsBare w.base.machine.bus thread × MayTell w thread seat reply
StageKnows thread command stage.Over answer w seat = ⊥

-- the thread lives and has a register, its running call is one of this command, which can be given, and its user is uid 0
pub record Sits (thread : ℕ) (command : Command) (w : World) (seat : Seat) : Type 0 where
  pub lives : ThreadLives w.base.machine thread
  pub register : thread < length w.base.machine.bus.pkrus
  pub valid : IsCommand command
  pub seat_is : w.base.seats thread ≡ Some seat
  pub command_is : seat.command ≡ command
  pub cred : seat.cred ≡ root_cred

pub record KnowsAt (thread : ℕ) (command : Command) (stage : Stage) (answer : Answer) (w : World) : Type 0 where
  pub rooted : IsRooted w
  pub denoted : IsDenoted w
  pub seat : Seat
  pub sits : Sits thread command w seat
  pub knows : StageKnows thread command stage answer w seat

-- what a session knows with the answer that it gets next
abbrev pub SessionKnows : Session → Answer → World → Type 0
SessionKnows s answer w = KnowsAt s.thread s.command s.stage answer w

-- An action that was answered so, at a tick: it is legal and keeps our discipline, the words denote the tree afterwards,
-- no window is open that may not be, other threads that hold nothing still hold nothing, and then this is known.
pub record SessionGoes (Known : Answer → World → Type 0) (thread now : ℕ) (mark : Mark) (action : Action) (w : World) (answer : Answer) : Type 0 where
  pub legal : IsLegal w (entry.Act thread now mark action answer)
  pub disciplined : IsDisciplined w (entry.Act thread now mark action answer)
  pub denoted : IsDenoted (stepped w (entry.Act thread now mark action answer))
  pub windowed : IsWindowed w → IsWindowed (stepped w (entry.Act thread now mark action answer))
  pub beside : (other : ℕ) → other ≢ thread → IsBare w.base.machine.bus other → IsBare (stepped w (entry.Act thread now mark action answer)).base.machine.bus other
  pub knows : Known answer (stepped w (entry.Act thread now mark action answer))

-- An action that a session gives: it looks for no coffer while a key is open, maps the one that it found last, and however
-- it is answered, the session goes on.
pub record SessionActs (Known : Answer → World → Type 0) (thread : ℕ) (mark : Mark) (action : Action) (w : World) : Type 0 where
  pub shut : (now : ℕ) (answer : Answer) → FindsShut w (entry.Act thread now mark action answer)
  pub found : (now : ℕ) (answer : Answer) → MapsFound w (entry.Act thread now mark action answer)
  pub goes : (now : ℕ) (answer : Answer) → Answers w.base.machine.bus thread now action answer → SessionGoes Known thread now mark action w answer

-- a reply that a session gives: it is right, and nothing is left open or mapped
pub record SessionEnds (thread : ℕ) (reply : Reply) (w : World) : Type 0 where
  pub legal : IsLegal w (entry.Reply thread reply)
  pub bare : IsBare w.base.machine.bus thread
  pub rests : IsAtRest w

-- what a session that has come to a stage gives
abbrev pub StageGives : ℕ → Command → Stage → SessionStep → World → Type 0
StageGives thread command after (step.Act action mark) w = SessionActs (KnowsAt thread command after) thread mark action w
StageGives thread command after (step.Over reply) w = SessionEnds thread reply w

-- the step that leads from a stage to another, where this was known with the answer
abbrev pub LeadsTo : ℕ → Command → Stage → Answer → Stage → SessionStep → Type 0
LeadsTo thread command before answer after step = (w : World) → KnowsAt thread command before answer w → StageGives thread command after step w

-- a step that a session gives where it knew what its stage asked for
abbrev pub SessionStepsFrom : Session → Answer → Session → SessionStep → Type 0
SessionStepsFrom old answer new step = LeadsTo old.thread old.command old.stage answer new.stage step

-- the first step has no use for its answer
abbrev pub answer_told : Option Answer → Answer
answer_told answer = unwrap_or answer Done

-- the call works in its coffer
abbrev pub IsWorking : Stage → Type 0
IsWorking (stage.Working op) = Unit {0}
IsWorking s = ⊥

-- the reply was given
abbrev pub is_over : Stage → Bool
is_over stage.Over = true
is_over s = false

-- a session goes on after each action
abbrev pub RunsOn : Stage → SessionStep → Type 0
RunsOn after (step.Act action mark) = is_over after ≡ false
RunsOn after (step.Over reply) = Unit {0}

-- an action of a session is one that the machine takes, and has its mark
abbrev pub GivesAction : SessionStep → Type 0
GivesAction (step.Act action mark) = IsAction action × IsMarked mark action
GivesAction (step.Over reply) = Unit {0}
