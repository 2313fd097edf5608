-- Which commits and replies are right, whoever made them. A change comes about once, where the command is answered so, and
-- by an action that can make it. Each reply is what the command is answered at its point, or has its cause. A change's point
-- is its commit; that of NoSpace is the call for pages that was refused; that of another reply is the reply itself.
use Rattle.std.specs.Prelude.{◌≡◌, ◌≢◌, ℕ, ◌+◌, ◌≤◌, List, length, Contains, Bool, true, false, Option, Some, None, if◌then◌else◌}
use Rattle.tr_types.specs.Paths.{names_of}
use Rattle.tr_types.specs.declared.action.Action.{Action}
use Rattle.tr_types.specs.declared.action.Action.TheVariants.{Store, Kernel}
use Rattle.tr_types.specs.declared.action.Answer.{Answer}
use Rattle.tr_types.specs.declared.action.Answer.TheVariants.{Kern}
use Rattle.tr_types.specs.declared.command.Command.{Command}
use Rattle.tr_types.specs.declared.command.Command.TheVariants.{Create, Stat}
use Rattle.tr_types.specs.declared.command.Reply.{Reply}
use Rattle.tr_types.specs.declared.command.Reply.TheVariants as reply
use Rattle.tr_types.specs.declared.entry.Mark.{Mark}
use Rattle.tr_types.specs.declared.kernel_call.Kcall.TheVariants.{New}
use Rattle.tr_types.specs.declared.kernel_call.KernAnswer.{KernAnswer}
use Rattle.tr_types.specs.declared.kernel_call.KernAnswer.TheVariants as kern
use Rattle.tr_types.specs.declared.permission.Right.{Right}
use Rattle.zo_model.specs.Coffers.{Content, Lost, Quarantined, Coffer, path_text, coffer_of}
use Rattle.zo_model.specs.Answers.{Answered, answer, consulted, path_of, told, IsTold, IsDeniedHere, is_success, Changes}
use Rattle.zo_model.specs.Seats.{Seat, Told, Refused, Tried, is_commit}

-- What is settled of a call's reply: nothing yet, as its point is still to come; nothing at all, as its coffer was lost at
-- its point; or that it is this one.
pub data Verdict : Type 0 where
  NoPoint : Verdict
  Unjudged : Verdict
  Fixed : (reply : Reply) → Verdict

-- A call is judged where the coffer that its command consults is not lost.

abbrev pub is_lost_content : Content → Bool
is_lost_content Lost = true
is_lost_content content = false

abbrev pub is_lost : Option Coffer → Bool
is_lost None = false
is_lost (Some coffer) = is_lost_content coffer.content

abbrev pub IsJudged : List Coffer → Seat → Type 0
IsJudged coffers seat = is_lost (consulted coffers seat.command) ≡ false

-- the coffers after a commit
abbrev pub moved_to : Option Answered → List Coffer → List Coffer
moved_to None coffers = coffers
moved_to (Some answered) coffers = answered.coffers

-- the verdict at a commit
abbrev pub verdict_of : Option Answered → Verdict
verdict_of None = Unjudged
verdict_of (Some answered) = Fixed answered.reply

abbrev pub verdict_at : List Coffer → Seat → Verdict
verdict_at coffers seat = if is_lost (consulted coffers seat.command) then Unjudged else verdict_of (answer coffers seat.cred seat.command)

-- that where the call was refused pages, in a change that would have come about
abbrev pub short_of : Option Answered → ℕ → ℕ → Verdict → Verdict
short_of None asked free old = Unjudged
short_of (Some answered) asked free old = if is_success answered.reply then Fixed (reply.NoSpace asked free) else old

abbrev pub short_at : List Coffer → Seat → ℕ → ℕ → Verdict → Verdict
short_at coffers seat asked free old = if is_lost (consulted coffers seat.command) then Unjudged else short_of (answer coffers seat.cred seat.command) asked free old

-- a change that has come about keeps its point
abbrev pub refused_at : Answer → List Coffer → Seat → Verdict → Verdict
refused_at (Kern (kern.NoPages asked free)) coffers seat old = if seat.committed then old else short_at coffers seat asked free old
refused_at given coffers seat old = old

-- the verdict after an action with this mark, by the coffers and the seat before it
abbrev pub verdict_after : Mark → Answer → List Coffer → Seat → Verdict → Verdict
verdict_after mark given coffers seat old = if is_commit mark given then verdict_at coffers seat else refused_at given coffers seat old

-- the call was refused pages
abbrev pub IsRefused : Told → Type 0
IsRefused (Refused asked free drained) = Unit {0}
IsRefused told = ⊥

-- The action can make such a change: a store makes no coffer, and one that is made is made by the kernel, at the command's path.
abbrev pub IsWay : List Coffer → Command → Answered → Action → Type 0
IsWay coffers command answered (Store addr word) = length answered.coffers ≡ length coffers
IsWay coffers command answered (Kernel (New parent path kind mode link guard)) = (length answered.coffers ≡ length coffers + 1) × (path ≡ path_of command)
IsWay coffers command answered action = ⊥

-- A commit is the first of its call, of a call that was refused no pages, and what it changes succeeds; the action can
-- make that change.
pub record MayCommit (coffers : List Coffer) (seat : Seat) (action : Action) : Type 0 where
  pub first : seat.committed ≡ false
  pub given : IsRefused seat.told → ⊥
  pub answered : Answered
  pub changes : Changes coffers seat.cred seat.command answered
  pub way : IsWay coffers seat.command answered action

-- the greatest number of pages that a command may ask for
abbrev pub pages_needed : Command → ℕ
pages_needed (Create path mode) = 2
pages_needed (Stat path) = 0

-- The reply to a call that was refused pages. It asked only after its pool showed no page, and for no more than its command
-- may need.
pub record HasNoSpace (command : Command) (asked free : ℕ) (drained : Bool) (given : Reply) : Type 0 where
  pub reply_is : given ≡ reply.NoSpace asked free
  pub drained_is : drained ≡ true
  pub few : asked ≤ pages_needed command

-- how a Map can have been refused

abbrev pub IsDenial : Right → KernAnswer → Type 0
IsDenial right (kern.Denied other id len) = other ≡ right
IsDenial right answer = ⊥

abbrev pub IsInUse : ℕ → KernAnswer → Type 0
IsInUse thread (kern.InUse other id len) = other ≡ thread
IsInUse thread answer = ⊥

abbrev pub IsNoKey : KernAnswer → Type 0
IsNoKey (kern.NoKey id len) = Unit {0}
IsNoKey answer = ⊥

abbrev pub IsShutOff : KernAnswer → Type 0
IsShutOff (kern.Quarantined id len) = Unit {0}
IsShutOff answer = ⊥

-- a Map of the call was answered so
pub record WasTried (seat : Seat) (Was : KernAnswer → Type 0) : Type 0 where
  pub map : Tried
  pub among : Contains seat.tried map
  pub was : Was map.answer

-- replies that only their cause allows; those of leases and of names have none yet
abbrev pub HasReason : Seat → Reply → Type 0
HasReason seat (reply.NoSpace need free) = ⊥
HasReason seat (reply.Busy addr word now) = ⊥
HasReason seat (reply.Expired addr word) = ⊥
HasReason seat (reply.Again times) = ⊥
HasReason seat reply.TooMany = ⊥
HasReason seat (reply.InUse thread) = WasTried seat (IsInUse thread)
HasReason seat reply.NoKey = WasTried seat IsNoKey
HasReason seat reply.Quarantined = WasTried seat IsShutOff
HasReason seat given = Unit {0}

-- NoSpace is the reply just where the call was refused pages.
abbrev pub HasCause : Seat → Told → Reply → Type 0
HasCause seat (Refused asked free drained) given = HasNoSpace seat.command asked free drained given
HasCause seat told given = HasReason seat given

-- the call asked to map a path of this coffer, and was refused this right
pub record WasDenied (coffers : List Coffer) (seat : Seat) (right : Right) (path : List ℕ) : Type 0 where
  pub map : Tried
  pub among : Contains seat.tried map
  pub was : IsDenial right map.answer
  pub coffer : Coffer
  pub coffer_is : coffer_of coffers (names_of map.path) ≡ Some coffer
  pub path_is : path_text coffer.path ≡ path

-- Denied is the reply of a caller who is refused the right and was told so by the kernel, and of no other; a command that is
-- answered Denied has no other reply.
abbrev pub IsDeniedRight : List Coffer → Seat → Reply → Type 0
IsDeniedRight coffers seat (reply.Denied right path) = IsDeniedHere coffers seat.cred seat.command right path × WasDenied coffers seat right path
IsDeniedRight coffers seat given = (right : Right) (path : List ℕ) → answer coffers seat.cred seat.command ≢ Some (told coffers (reply.Denied right path))

-- The reply follows the verdict. Where the point is the reply itself, it is what the command is answered now; a call that was
-- refused pages in a change that would not have come about has no right reply.
abbrev pub MayTell : List Coffer → Seat → Verdict → Told → Reply → Type 0
MayTell coffers seat Unjudged told given = Unit {0}
MayTell coffers seat (Fixed reply) told given = given ≡ reply
MayTell coffers seat NoPoint (Refused asked free drained) given = IsJudged coffers seat → ⊥
MayTell coffers seat NoPoint told given = IsJudged coffers seat → IsTold coffers seat.cred seat.command given

-- the reply is right; `verdict` is what is settled of it
pub record MayReply (coffers : List Coffer) (seat : Seat) (verdict : Verdict) (given : Reply) : Type 0 where
  pub denied : IsDeniedRight coffers seat given
  pub cause : HasCause seat seat.told given
  pub settled : MayTell coffers seat verdict seat.told given
