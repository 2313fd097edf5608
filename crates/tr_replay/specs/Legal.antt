-- Which entries are legal: the machine allows them, a thread acts and replies only within its call, each change and each reply is
-- right where it is judged, and a coffer that is lost is told at once. All of it is said of what users see; and again of what they
-- would see, had the changes at some positions not come about.
use Rattle.std.specs.Prelude.{◌≡◌, ℕ, List, [], ◌∷◌, Bool, true, false, not, Option, Some, None, if◌then◌else◌, ◌==◌, ◌&&◌}
use Rattle.bus_model.specs.Machine.{Fits}
use Rattle.tr_types.specs.declared.action.Action.{Action}
use Rattle.tr_types.specs.declared.action.Action.TheVariants.{Kernel}
use Rattle.tr_types.specs.declared.command.Command.{Command}
use Rattle.tr_types.specs.declared.command.Reply.{Reply}
use Rattle.tr_types.specs.declared.command.Reply.TheVariants as reply
use Rattle.tr_types.specs.declared.entry.Entry.{Entry}
use Rattle.tr_types.specs.declared.entry.Entry.TheVariants as entry
use Rattle.tr_types.specs.declared.kernel_call.Kcall.TheVariants.{Find, Map, Unmap, Enlarge}
use Rattle.tr_types.specs.declared.kernel_call.KernAnswer.{KernAnswer}
use Rattle.tr_types.specs.declared.kernel_call.KernAnswer.TheVariants as kern
use Rattle.zo_model.specs.Coffers.{Coffer, path_text}
use Rattle.zo_model.specs.Answers.{Answered, consulted, Changes, is_success, is_too_long, path_of}
use Rattle.zo_model.specs.Legal.{Verdict, NoPoint, Unjudged, Fixed, IsWay, is_lost}
use Rattle.zo_model.specs.Seats.{LastFind, Tried, is_commit}
use Rattle.tr_model.specs.Worlds.{coffers_of}
use Rattle.tr_replay.specs.Causes.{HasCause, is_own_reply}
use Rattle.tr_replay.specs.Seats.{Seat, Told, Refused}
use Rattle.tr_replay.specs.Verdicts.{Settled}
use Rattle.tr_replay.specs.Worlds.{World, coffers_by, is_lease, never, table_after}

-- the machine allows the entry
abbrev pub MayCome : World → Entry → Type 0
MayCome w e = Fits w.base.machine e

-- A thread acts and replies only within its call, and begins one only where none of it runs. This holds whatever is lost.

abbrev pub IsSeat : Option Seat → Type 0
IsSeat None = ⊥
IsSeat (Some seat) = Unit {0}

abbrev pub IsInCall : World → Entry → Type 0
IsInCall w (entry.Call thread command) = w.base.seats thread ≡ None
IsInCall w (entry.Act thread now mark action answer) = IsSeat (w.base.seats thread)
IsInCall w (entry.Reply thread reply) = IsSeat (w.base.seats thread)
IsInCall w e = Unit {0}

-- A coffer that an event has made lost is told by the entry directly behind it, and nothing else comes there.

abbrev pub IsOwed : List (List (List ℕ)) → List ℕ → Type 0
IsOwed [] path = ⊥
IsOwed (names ∷ owed) path = path ≡ path_text names

abbrev pub IsToldLoss : World → Entry → Type 0
IsToldLoss w (entry.Lost path) = IsOwed w.base.owed path
IsToldLoss w e = w.base.owed ≡ []

-- where a whole run ends, no such note is due
abbrev pub IsToldOut : World → Type 0
IsToldOut w = w.base.owed ≡ []

-- A call is judged where the coffer that its command consults is not lost.
abbrev pub IsJudged : List Coffer → Command → Type 0
IsJudged coffers command = is_lost (consulted coffers command) ≡ false

abbrev pub IsRefused : Told → Type 0
IsRefused (Refused asked free drained) = Unit {0}
IsRefused told = ⊥

-- A change is the first of its call, of a call that was refused no pages; what the command changes succeeds here, and the action
-- can make that change.
pub record MayCommit (coffers : List Coffer) (seat : Seat) (action : Action) : Type 0 where
  pub first : seat.committed ≡ None
  pub given : IsRefused seat.told → ⊥
  pub answered : Answered
  pub changes : Changes coffers seat.cred seat.command answered
  pub way : IsWay coffers seat.command answered action

-- Replies. Where the call came to a point, the reply is what was settled there; a judged reply without a point is wrong.
abbrev pub IsSettled : List Coffer → Command → Verdict → Reply → Type 0
IsSettled coffers command NoPoint given = IsJudged coffers command → ⊥
IsSettled coffers command Unjudged given = Unit {0}
IsSettled coffers command (Fixed reply) given = given ≡ reply

-- the same of a call that has changed nothing: it tells no success
abbrev pub IsSettledUnchanged : List Coffer → Command → Verdict → Reply → Type 0
IsSettledUnchanged coffers command NoPoint given = IsJudged coffers command → ⊥
IsSettledUnchanged coffers command Unjudged given = Unit {0}
IsSettledUnchanged coffers command (Fixed reply) given = (given ≡ reply) × (is_success given ≡ false)

-- the point of a call that has changed nothing: of a refusal by the kernel, of a path that is too long, or of what a look showed
abbrev pub IsPointed : List Coffer → Command → Settled → Reply → Type 0
IsPointed coffers command s (reply.Denied right path) = IsSettledUnchanged coffers command s.refused (reply.Denied right path)
IsPointed coffers command s reply.Quarantined = IsSettledUnchanged coffers command s.refused reply.Quarantined
IsPointed coffers command s given = IsSettledUnchanged coffers command (if is_too_long (path_of command) then s.begun else s.pointed) given

-- a reply that no tree decides has its cause; such a call has changed nothing
abbrev pub IsUnchanged : Bool → List Coffer → Command → Settled → Reply → Type 0
IsUnchanged true coffers command s given = Unit {0}
IsUnchanged false coffers command s given = IsPointed coffers command s given

abbrev pub MayTell : List Coffer → Command → Settled → Option ℕ → Reply → Type 0
MayTell coffers command s None given = IsUnchanged (is_own_reply given) coffers command s given
MayTell coffers command s (Some position) given = IsSettled coffers command s.committed given

-- Denied: a refusal about the coffer that the call's last Find named is the reply, and so it is where the caller was refused the
-- first right that the command needs at each entry since the call.

abbrev pub is_of_find : ℕ → Option LastFind → Bool
is_of_find len None = false
is_of_find len (Some find) = find.path_len == len

abbrev pub is_denial : Option LastFind → KernAnswer → Bool
is_denial found (kern.Denied right id len) = is_of_find len found
is_denial found answer = false

abbrev pub is_last_denied : Option LastFind → List Tried → Bool
is_last_denied found [] = false
is_last_denied found (map ∷ earlier) = is_denial found map.answer

abbrev pub is_denied_reply : Reply → Bool
is_denied_reply (reply.Denied right path) = true
is_denied_reply given = false

abbrev pub is_again : Reply → Bool
is_again (reply.Again times) = true
is_again given = false

pub record KeepsDenial (seat : Seat) (s : Settled) (given : Reply) : Type 0 where
  pub told : is_last_denied seat.found seat.tried ≡ true → s.refused ≡ Fixed given
  pub barred : s.barred ≡ true → is_again given ≡ false → is_denied_reply given ≡ true
  -- it is told only by who was refused the right, whatever is lost
  pub shown : is_denied_reply given ≡ true → s.refused ≡ Fixed given

-- the reply is right
pub record MayReply (is_lease : ℕ → Bool) (coffers : List Coffer) (seat : Seat) (s : Settled) (given : Reply) : Type 0 where
  pub denials : KeepsDenial seat s given
  pub cause : HasCause is_lease coffers seat seat.told s.short given
  pub settled : MayTell coffers seat.command s seat.committed given

-- The kernel calls that our commands give, however the kernel answers. A trace has no other: those that make or end coffers,
-- change their permission, or take pages from them come with the commands that give them.
abbrev pub IsKnownCall : Action → Type 0
IsKnownCall (Kernel (Find path also)) = Unit {0}
IsKnownCall (Kernel (Map path right exclusive)) = Unit {0}
IsKnownCall (Kernel (Unmap id)) = Unit {0}
IsKnownCall (Kernel (Enlarge id count)) = Unit {0}
IsKnownCall (Kernel call) = ⊥
IsKnownCall action = Unit {0}

-- a change is judged by the coffers as they were, where it does not make its coffer lost itself
abbrev pub IsLegalCommit : (ℕ → Bool) → World → Entry → Action → Option Seat → Type 0
IsLegalCommit drop w e action None = Unit {0}
IsLegalCommit drop w e action (Some seat) =
    IsJudged (coffers_of (table_after w.base e) (w.replays drop).trees) seat.command → MayCommit (coffers_by drop w) seat action

-- a change that is dropped is not judged
abbrev pub IsLegalAct : (ℕ → Bool) → World → Entry → Action → Bool → Option Seat → Type 0
IsLegalAct drop w e action true seat = IsLegalCommit drop w e action seat
IsLegalAct drop w e action false seat = Unit {0}

abbrev pub IsLegalReply : (ℕ → Bool) → World → ℕ → Option Seat → Reply → Type 0
IsLegalReply drop w thread None given = Unit {0}
IsLegalReply drop w thread (Some seat) given = MayReply (is_lease w.base) (coffers_by drop w) seat ((w.replays drop).settled thread) given

-- the entry is legal in what users would see without these changes
abbrev pub IsLegalBy : (ℕ → Bool) → World → Entry → Type 0
IsLegalBy drop w (entry.Act thread now mark action answer) =
    IsKnownCall action × IsLegalAct drop w (entry.Act thread now mark action answer) action (is_commit mark answer && not (drop w.base.count)) (w.base.seats thread)
IsLegalBy drop w (entry.Reply thread given) = IsLegalReply drop w thread (w.base.seats thread) given
IsLegalBy drop w e = Unit {0}

-- the entry is legal
abbrev pub IsLegal : World → Entry → Type 0
IsLegal w e = IsLegalBy never w e
