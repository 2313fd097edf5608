-- The laws of replays: whatever of these changes a crash drops, the trace is legal without them, and what users see then differs
-- by the last changes of units alone.
use Rattle.std.specs.Prelude.{◌≡◌, ℕ, ◌/◌, ◌<◌, ◌≤◌, List, [], ◌∷◌, ◌++◌, length, Contains, Bool, true, Some}
use Rattle.pm_words.specs.Memory.{word_at}
use Rattle.zo_model.specs.Tree.{Directory, node_at}
use Rattle.zo_model.specs.Alone.{root_perm}
use Rattle.zo_model.specs.Answers.{answer}
use Rattle.zo_model.specs.Legal.{verdict_of}
use Rattle.zo_model.specs.Commands.{IsCommand}
use Rattle.zo_model.specs.Seats.{Lease}
use Rattle.tr_types.specs.Fold.{Each}
use Rattle.tr_types.specs.declared.action.Action.{Action}
use Rattle.tr_types.specs.declared.action.Answer.{Answer}
use Rattle.tr_types.specs.declared.command.Command.{Command}
use Rattle.tr_types.specs.declared.entry.Entry.{Entry}
use Rattle.tr_types.specs.declared.entry.Entry.TheVariants as entry
use Rattle.tr_types.specs.declared.entry.Mark.TheVariants as mark
use Rattle.tr_types.specs.declared.permission.Cred.{Cred}
use Rattle.tr_model.specs.Worlds.{Row, Standing, root_row}
use Rattle.tr_replay.specs.Seats.{Seat}
use Rattle.tr_types.specs.declared.entry.Pick.{Pick}
use Rattle.tr_replay.specs.Worlds.{Base, Commit, World, replay_of, dropped, floor, base_after, stepped, world_of, world_after, coffers_by, coffers_at, or_dropped, places_of}
use Rattle.tr_replay.specs.Legal.{IsInCall, IsLegalBy, MayCommit}
use Rattle.tr_replay.specs.Crashes.{IsLeft, IsReadyAt, IsUnanswered, IsLastUnder}
use Rattle.tr_passing.specs.Units.{Last, Units, no_units, IsOpen, units_after, Allowed, node_left, count_left, members_in, Goes, GoesOn}

-- the root coffer is the only one, however it stands
abbrev pub root_standing : Standing → Row
root_standing standing = record { birth = 0; path = []; perm = root_perm; standing = standing }

pub record IsAlone (table : List Row) : Type 0 where
  pub standing : Standing
  pub is : table ≡ root_standing standing ∷ []

-- What holds in every world that entries lead to.
pub record IsTidy (b : Base) : Type 0 where
  pub alone : IsAlone b.table
  -- each word has its older values in its history, and an address in a word stands for it
  pub low : (addr : ℕ) → length (word_at b.machine.bus.words addr).older ≤ b.tops addr
  pub alike : (addr other : ℕ) → addr / 8 ≡ other / 8 → b.tops addr ≡ b.tops other
  pub placed : (c : Commit) → Contains b.commits c → c.place ≤ b.tops c.addr
  pub before : (c : Commit) → Contains b.commits c → c.position < b.count
  pub different : (c other : Commit) → Contains b.commits c → Contains b.commits other → c.position ≡ other.position → c ≡ other
  pub seats : (thread position : ℕ) (seat : Seat) → b.seats thread ≡ Some seat → seat.committed ≡ Some position → position < b.count

-- an entry that is none of a crash takes nothing back
abbrev pub FloorRises : Type 0
FloorRises = (b : Base) (e : Entry) → IsTidy b → Goes b.machine e → (addr : ℕ) → floor b addr ≤ floor (base_after b e) addr

abbrev pub TidyMore : Type 0
TidyMore = (b : Base) (e : Entry) → IsTidy b → Goes b.machine e → IsTidy (base_after b e)

-- the change is the last of a unit
pub record HasUnit (units : Units) (c : Commit) : Type 0 where
  pub birth : ℕ
  pub names : List (List ℕ)
  pub last : Last
  pub is : units.last birth names ≡ Some last
  pub commit_is : last.commit ≡ c

abbrev pub IsReadyAlone : Base → Type 0
IsReadyAlone b = b.table ≡ root_row ∷ []

-- How the units stand to the world.
pub record IsOrdered (w : World) (units : Units) : Type 0 where
  pub among : (birth : ℕ) (names : List (List ℕ)) (last : Last) → units.last birth names ≡ Some last → Contains w.base.commits last.commit
  pub judged : (birth : ℕ) (names : List (List ℕ)) (last : Last) → units.last birth names ≡ Some last → units.judged last.commit.position ≡ true
  pub passed : (position : ℕ) → units.judged position ≡ true → position < w.base.count
  -- an open change that moved the trees is the last of its unit
  pub covered : (c : Commit) → Contains w.base.commits c → units.judged c.position ≡ true → IsOpen w.base c → HasUnit units c
  -- as long as the coffer is ready
  pub moved : IsReadyAlone w.base → (c : Commit) → Contains w.base.commits c → units.judged c.position ≡ true
  pub unanswered : IsReadyAlone w.base → (c : Commit) → Contains w.base.commits c → IsOpen w.base c → IsUnanswered w.base c
  pub under : (c : Commit) → Contains w.base.commits c → IsOpen w.base c → IsLastUnder w.base c

-- two calls hold one and the same lease
abbrev pub ShareLease : List Lease → List Lease → Type 0
ShareLease held others = (lease : Lease) × (other : Lease) × Contains held lease × Contains others other × (lease.addr ≡ other.addr)

-- no change under one of these leases is open
abbrev pub IsFreeOf : Base → List Lease → Type 0
IsFreeOf b held = (c : Commit) → Contains b.commits c → IsOpen b c → ShareLease c.held held → ⊥

-- What an entry owes: it is legal whatever a crash may drop now; an open change stays the last of its unit, so that a change comes
-- only into a unit whose last one is durable, and a reply only where the call's changes are; and a change comes only under leases
-- under which none is open.
pub record Owes (w : World) (units : Units) (e : Entry) : Type 0 where
  pub comes : GoesOn w e
  pub in_call : IsInCall w e
  pub sure : (drops : ℕ → Bool) → Allowed drops w units → IsLegalBy drops w e
  pub stays : (birth : ℕ) (names : List (List ℕ)) (last : Last) → units.last birth names ≡ Some last → IsOpen w.base last.commit → (units_after w e units).last birth names ≡ Some last
  pub leases : (c : Commit) → Contains (base_after w.base e).commits c → c.position ≡ w.base.count → IsFreeOf w.base c.held

abbrev pub AllowedBefore : Type 0
AllowedBefore = (drops : ℕ → Bool) (w : World) (units : Units) (e : Entry) → IsTidy w.base → IsOrdered w units → GoesOn w e → Allowed drops (stepped w e) (units_after w e units) → Allowed drops w units

-- Behind a crash no position that moved the trees may be dropped, so that what was then allowed before it is, and so it is together with
-- what the crash itself drops.
pub record CrashAllowed (drops : ℕ → Bool) (w : World) (units : Units) (choice : Pick) : Type 0 where
  pub alone : Allowed drops w units
  pub with_crash : Allowed (or_dropped (places_of choice w.base) w.base.commits drops) w units

abbrev pub CrashBefore : Type 0
CrashBefore = (drops : ℕ → Bool) (w : World) (units : Units) (choice : Pick) → IsTidy w.base → IsOrdered w units
    → Allowed drops (stepped w (entry.Crash choice)) (units_after w (entry.Crash choice) units) → CrashAllowed drops w units choice

abbrev pub OrderedMore : Type 0
OrderedMore = (w : World) (units : Units) (e : Entry) → IsTidy w.base → IsOrdered w units → Owes w units e → IsOrdered (stepped w e) (units_after w e units)

-- What users see without these changes.
pub record IsAlike (drops : ℕ → Bool) (w : World) (units : Units) : Type 0 where
  pub nodes : (birth : ℕ) (names : List (List ℕ)) → node_at ((w.replays drops).trees birth) names ≡ node_left drops units birth names (node_at ((replay_of w).trees birth) names)
  pub counts : (birth : ℕ) (names : List (List ℕ)) → members_in ((w.replays drops).trees birth) names ≡ count_left drops units birth names (members_in ((replay_of w).trees birth) names)

abbrev pub Differs : World → Units → Type 0
Differs w units = (drops : ℕ → Bool) → Allowed drops w units → IsAlike drops w units

abbrev pub DiffersMore : Type 0
DiffersMore = (w : World) (units : Units) (e : Entry) → IsTidy w.base → IsOrdered w units → Differs w units → Owes w units e → Differs (stepped w e) (units_after w e units)

-- the trace is legal in each replay without what a crash may drop now
abbrev pub IsPassed : List ℕ → List Entry → Units → Type 0
IsPassed opening trace units = (drops : ℕ → Bool) → Allowed drops (world_after opening trace) units → Each stepped (IsLegalBy drops) (world_of opening) trace

-- only the root is a directory
abbrev pub HasFiles : World → Type 0
HasFiles w = (birth : ℕ) (names : List (List ℕ)) → node_at ((replay_of w).trees birth) names ≡ Some Directory → names ≡ []

pub record IsLive (opening : List ℕ) (trace : List Entry) (units : Units) : Type 0 where
  pub tidy : IsTidy (world_after opening trace).base
  pub ordered : IsOrdered (world_after opening trace) units
  pub differs : Differs (world_after opening trace) units
  pub files : HasFiles (world_after opening trace)
  pub passed : IsPassed opening trace units

-- One more entry keeps all of it, where it does what it owes.
abbrev pub LiveMore : Type 0
LiveMore = (opening : List ℕ) (trace : List Entry) (units : Units) (e : Entry) → IsLive opening trace units → Owes (world_after opening trace) units e
    → IsLive opening (trace ++ e ∷ []) (units_after (world_after opening trace) e units)

-- it holds over any image, before any entry
abbrev pub StartLaw : Type 0
StartLaw = (opening : List ℕ) → IsLive opening [] no_units

-- what a crash drops is allowed
abbrev pub DroppedAllowed : Type 0
DroppedAllowed = (w : World) (units : Units) (places image : ℕ → ℕ) → IsOrdered w units → IsLeft w.base places image → Allowed (dropped places w.base.commits) w units

-- What a crash may leave behind the last entry: all before it is legal without what it drops, and of a coffer that is ready it drops
-- only changes without a reply on which no later one rests.
pub record IsPassedBy (opening : List ℕ) (trace : List Entry) (w : World) (places : ℕ → ℕ) : Type 0 where
  pub legal : Each stepped (IsLegalBy (dropped places w.base.commits)) (world_of opening) trace
  pub unanswered : (c : Commit) → Contains w.base.commits c → dropped places w.base.commits c.position ≡ true → IsReadyAt w.base c.addr → IsUnanswered w.base c
  pub last : (c : Commit) → Contains w.base.commits c → dropped places w.base.commits c.position ≡ true → IsReadyAt w.base c.addr → IsLastUnder w.base c

abbrev pub CrashLaw : Type 0
CrashLaw = (opening : List ℕ) (trace : List Entry) (units : Units) (places image : ℕ → ℕ) → IsLive opening trace units → IsLeft (world_after opening trace).base places image
    → IsPassedBy opening trace (world_after opening trace) places

-- nothing of the unit is open
abbrev pub IsStill : World → Units → ℕ → List (List ℕ) → Type 0
IsStill w units birth names = (last : Last) → units.last birth names ≡ Some last → IsOpen w.base last.commit → ⊥

-- What is settled where the root directory is still is so whatever a crash drops.

pub record IsFirm (w : World) (units : Units) : Type 0 where
  pub tidy : IsTidy w.base
  pub ordered : IsOrdered w units
  pub differs : Differs w units
  pub files : HasFiles w
  pub ready : IsReadyAlone w.base
  pub still : IsStill w units 0 []

abbrev pub ReplyLaw : Type 0
ReplyLaw = (drops : ℕ → Bool) (w : World) (units : Units) (cred : Cred) (command : Command) → IsFirm w units → Allowed drops w units → IsCommand command
    → verdict_of (answer (coffers_by drops w) cred command) ≡ verdict_of (answer (coffers_at w) cred command)

abbrev pub SureCommit : Type 0
SureCommit = (drops : ℕ → Bool) (w : World) (units : Units) (seat : Seat) (action : Action) → IsFirm w units → Allowed drops w units → IsCommand seat.command
    → MayCommit (coffers_at w) seat action → MayCommit (coffers_by drops w) seat action

abbrev pub SurePoint : Type 0
SurePoint = (drops : ℕ → Bool) (w : World) (units : Units) (thread now : ℕ) (action : Action) (given : Answer) (seat : Seat) → IsFirm w units → Allowed drops w units → IsCommand seat.command
    → w.base.seats thread ≡ Some seat
    → (((stepped w (entry.Act thread now mark.Point action given)).replays drops).settled thread).pointed ≡ verdict_of (answer (coffers_at w) seat.cred seat.command)
