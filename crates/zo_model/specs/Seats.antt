-- What a thread's running call has done so far, as its entries show it. Each entry of the thread moves its seat by a total
-- function (`seat_after`); no entry of another thread does.
use Rattle.std.specs.Prelude.{ℕ, List, [], ◌∷◌, ◌++◌, Bool, true, false, not, Option, Some, None, if◌then◌else◌, ◌==◌, ◌&&◌, filter}
use Rattle.tr_types.specs.declared.action.Action.{Action}
use Rattle.tr_types.specs.declared.action.Action.TheVariants.{Load, Cas, Kernel}
use Rattle.tr_types.specs.declared.action.Answer.{Answer}
use Rattle.tr_types.specs.declared.action.Answer.TheVariants.{Word as WordIs, Done, Kern}
use Rattle.tr_types.specs.declared.command.Command.{Command}
use Rattle.tr_types.specs.declared.entry.Mark.{Mark}
use Rattle.tr_types.specs.declared.entry.Mark.TheVariants.{Commit, Take}
use Rattle.tr_types.specs.declared.kernel_call.Kcall.TheVariants.{Find, Map, Enlarge}
use Rattle.tr_types.specs.declared.kernel_call.KernAnswer.{KernAnswer}
use Rattle.tr_types.specs.declared.kernel_call.KernAnswer.TheVariants.{Done as IsDone, Same, Made, Found as FoundAt, Pages, NoPages}
use Rattle.tr_types.specs.declared.permission.Cred.{Cred}

-- what the call's last Find named, and the coffer that it showed: its number, and its path's length in bytes
pub record LastFind : Type 0 where
  pub path : List ℕ
  pub coffer : ℕ
  pub path_len : ℕ

-- A lease that the call holds: its address, and the word that the call put there.
pub record Lease : Type 0 where
  pub addr : ℕ
  pub own : ℕ

-- What the kernel has answered to a call's asking for pages: it has not asked; it was given them; it was refused as many
-- as it asked for, while so many were free. A call that enlarges its coffer first looks into its pool: `drained` says
-- whether that showed no page.
pub data Told : Type 0 where
  NotAsked : Told
  Given : Told
  Refused : (asked free : ℕ) (drained : Bool) → Told

-- a Map that the call asked for, and how the kernel answered it
pub record Tried : Type 0 where
  pub path : List ℕ
  pub answer : KernAnswer

pub record Seat : Type 0 where
  pub cred : Cred
  pub command : Command
  pub found : Option LastFind
  -- its change has come about
  pub committed : Bool
  pub held : List Lease
  -- the numbers of the pages that it drew
  pub drawn : List ℕ
  pub told : Told
  -- its Maps, the last one first
  pub tried : List Tried
  -- its last load of its pool's head showed no page
  pub drained : Bool

-- the seat of a call that begins
abbrev pub new_seat : Cred → Command → Seat
new_seat cred command = record { cred = cred; command = command; found = None; committed = false; held = []; drawn = []; told = NotAsked; tried = []; drained = false }

abbrev pub found_after : Action → Answer → Option LastFind → Option LastFind
found_after (Kernel (Find path also)) (Kern (FoundAt first second)) found = Some (record { path = path; coffer = first.id; path_len = first.path_len })
found_after action answer found = found

-- a commit is done by a store, or by a kernel call that was accepted
abbrev pub is_commit : Mark → Answer → Bool
is_commit Commit Done = true
is_commit Commit (Kern IsDone) = true
is_commit Commit (Kern Same) = true
is_commit Commit (Kern (Made id)) = true
is_commit mark answer = false

abbrev pub committed_after : Mark → Answer → Bool → Bool
committed_after mark answer committed = if is_commit mark answer then true else committed

-- An exchange that put a word in place of the one that it saw takes a lease where it is marked so, and else gives back
-- the one that it found.
abbrev pub held_after : Mark → Action → Answer → List Lease → List Lease
held_after Take (Cas addr old new) (WordIs word) held = if word == old then record { addr = addr; own = new } ∷ held else held
held_after mark (Cas addr old new) (WordIs word) held = if word == old then filter (λ l. not ((l.addr == addr) && (l.own == old))) held else held
held_after mark action answer held = held

abbrev pub drawn_after : Answer → List ℕ → List ℕ
drawn_after (Kern (Pages pages)) drawn = drawn ++ pages
drawn_after answer drawn = drawn

-- Once refused, a call stays so.
abbrev pub told_after : Action → Bool → Answer → Told → Told
told_after (Kernel (Enlarge id count)) drained (Kern (NoPages asked free)) told = Refused asked free drained
told_after action drained (Kern (NoPages asked free)) told = Refused asked free true
told_after action drained (Kern (Pages pages)) (Refused asked free was) = Refused asked free was
told_after action drained (Kern (Pages pages)) told = Given
told_after action drained answer told = told

abbrev pub tried_after : Action → Answer → List Tried → List Tried
tried_after (Kernel (Map path right exclusive)) (Kern answer) tried = record { path = path; answer = answer } ∷ tried
tried_after action answer tried = tried

-- a load of the head of the pool, the word at `pool`, shows whether the pool is empty
abbrev pub drained_after : ℕ → Action → Answer → Bool → Bool
drained_after pool (Load addr) (WordIs word) drained = if addr == pool then word == 0 else drained
drained_after pool action answer drained = drained

-- the seat after an action of its thread; `pool` is the address of the head of the call's pool
abbrev pub seat_after : ℕ → Mark → Action → Answer → Seat → Seat
seat_after pool mark action answer seat = record {
  cred = seat.cred;
  command = seat.command;
  found = found_after action answer seat.found;
  committed = committed_after mark answer seat.committed;
  held = held_after mark action answer seat.held;
  drawn = drawn_after answer seat.drawn;
  told = told_after action seat.drained answer seat.told;
  tried = tried_after action answer seat.tried;
  drained = drained_after pool action answer seat.drained;
}
