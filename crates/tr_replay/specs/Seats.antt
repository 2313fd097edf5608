-- What a thread's running call has done so far, as its entries show it. Each entry of the thread moves its seat by a total
-- function (`seat_after`); no entry of another thread does.
use Rattle.std.specs.Prelude.{ℕ, ◌/◌, ◌%◌, List, [], ◌∷◌, ◌++◌, filter, Bool, true, false, not, Option, Some, None, if◌then◌else◌, ◌==◌, ◌&&◌, ◌||◌}
use Rattle.std.specs.List.{list_any, range_with_len}
use Rattle.zo_layout.specs.Layout.{page_at, pool_head}
use Rattle.tr_types.specs.declared.action.Action.{Action}
use Rattle.tr_types.specs.declared.action.Action.TheVariants.{Load, Store, Cas, Pkru, Kernel}
use Rattle.tr_types.specs.declared.action.Answer.{Answer}
use Rattle.tr_types.specs.declared.action.Answer.TheVariants.{Word as WordIs, Done, Fault, Kern}
use Rattle.tr_types.specs.declared.command.Command.{Command}
use Rattle.tr_types.specs.declared.entry.Mark.{Mark}
use Rattle.tr_types.specs.declared.entry.Mark.TheVariants.{Open, Take}
use Rattle.tr_types.specs.declared.kernel_call.Kcall.TheVariants.{Unmap, Enlarge}
use Rattle.tr_types.specs.declared.kernel_call.KernAnswer.{KernAnswer}
use Rattle.tr_types.specs.declared.kernel_call.KernAnswer.TheVariants.{Mapped, Pages, NoPages}
use Rattle.tr_types.specs.declared.permission.Cred.{Cred}
use Rattle.zo_model.specs.Seats.{LastFind, Lease, Tried, found_after, is_commit, held_after, tried_after}
use Rattle.zo_lease.specs.Words.{is_kept}

-- What the kernel has answered to a call's asking for pages: it has not asked; it was given them; it was refused as many
-- as it asked for, while so many were free; `drained` says whether its pool had shown no page before. Once refused, a call
-- stays so.
pub data Told : Type 0 where
  NotAsked : Told
  Given : Told
  Refused : (asked free : ℕ) (drained : Bool) → Told

-- an action that the call made, what it was answered, and at which tick
pub record Turn : Type 0 where
  pub action : Action
  pub mark : Mark
  pub answer : Answer
  pub now : ℕ

-- a look by which the call was shown that a lease is its own no longer: the lease's address, and the word that was shown, 0 where
-- none was
pub record TakenAway : Type 0 where
  pub addr : ℕ
  pub word : ℕ

pub record Seat : Type 0 where
  pub cred : Cred
  pub command : Command
  pub found : Option LastFind
  -- the position of the first entry by which a change of it has come about
  pub committed : Option ℕ
  -- the leases that it took and has not given back
  pub held : List Lease
  -- the looks that showed one of them taken away, the last one first
  pub taken : List TakenAway
  -- the numbers of the pages that it drew
  pub drawn : List ℕ
  pub told : Told
  -- its Maps, the last one first
  pub tried : List Tried
  -- its actions, the last one first
  pub turns : List Turn

-- the seat of a call that begins
abbrev pub new_seat : Cred → Command → Seat
new_seat cred command = record { cred = cred; command = command; found = None; committed = None; held = []; taken = []; drawn = []; told = NotAsked; tried = []; turns = [] }

-- the first commit counts
abbrev pub committed_after : ℕ → Mark → Answer → Option ℕ → Option ℕ
committed_after position mark answer (Some first) = Some first
committed_after position mark answer None = if is_commit mark answer then Some position else None

-- the control page of the coffer that the call mapped last, by its number
abbrev pub control_of : KernAnswer → Option ℕ → Option ℕ
control_of (Mapped m) before = Some m.control
control_of answer before = before

abbrev pub control_in : List Tried → Option ℕ
control_in [] = None
control_in (map ∷ earlier) = control_of map.answer (control_in earlier)

-- the address is that of the head of one of the coffer's eight pools
abbrev pub is_head_of : ℕ → ℕ → Bool
is_head_of control addr = list_any (λ pool. pool_head (page_at control) pool == addr) (range_with_len 0 8)

abbrev pub is_head : Option ℕ → ℕ → Bool
is_head None addr = false
is_head (Some control) addr = is_head_of control addr

-- the word that the call's last load of an address showed, if it has tried no store there since
abbrev pub shown_by : ℕ → Action → Answer → Option ℕ → Option ℕ
shown_by addr (Load at) (WordIs word) before = if at == addr then Some word else before
shown_by addr (Store at word) answer before = if at == addr then None else before
shown_by addr action answer before = before

abbrev pub shown_at : ℕ → List Turn → Option ℕ
shown_at addr [] = None
shown_at addr (t ∷ earlier) = shown_by addr t.action t.answer (shown_at addr earlier)

-- A page is drawn from a pool by the store that makes the pool's head lead on: the head had led to the page, and the page to
-- what is stored. What leads to a page that has a lease draws nothing.

abbrev pub drawn_at : ℕ → ℕ → Option ℕ → List ℕ
drawn_at page word None = []
drawn_at page word (Some next) = if next == word then page / 4096 ∷ [] else []

abbrev pub may_draw : (ℕ → Bool) → ℕ → Bool
may_draw has_lease page = (page % 4096 == 0) && (not (page == 0) && not (has_lease (page / 4096)))

abbrev pub drawn_by : (ℕ → Bool) → ℕ → List Turn → Option ℕ → List ℕ
drawn_by has_lease word turns None = []
drawn_by has_lease word turns (Some page) = if may_draw has_lease page then drawn_at page word (shown_at page turns) else []

abbrev pub drawn_after : (ℕ → Bool) → Action → Answer → List Tried → List Turn → List ℕ → List ℕ
drawn_after has_lease (Store addr word) Done tried turns drawn =
    if is_head (control_in tried) addr then drawn ++ drawn_by has_lease word turns (shown_at addr turns) else drawn
drawn_after has_lease action (Kern (Pages pages)) tried turns drawn = drawn ++ pages
drawn_after has_lease action answer tried turns drawn = drawn

abbrev pub given_after : Told → Told
given_after (Refused asked free drained) = Refused asked free drained
given_after told = Given

abbrev pub told_after : Bool → Action → Answer → Told → Told
told_after drained (Kernel (Enlarge id count)) (Kern (NoPages asked free)) told = Refused asked free drained
told_after drained (Kernel (Enlarge id count)) (Kern (Pages pages)) told = given_after told
told_after drained action answer told = told

-- the pool from which a thread draws: one of eight, by its number
abbrev pub pool_number : ℕ → ℕ
pool_number thread = thread % 8

-- the call's last load of the head of its pool showed that no page is there

abbrev pub shows_none : Option ℕ → Bool
shows_none None = false
shows_none (Some word) = word == 0

abbrev pub is_drained : ℕ → Option ℕ → List Turn → Bool
is_drained thread None turns = false
is_drained thread (Some control) turns = shows_none (shown_at (pool_head (page_at control) (pool_number thread)) turns)

-- the call's window is open: it opened one, and has set no other register and ended no map since
abbrev pub window_by : Mark → Action → Bool → Bool
window_by Open (Pkru pkru) before = true
window_by mark (Pkru pkru) before = false
window_by mark (Kernel (Unmap id)) before = false
window_by mark action before = before

abbrev pub has_window : List Turn → Bool
has_window [] = false
has_window (t ∷ earlier) = window_by t.mark t.action (has_window earlier)

-- the call has stored into the word of a lease itself, since it took that
abbrev pub stored_by : ℕ → Action → Answer → Bool → Bool
stored_by addr (Store at word) Done before = (at == addr) || before
stored_by addr (Cas at old new) (WordIs word) before = not ((at == addr) && (word == old)) && before
stored_by addr action answer before = before

abbrev pub has_stored : ℕ → List Turn → Bool
has_stored addr [] = false
has_stored addr (t ∷ earlier) = stored_by addr t.action t.answer (has_stored addr earlier)

-- A load shows that a lease was taken away: another word stands there, or the own one, expired; or the load is refused though the
-- call's window is open.

abbrev pub is_taken : ℕ → ℕ → ℕ → List Lease → Bool
is_taken addr word now [] = false
is_taken addr word now (lease ∷ leases) = ((lease.addr == addr) && not (is_kept lease.own word now)) || is_taken addr word now leases

abbrev pub is_lease_of : List Lease → ℕ → Bool
is_lease_of leases addr = list_any (λ lease. lease.addr == addr) leases

abbrev pub taken_after : ℕ → Action → Answer → List Turn → List Lease → List TakenAway → List TakenAway
taken_after now (Load addr) (WordIs word) turns held taken =
    if is_taken addr word now held && not (has_stored addr turns) then record { addr = addr; word = word } ∷ taken else taken
taken_after now (Load addr) (Fault kind) turns held taken =
    if is_lease_of held addr && (has_window turns && not (has_stored addr turns)) then record { addr = addr; word = 0 } ∷ taken else taken
taken_after now action answer turns held taken = taken

-- a lease that is taken anew is held by the new word alone
abbrev pub without : ℕ → List Lease → List Lease
without addr held = filter (λ lease. not (lease.addr == addr)) held

abbrev pub taking : Mark → Action → List Lease → List Lease
taking Take (Cas addr old new) held = without addr held
taking mark action held = held

-- an exchange that finds what it asked for takes its lease or gives one back
abbrev pub found_word : Action → Answer → Bool
found_word (Cas addr old new) (WordIs word) = word == old
found_word action answer = false

abbrev pub holding_after : Mark → Action → Answer → List Lease → List Lease
holding_after mark action answer held = held_after mark action answer (if found_word action answer then taking mark action held else held)

-- the seat after an action of its thread, which is the entry at this position; `has_lease` tells the pages that have a lease
abbrev pub seat_after : (ℕ → Bool) → ℕ → ℕ → ℕ → Mark → Action → Answer → Seat → Seat
seat_after has_lease position thread now mark action answer seat = record {
  cred = seat.cred;
  command = seat.command;
  found = found_after action answer seat.found;
  committed = committed_after position mark answer seat.committed;
  held = holding_after mark action answer seat.held;
  taken = taken_after now action answer seat.turns seat.held seat.taken;
  drawn = drawn_after has_lease action answer seat.tried seat.turns seat.drawn;
  told = told_after (is_drained thread (control_in seat.tried) seat.turns) action answer seat.told;
  tried = tried_after action answer seat.tried;
  turns = record { action = action; mark = mark; answer = answer; now = now } ∷ seat.turns;
}

-- each of these leases shows the call's own word, which has not expired at this tick; `at` is the word at an address
abbrev pub are_kept : (ℕ → ℕ) → ℕ → List Lease → Bool
are_kept at now [] = true
are_kept at now (lease ∷ leases) = is_kept lease.own (at lease.addr) now && are_kept at now leases

-- A store comes too late where it goes outside the pages that the call drew, and a lease that the call took and has not given
-- back is not its own any more, or has expired.
abbrev pub is_late : (ℕ → ℕ) → ℕ → Seat → ℕ → Bool
is_late at now seat addr = not (list_any (λ page. page == addr / 4096) seat.drawn) && not (are_kept at now seat.held)
