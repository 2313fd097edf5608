-- What our calls keep beyond what is legal: whom they look for and map, when they ask for pages, which leases they take and how, how
-- they look at them before they store, and what they do after their commit. A trace that others made is judged by legality alone.
use Rattle.tr_model.specs.Worlds.{IsCommitDone}
use Rattle.std.specs.Prelude.{◌≡◌, ℕ, ◌/◌, ◌≤◌, List, [], ◌∷◌, length, take, Contains, Bool, true, false, not, Option, Some, None, if◌then◌else◌, ◌==◌, ◌&&◌, ◌||◌, ◌⊎◌}
use Rattle.std.specs.List.{list_any}
use Rattle.zo_layout.specs.Layout.{page_at, kernel_pages, pool_lease, dir_lease}
use Rattle.kern_model.specs.KernelView.{pages_of}
use Rattle.tr_types.specs.declared.action.Action.{Action}
use Rattle.tr_types.specs.declared.action.Action.TheVariants.{Load, Store, Cas, Flush, Fence, Kernel}
use Rattle.tr_types.specs.declared.action.Answer.{Answer}
use Rattle.tr_types.specs.declared.action.Answer.TheVariants.{Word as WordIs}
use Rattle.tr_types.specs.declared.entry.Entry.{Entry}
use Rattle.tr_types.specs.declared.entry.Entry.TheVariants as entry
use Rattle.tr_types.specs.declared.entry.Mark.{Mark}
use Rattle.tr_types.specs.declared.entry.Mark.TheVariants as mark
use Rattle.tr_types.specs.declared.kernel_call.Kcall.{Kcall}
use Rattle.tr_types.specs.declared.kernel_call.Kcall.TheVariants.{Find, Map, Unmap, Enlarge}
use Rattle.tr_types.specs.declared.kernel_call.KernAnswer.{KernAnswer}
use Rattle.tr_types.specs.declared.kernel_call.KernAnswer.TheVariants.{Mapped}
use Rattle.zo_lease.specs.Words.{own_word, is_open, is_expired, noted_word}
use Rattle.zo_model.specs.Commands.{sought_path, right_needed}
use Rattle.zo_model.specs.Legal.{pages_needed}
use Rattle.zo_model.specs.Seats.{LastFind, Lease, Tried}
use Rattle.tr_replay.specs.Causes.{MayFallShort}
use Rattle.tr_replay.specs.Seats.{Turn, Seat, NotAsked, control_in, is_drained, pool_number, is_lease_of}
use Rattle.tr_replay.specs.Verdicts.{Settled}
use Rattle.tr_replay.specs.Worlds.{World, replay_of, is_lease}

-- A call asks for pages once, no more than its command may need, after its pool showed none, and only where its last look showed that
-- the change would come about.
pub record MayEnlarge (thread : ℕ) (seat : Seat) (s : Settled) (count : ℕ) : Type 0 where
  pub drained : is_drained thread (control_in seat.tried) seat.turns ≡ true
  pub once : seat.told ≡ NotAsked
  pub few : count ≤ pages_needed seat.command
  pub looked : MayFallShort s.looked

-- A map is of the path that the call's last Find named, and not for the caller alone.
pub record MayMap (seat : Seat) (path : List ℕ) (right : ℕ) (exclusive : Bool) : Type 0 where
  pub consulted : path ≡ sought_path seat.command
  pub find : LastFind
  pub found : seat.found ≡ Some find
  pub named : find.path ≡ path
  pub right_is : right ≡ right_needed seat.command
  pub shared : exclusive ≡ false

-- before its commit a call looks for the coffer that its command consults, maps it, asks for pages, and ends its map
abbrev pub MayAsk : ℕ → Seat → Settled → Kcall → Type 0
MayAsk thread seat s (Find path also) = (path ≡ sought_path seat.command) × (also ≡ None)
MayAsk thread seat s (Map path right exclusive) = MayMap seat path right.0 exclusive
MayAsk thread seat s (Unmap id) = Unit {0}
MayAsk thread seat s (Enlarge id count) = MayEnlarge thread seat s count
MayAsk thread seat s call = ⊥

-- after it, it asks the kernel for nothing but to end its map
abbrev pub MayEnd : Kcall → Type 0
MayEnd (Unmap id) = Unit {0}
MayEnd call = ⊥

abbrev pub MayAskAt : Option ℕ → ℕ → Seat → Settled → Kcall → Type 0
MayAskAt (Some position) thread seat s call = MayEnd call
MayAskAt None thread seat s call = MayAsk thread seat s call

-- Leases. A call takes that of its thread's pool, or of a directory on its path, which is the root of its coffer as long as no path
-- has two names. It puts its own word, which holds for 1,000 ticks from its last action on, in place of 0 or of an expired one.

abbrev pub root_of : KernAnswer → Option ℕ → Option ℕ
root_of (Mapped m) before = Some m.root
root_of answer before = before

abbrev pub root_in : List Tried → Option ℕ
root_in [] = None
root_in (map ∷ earlier) = root_of map.answer (root_in earlier)

abbrev pub is_pool_lease : ℕ → Option ℕ → ℕ → Bool
is_pool_lease thread None addr = false
is_pool_lease thread (Some control) addr = pool_lease (page_at control) (pool_number thread) == addr

abbrev pub is_dir_lease : Option ℕ → ℕ → Bool
is_dir_lease None addr = false
is_dir_lease (Some root) addr = dir_lease (page_at root) == addr

abbrev pub may_take : ℕ → Seat → ℕ → Bool
may_take thread seat addr = is_pool_lease thread (control_in seat.tried) addr || is_dir_lease (root_in seat.tried) addr

abbrev pub last_tick_of : List Turn → ℕ
last_tick_of [] = 0
last_tick_of (t ∷ earlier) = t.now

pub record MayTake (thread now : ℕ) (seat : Seat) (addr old new : ℕ) : Type 0 where
  pub unheld : is_lease_of seat.held addr ≡ false
  pub lease : may_take thread seat addr ≡ true
  pub own : new ≡ own_word thread (last_tick_of seat.turns)
  pub could : is_open old now ≡ true

-- It gives back a lease that it holds, by putting 0; none but a pool's once it was shown that one was taken away.
pub record MayGiveBack (thread : ℕ) (seat : Seat) (addr old new : ℕ) : Type 0 where
  pub kept : (seat.taken ≡ []) ⊎ (is_pool_lease thread (control_in seat.tried) addr ≡ true)
  pub free : new ≡ 0
  pub held : Contains seat.held (record { addr = addr; own = old })

abbrev pub MayExchange : Mark → ℕ → ℕ → Seat → ℕ → ℕ → ℕ → Type 0
MayExchange mark.Take thread now seat addr old new = MayTake thread now seat addr old new
MayExchange m thread now seat addr old new = MayGiveBack thread seat addr old new

-- Directly before a store outside the pages that it drew, a call looks at all leases that it holds, and each shows its own word,
-- unexpired.

abbrev pub looks_at : Lease → Action → Answer → ℕ → Bool
looks_at lease (Load addr) (WordIs word) now = (addr == lease.addr) && ((word == lease.own) && not (is_expired lease.own now))
looks_at lease action answer now = false

abbrev pub is_look_at : Lease → Turn → Bool
is_look_at lease t = looks_at lease t.action t.answer t.now

abbrev pub AreLooked : List Lease → List Turn → Type 0
AreLooked held turns = (lease : Lease) → Contains held lease → list_any (is_look_at lease) (take (length held) turns) ≡ true

abbrev pub is_drawn : Seat → ℕ → Bool
is_drawn seat addr = list_any (λ page. page == addr / 4096) seat.drawn

pub record MayStore (is_lease : ℕ → Bool) (kernel_end : ℕ) (seat : Seat) (addr : ℕ) : Type 0 where
  -- no call stores in the kernel's pages, nor into a lease, which only an exchange changes
  pub outside : kernel_end ≤ addr
  pub leaseless : is_lease addr ≡ false
  pub looked : is_drawn seat addr ≡ false → AreLooked seat.held seat.turns

-- What a call owes that has taken an expired lease other than a pool's, before it loads the tree: it loads the word that names the
-- holder's commit, flushes the line that it names where it isn't 0, and makes a fence.
pub data Owing : Type 0 where
  Nothing : Owing
  ToLoad : (addr : ℕ) → Owing
  ToFlush : (addr : ℕ) → Owing
  ToFence : Owing

abbrev pub owing_at : (ℕ → Bool) → Mark → Action → Answer → Owing → Owing
owing_at is_pool mark.Take (Cas addr old new) (WordIs word) owing =
    if (word == old) && not (old == 0) && not (is_pool addr) then ToLoad (noted_word addr) else owing
owing_at is_pool m (Load addr) (WordIs word) (ToLoad at) = if word == 0 then ToFence else ToFlush word
owing_at is_pool m (Flush addr) answer (ToFlush at) = ToFence
owing_at is_pool m Fence answer ToFence = Nothing
owing_at is_pool m action answer owing = owing

abbrev pub owing_by : (ℕ → Bool) → Turn → Owing → Owing
owing_by is_pool t owing = owing_at is_pool t.mark t.action t.answer owing

abbrev pub owing_in : (ℕ → Bool) → List Turn → Owing
owing_in is_pool [] = Nothing
owing_in is_pool (t ∷ earlier) = owing_by is_pool t (owing_in is_pool earlier)

abbrev pub Pays : Owing → Action → Type 0
Pays Nothing action = Unit {0}
Pays (ToLoad addr) action = action ≡ Load addr
Pays (ToFlush addr) action = action ≡ Flush addr
Pays ToFence action = action ≡ Fence

-- the action keeps the discipline
abbrev pub Keeps : (ℕ → Bool) → ℕ → ℕ → ℕ → Mark → Seat → Settled → Action → Type 0
Keeps is_lease kernel_end thread now m seat s (Kernel call) = MayAskAt seat.committed thread seat s call
Keeps is_lease kernel_end thread now m seat s (Store addr word) = MayStore is_lease kernel_end seat addr
Keeps is_lease kernel_end thread now m seat s (Cas addr old new) = MayExchange m thread now seat addr old new
Keeps is_lease kernel_end thread now m seat s action = Unit {0}

-- no commit is refused
pub record KeepsAll (is_lease : ℕ → Bool) (kernel_end thread now : ℕ) (m : Mark) (answer : Answer) (seat : Seat) (s : Settled) (action : Action) : Type 0 where
  pub keeps : Keeps is_lease kernel_end thread now m seat s action
  pub done : IsCommitDone m answer
  pub pays : Pays (owing_in (is_pool_lease thread (control_in seat.tried)) seat.turns) action

abbrev pub KeepsAt : World → ℕ → ℕ → Mark → Action → Answer → Option Seat → Type 0
KeepsAt w thread now m action answer None = Unit {0}
KeepsAt w thread now m action answer (Some seat) =
    KeepsAll (is_lease w.base) (page_at (kernel_pages (pages_of w.base.machine.bus.words))) thread now m answer seat ((replay_of w).settled thread) action

abbrev pub IsDisciplined : World → Entry → Type 0
IsDisciplined w (entry.Act thread now m action answer) = KeepsAt w thread now m action answer (w.base.seats thread)
IsDisciplined w e = Unit {0}
