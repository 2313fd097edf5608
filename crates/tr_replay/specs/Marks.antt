-- What the actions of a call are for. A register PKRU that enables a key other than 0 is marked `Open`, and the one with which a
-- thread starts `Close`. An exchange that would put the call's own word into a lease is marked `Take`, a store to the word beside a
-- lease that names a commit `Note`. `Check` looks at a lease that the call holds, other than a pool's, or, at the end of a call that
-- only reads, once more at a counter or a lease; at the first look after the call's last load of the tree it is `Point` in its place.
-- A change comes about by the store that is marked `Commit`. All other actions are `Plain`.
use Rattle.std.specs.Prelude.{◌≡◌, ◌⊎◌, ℕ, ◌+◌, ◌%◌, ◌/◌, Bool, true, false, Option, Some, None, ◌==◌, ◌&&◌, ◌||◌, not, is_some}
use Rattle.std.specs.List.{list_any, range_with_len}
use Rattle.zo_layout.specs.Layout.{page_at, control_at, dir_at, pool_lease, dir_counter}
use Rattle.kern_model.specs.Kernel.{coffers}
use Rattle.kern_model.specs.KernelTables.{Coffer as KernelCoffer}
use Rattle.tr_types.specs.declared.action.Action.{Action}
use Rattle.tr_types.specs.declared.action.Action.TheVariants.{Load, Store, Cas, Pkru}
use Rattle.tr_types.specs.declared.entry.Entry.{Entry}
use Rattle.tr_types.specs.declared.entry.Entry.TheVariants as entry
use Rattle.tr_types.specs.declared.entry.Mark.{Mark}
use Rattle.tr_types.specs.declared.entry.Mark.TheVariants as mark
use Rattle.tr_model.specs.Marks.{pkru_mark}
use Rattle.tr_replay.specs.Causes.{reads, is_again}
use Rattle.tr_replay.specs.Seats.{Seat, is_lease_of, shown_at}
use Rattle.tr_replay.specs.Worlds.{Base, World, is_lease}

-- the word beside a lease that names a commit: of a directory or of a control page
abbrev pub is_noting : Base → ℕ → Bool
is_noting b addr =
    (b.leased (addr / 4096) && (dir_at (page_at (addr / 4096)) == addr)) || list_any (λ (c : KernelCoffer). control_at (page_at c.control) == addr) (coffers b.machine.bus.words)

abbrev pub note_mark : Bool → Mark → Type 0
note_mark true m = m ≡ mark.Note
note_mark false m = (m ≡ mark.Plain) ⊎ (m ≡ mark.Commit)

-- the word of a lease by which this thread holds it
abbrev pub is_own : ℕ → ℕ → Bool
is_own thread word = word % 65536 == thread + 1

abbrev pub take_mark : Bool → Mark → Type 0
take_mark true m = m ≡ mark.Take
take_mark false m = m ≡ mark.Plain

-- a lease of a pool, by its coffer's control page
abbrev pub is_pool_lease : Base → ℕ → Bool
is_pool_lease b addr = list_any (λ (c : KernelCoffer). list_any (λ pool. pool_lease (page_at c.control) pool == addr) (range_with_len 0 8)) (coffers b.machine.bus.words)

-- A load is a check where it looks at a lease that the call holds; who reads may look once more at a lease or a counter that it has
-- seen.
abbrev pub load_mark : Bool → Bool → Mark → Type 0
load_mark true again m = is_again m ≡ true
load_mark false true m = (m ≡ mark.Plain) ⊎ (is_again m ≡ true)
load_mark false false m = m ≡ mark.Plain

abbrev pub is_counting : Base → ℕ → Bool
is_counting b addr = b.leased (addr / 4096) && (dir_counter (page_at (addr / 4096)) == addr)

abbrev pub may_look_again : Base → Seat → ℕ → Bool
may_look_again b seat addr = reads seat.command && ((is_lease b addr || is_counting b addr) && is_some (shown_at addr seat.turns))

abbrev pub IsMarked : Base → ℕ → Seat → Mark → Action → Type 0
IsMarked b thread seat m (Pkru pkru) = m ≡ pkru_mark pkru
IsMarked b thread seat m (Load addr) = load_mark (is_lease_of seat.held addr && not (is_pool_lease b addr)) (may_look_again b seat addr) m
IsMarked b thread seat m (Store addr word) = note_mark (is_noting b addr) m
IsMarked b thread seat m (Cas addr old new) = take_mark (is_lease b addr && is_own thread new) m
IsMarked b thread seat m action = m ≡ mark.Plain

abbrev pub IsMarkedBy : Base → ℕ → Option Seat → Mark → Action → Type 0
IsMarkedBy b thread None m action = Unit {0}
IsMarkedBy b thread (Some seat) m action = IsMarked b thread seat m action

abbrev pub IsMarkedEntry : World → Entry → Type 0
IsMarkedEntry w (entry.Act thread now m action answer) = IsMarkedBy w.base thread (w.base.seats thread) m action
IsMarkedEntry w e = Unit {0}
