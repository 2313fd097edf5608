-- What the values of the register that are used allow, and what keys, rows and pages say.
use Rattle.std.specs.Prelude.{ℕ, ◌≡◌, ◌≢◌, ◌<◌, ◌≤◌, ◌↔◌, List, length, slice_index, Contains, Bool, true, false, Option, Some, None, ◌==◌, ◌&&◌}
use Rattle.tr_types.specs.declared.kernel_call.Holder.{Holder}
use Rattle.kern_model.specs.KernelCalls.{holds_any, holds_for_writing, holds_as_owner, own_row}
use Rattle.tr_types.specs.Permission.{has_bit}
use Rattle.kern_model.specs.Rights.{may_read, may_write, closed_pkru, only_pkru, key_in, key_for, are_together, load_fault, store_fault}
use Rattle.page_rights.specs.Tables.{View, HasSoundMaps, with_pages}

-- one key of 1 to 15 alone, for loads, and for stores as asked
abbrev pub OnlyOneKey : Type 0
OnlyOneKey =
    (key other : ℕ) (writable : Bool) → 1 ≤ key → key ≤ 15 → 1 ≤ other → other ≤ 15
    → (may_read (only_pkru key writable) other ≡ (other == key)) × (may_write (only_pkru key writable) other ≡ (other == key && writable))

-- no key of 1 to 15
abbrev pub ClosedToAll : Type 0
ClosedToAll = (key : ℕ) → 1 ≤ key → key ≤ 15 → (may_read closed_pkru key ≡ false) × (may_write closed_pkru key ≡ false)

-- Under a key open alone, only pages of its own coffer are reached, and with none open, no page at all.
abbrev pub OpensItsCofferAlone : Type 0
OpensItsCofferAlone =
    (v : View) (thread coffer key other : ℕ) (writable : Bool) → HasSoundMaps v → key_in v.threads v.holders thread coffer ≡ Some key
    → (load_fault v.threads v.holders thread (only_pkru key writable) other ≡ None → other ≡ coffer) × (store_fault v.threads v.holders thread (only_pkru key writable) other ≡ None → other ≡ coffer)

abbrev pub ClosedOpensNothing : Type 0
ClosedOpensNothing =
    (v : View) (thread other : ℕ) → HasSoundMaps v
    → (load_fault v.threads v.holders thread closed_pkru other ≢ None) × (store_fault v.threads v.holders thread closed_pkru other ≢ None)

-- a thread of this thread's process holds another coffer under the key
abbrev pub HasOtherAt : View → ℕ → ℕ → ℕ → Type 0
HasOtherAt v thread coffer key = (h : Holder) × Contains v.holders h × (are_together v.threads h.thread thread ≡ true) × (h.key ≡ key) × (h.id ≢ coffer)

-- There is no key for a coffer exactly where the process has another coffer mapped under each of the 15.
abbrev pub NoKeyMeansFifteenOthers : Type 0
NoKeyMeansFifteenOthers =
    (v : View) (thread coffer : ℕ) → HasSoundMaps v → (key_for v.threads v.holders thread coffer ≡ None) ↔ ((key : ℕ) → 1 ≤ key → key ≤ 15 → HasOtherAt v thread coffer key)

-- The thread's own row of a coffer says all of the thread's hold on it.

abbrev pub row_gives : (Holder → Bool) → Option Holder → Bool
row_gives test None = false
row_gives test (Some row) = test row

abbrev pub RowTellsAll : Type 0
RowTellsAll =
    (v : View) (thread coffer : ℕ) → HasSoundMaps v
    → (holds_any thread coffer v.holders ≡ row_gives (λ row. true) (own_row thread coffer v.holders))
    × (holds_for_writing thread coffer v.holders ≡ row_gives (λ row. has_bit row.right.0 1) (own_row thread coffer v.holders))
    × (holds_as_owner thread coffer v.holders ≡ row_gives (λ row. has_bit row.right.0 2 && row.exclusive) (own_row thread coffer v.holders))

-- Pages that are put under a coffer, or under none, stand there, and each other page where it stood.
abbrev pub PutsThesePages : Type 0
PutsThesePages =
    (id : ℕ) (pages owners : List ℕ) (page : ℕ)
    → (page < length owners → Contains pages page → slice_index (with_pages id pages owners) page ≡ id)
    × ((Contains pages page → ⊥) → slice_index (with_pages id pages owners) page ≡ slice_index owners page)
