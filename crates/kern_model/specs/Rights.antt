-- Who may load and store which page. It is decided by whose the page is, by the threads that hold that coffer, and by
-- the loading or storing thread's own register PKRU; there is no other table of rights.
use Rattle.std.specs.Prelude.{ℕ, ◌+◌, ◌-◌, ◌*◌, ◌/◌, ◌%◌, ◌^◌, ◌≤◌, List, [], ◌∷◌, ◌++◌, filter, map, Contains, Bool, true, false, not, Option, Some, None, if◌then◌else◌, ◌==◌, ◌&&◌, ◌||◌}
use Rattle.std.specs.List.{range_with_len}
use Rattle.tr_types.specs.Permission.{has_bit}
use Rattle.tr_types.specs.declared.action.FaultKind.{FaultKind}
use Rattle.tr_types.specs.declared.action.FaultKind.TheVariants.{NotMapped, NotWritable, KeyDenied}
use Rattle.tr_types.specs.declared.kernel_call.Holder.{Holder}
use Rattle.tr_types.specs.declared.permission.Right.{Right}

-- The register has two bits for each of the 16 keys. For key k, bit 2k forbids each access, and bit 2k + 1 each store.
abbrev pub may_read : ℕ → ℕ → Bool
may_read pkru key = not (has_bit pkru (2 * key))

abbrev pub may_write : ℕ → ℕ → Bool
may_write pkru key = may_read pkru key && not (has_bit pkru (2 * key + 1))

-- with which a thread starts: hexadecimal 55555554, so that key 0 alone is enabled, which is never a coffer's
abbrev pub closed_pkru : ℕ
closed_pkru = 1431655764

-- this key is enabled beside key 0, for loads and stores or for loads alone
abbrev pub only_pkru : ℕ → Bool → ℕ
only_pkru key writable = closed_pkru - 2 ^ (2 * key) + (if writable then 0 else 2 ^ (2 * key + 1))

-- a right of a set
abbrev pub allows_writing : Right → Bool
allows_writing right = has_bit right.0 1

-- Threads and their processes.

-- the process that a thread was started in
abbrev pub process_of : List (ℕ × ℕ) → ℕ → Option ℕ
process_of [] thread = None
process_of ((t, process) ∷ threads) thread = if t == thread then Some process else process_of threads thread

abbrev pub is_same : Option ℕ → Option ℕ → Bool
is_same (Some p) (Some q) = p == q
is_same p q = false

-- two threads that were started in one process
abbrev pub are_together : List (ℕ × ℕ) → ℕ → ℕ → Bool
are_together threads t u = is_same (process_of threads t) (process_of threads u)

-- Who holds a coffer: a row says that a thread has mapped it, under a key of its process.

-- a thread of this thread's process holds the coffer
abbrev pub holds_beside : List (ℕ × ℕ) → ℕ → ℕ → Holder → Bool
holds_beside threads thread coffer h = (h.id == coffer) && are_together threads h.thread thread

-- the key that the thread's process has for the coffer
abbrev pub key_in : List (ℕ × ℕ) → List Holder → ℕ → ℕ → Option ℕ
key_in threads [] thread coffer = None
key_in threads (h ∷ holders) thread coffer = if holds_beside threads thread coffer h then Some h.key else key_in threads holders thread coffer

-- a thread of this thread's process holds the coffer for writing
abbrev pub is_writable : List (ℕ × ℕ) → List Holder → ℕ → ℕ → Bool
is_writable threads [] thread coffer = false
is_writable threads (h ∷ holders) thread coffer = (holds_beside threads thread coffer h && allows_writing h.right) || is_writable threads holders thread coffer

-- Why a load of a page of the coffer is refused to the thread, if it is: its process hasn't mapped the coffer, or the
-- key is closed. A store is refused also where the process has mapped it for reading alone. The first cause counts.
abbrev pub load_fault_by : Option ℕ → ℕ → Option FaultKind
load_fault_by None pkru = Some NotMapped
load_fault_by (Some key) pkru = if may_read pkru key then None else Some KeyDenied

abbrev pub store_fault_by : Option ℕ → Bool → ℕ → Option FaultKind
store_fault_by None writable pkru = Some NotMapped
store_fault_by (Some key) false pkru = Some NotWritable
store_fault_by (Some key) true pkru = if may_write pkru key then None else Some KeyDenied

abbrev pub load_fault : List (ℕ × ℕ) → List Holder → ℕ → ℕ → ℕ → Option FaultKind
load_fault threads holders thread pkru coffer = load_fault_by (key_in threads holders thread coffer) pkru

abbrev pub store_fault : List (ℕ × ℕ) → List Holder → ℕ → ℕ → ℕ → Option FaultKind
store_fault threads holders thread pkru coffer = store_fault_by (key_in threads holders thread coffer) (is_writable threads holders thread coffer) pkru

-- Mapping. A process has one key for a coffer; a new one is the least of 1 to 15 that is free.

abbrev pub uses_key : List (ℕ × ℕ) → ℕ → ℕ → Holder → Bool
uses_key threads thread key h = (h.key == key) && are_together threads h.thread thread

abbrev pub is_free_key : List (ℕ × ℕ) → List Holder → ℕ → ℕ → Bool
is_free_key threads [] thread key = true
is_free_key threads (h ∷ holders) thread key = not (uses_key threads thread key h) && is_free_key threads holders thread key

abbrev pub free_keys : List (ℕ × ℕ) → List Holder → ℕ → List ℕ
free_keys threads holders thread = filter (is_free_key threads holders thread) (range_with_len 1 15)

abbrev pub first_of : List ℕ → Option ℕ
first_of [] = None
first_of (key ∷ keys) = Some key

abbrev pub or_key : Option ℕ → Option ℕ → Option ℕ
or_key (Some key) other = Some key
or_key None other = other

-- the key that a map of the coffer by the thread has; none where its process has no key for it, and all 15 in use
abbrev pub key_for : List (ℕ × ℕ) → List Holder → ℕ → ℕ → Option ℕ
key_for threads holders thread coffer = or_key (key_in threads holders thread coffer) (first_of (free_keys threads holders thread))

-- the rows but the thread's own of the coffer
abbrev pub is_row_of : ℕ → ℕ → Holder → Bool
is_row_of thread coffer h = (h.thread == thread) && (h.id == coffer)

abbrev pub without_row : ℕ → ℕ → List Holder → List Holder
without_row thread coffer holders = filter (λ h. not (is_row_of thread coffer h)) holders

-- a map takes the place of the thread's earlier one of the same coffer
abbrev pub with_row : Holder → List Holder → List Holder
with_row h holders = without_row h.thread h.id holders ++ h ∷ []

-- the threads that stand against a map of the coffer: others that hold it, where theirs or this one is exclusive
abbrev pub stands_against : ℕ → ℕ → Bool → Holder → Bool
stands_against thread coffer exclusive h = (h.id == coffer) && not (h.thread == thread) && (h.exclusive || exclusive)

abbrev pub those_against : ℕ → ℕ → Bool → List Holder → List ℕ
those_against thread coffer exclusive holders = map (λ (h : Holder). h.thread) (filter (stands_against thread coffer exclusive) holders)

-- the least of some threads
pub record IsLeastOf (threads : List ℕ) (thread : ℕ) : Type 0 where
  pub among : Contains threads thread
  pub least : (t : ℕ) → Contains threads t → thread ≤ t

-- the thread itself holds the coffer
abbrev pub holds_itself : ℕ → ℕ → List Holder → Bool
holds_itself thread coffer [] = false
holds_itself thread coffer (h ∷ holders) = is_row_of thread coffer h || holds_itself thread coffer holders

-- some thread holds the coffer
abbrev pub is_held : ℕ → List Holder → Bool
is_held coffer [] = false
is_held coffer (h ∷ holders) = (h.id == coffer) || is_held coffer holders
