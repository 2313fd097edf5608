-- How a process has a coffer mapped, found without a walk over the holders.
use Rattle.std.specs.Prelude.{ℕ, ◌≡◌, ◌≢◌, ◌+◌, ◌*◌, ◌<◌, ◌≤◌, ◌↔◌, All, MatchOption, min, List, [], ◌∷◌, length, filter, slice_index_or, Contains, Bool, true, false, not, Option, Some, None, if◌then◌else◌, ◌==◌, ◌&&◌, ◌||◌}
use Rattle.std.specs.List.{range_with_len}
use Rattle.tr_types.specs.declared.action.FaultKind.{FaultKind}
use Rattle.tr_types.specs.declared.kernel_call.Holder.{Holder}
use Rattle.tr_types.specs.declared.limits.TheConstants.{PROCESSES, THREADS}
use Rattle.kern_model.specs.Rights.{process_of, is_same, allows_writing, load_fault_by, store_fault_by, first_of, or_key, key_in, is_writable, IsLeastOf}
use Rattle.page_rights.specs.declared.mapping.Mapping.{Mapping}
use Rattle.page_rights.specs.Tables.{IsRow, HasOneRow}

-- The same words as of threads, by the process itself; `processes` has the process of each thread by its number.

abbrev pub process_at : List (Option ℕ) → ℕ → Option ℕ
process_at processes thread = slice_index_or processes thread None

abbrev pub is_in : List (Option ℕ) → ℕ → ℕ → Bool
is_in processes thread process = is_same (process_at processes thread) (Some process)

abbrev pub holds_in : List (Option ℕ) → ℕ → ℕ → Holder → Bool
holds_in processes process id h = (h.id == id) && is_in processes h.thread process

abbrev pub key_of : List (Option ℕ) → List Holder → ℕ → ℕ → Option ℕ
key_of processes [] process id = None
key_of processes (h ∷ holders) process id = if holds_in processes process id h then Some h.key else key_of processes holders process id

abbrev pub is_writable_in : List (Option ℕ) → List Holder → ℕ → ℕ → Bool
is_writable_in processes [] process id = false
is_writable_in processes (h ∷ holders) process id = (holds_in processes process id h && allows_writing h.right) || is_writable_in processes holders process id

abbrev pub uses_key_in : List (Option ℕ) → ℕ → ℕ → Holder → Bool
uses_key_in processes process key h = (h.key == key) && is_in processes h.thread process

abbrev pub is_free_in : List (Option ℕ) → List Holder → ℕ → ℕ → Bool
is_free_in processes [] process key = true
is_free_in processes (h ∷ holders) process key = not (uses_key_in processes process key h) && is_free_in processes holders process key

abbrev pub free_in : List (Option ℕ) → List Holder → ℕ → List ℕ
free_in processes holders process = filter (is_free_in processes holders process) (range_with_len 1 15)

abbrev pub key_for_in : List (Option ℕ) → List Holder → ℕ → ℕ → Option ℕ
key_for_in processes holders process id = or_key (key_of processes holders process id) (first_of (free_in processes holders process))

abbrev pub without_process_in : List (Option ℕ) → ℕ → List Holder → List Holder
without_process_in processes process holders = filter (λ h. not (is_in processes h.thread process)) holders

-- What is kept of a process and a coffer.

abbrev pub mapping_by : Option ℕ → Bool → Option Mapping
mapping_by None writable = None
mapping_by (Some key) writable = Some (record { key = key; writable = writable })

abbrev pub mapping_of : List (Option ℕ) → List Holder → ℕ → ℕ → Option Mapping
mapping_of processes holders process id = mapping_by (key_of processes holders process id) (is_writable_in processes holders process id)

abbrev pub place_of : ℕ → ℕ → ℕ
place_of process id = 257 * process + id

abbrev pub mapping_at : List (Option Mapping) → ℕ → ℕ → Option Mapping
mapping_at mappings process id = slice_index_or mappings (place_of process id) None

abbrev pub load_fault_of : Option Mapping → ℕ → Option FaultKind
load_fault_of None pkru = load_fault_by None pkru
load_fault_of (Some m) pkru = load_fault_by (Some m.key) pkru

abbrev pub store_fault_of : Option Mapping → ℕ → Option FaultKind
store_fault_of None pkru = store_fault_by None false pkru
store_fault_of (Some m) pkru = store_fault_by (Some m.key) m.writable pkru

abbrev pub mapping_for : List (ℕ × ℕ) → List Holder → ℕ → ℕ → Option Mapping
mapping_for threads holders thread id = mapping_by (key_in threads holders thread id) (is_writable threads holders thread id)

-- The least thread so far.

abbrev pub lesser : Option ℕ → ℕ → ℕ
lesser None thread = thread
lesser (Some least) thread = min least thread

abbrev pub IsLeast : List ℕ → Option ℕ → Type 0
IsLeast threads least = MatchOption least (threads ≡ []) (IsLeastOf threads)

-- What ties the parts of the tables together.
pub record TablesAgree (threads : List (ℕ × ℕ)) (processes : List (Option ℕ)) (holders : List Holder) (mappings : List (Option Mapping)) : Type 0 where
  pub numbers : length processes ≡ THREADS
  pub starts : (thread : ℕ) → process_at processes thread ≡ process_of threads thread
  pub small : (thread process : ℕ) → process_at processes thread ≡ Some process → process < PROCESSES
  pub rows : All IsRow holders
  pub row_threads : All (λ h. process_at processes h.thread ≢ None) holders
  pub own : (process : ℕ) (h g : Holder) → Contains holders h → Contains holders g → is_in processes h.thread process ≡ true → is_in processes g.thread process ≡ true → (h.id ≡ g.id) ↔ (h.key ≡ g.key)
  pub one_row : (thread id : ℕ) → HasOneRow holders thread id
  pub places : length mappings ≡ 16448
  pub kept : (process id : ℕ) → process < PROCESSES → id ≤ 256 → mapping_at mappings process id ≡ mapping_of processes holders process id
