-- The tables as their callers see them, and what each change leaves of them.
use Rattle.std.specs.Prelude.{ℕ, ◌≡◌, ◌<◌, ◌≤◌, ◌↔◌, ◌⊎◌, List, [], ◌∷◌, ◌++◌, length, fold, filter, slice_index, slice_set, Contains, All, true, not, Some, ◌==◌}
use Rattle.tr_types.specs.declared.kernel_call.Holder.{Holder}
use Rattle.kern_model.specs.KernelCalls.{without_coffer}
use Rattle.kern_model.specs.Rights.{process_of, is_same, are_together, is_row_of, with_row, without_row}

pub record View : Type 0 where
  pub threads : List (ℕ × ℕ)  -- each thread with its process, in the order of starting
  pub holders : List Holder  -- who holds which coffer, the last mapped last
  pub owners : List ℕ  -- of each page the coffer under which it stands, held or not, 0 for none

-- The page may come to stand under the coffer: it is there, and stands under no other.
pub record MayStand (id : ℕ) (owners : List ℕ) (page : ℕ) : Type 0 where
  pub inside : page < length owners
  pub whose : (slice_index owners page ≡ 0) ⊎ (slice_index owners page ≡ id)

-- What is always so.

-- rows of one process have one key for one coffer, and different ones for different coffers
pub record HaveOwnKeys (threads : List (ℕ × ℕ)) (holders : List Holder) : Type 0 where
  pub own : (h g : Holder) → Contains holders h → Contains holders g → are_together threads h.thread g.thread ≡ true → (h.id ≡ g.id) ↔ (h.key ≡ g.key)

pub record IsRow (h : Holder) : Type 0 where
  pub least_id : 1 ≤ h.id
  pub greatest_id : h.id ≤ 256
  pub least_key : 1 ≤ h.key
  pub greatest_key : h.key ≤ 15

-- a thread has at most one row of a coffer
abbrev pub HasOneRow : List Holder → ℕ → ℕ → Type 0
HasOneRow holders thread id = length (filter (is_row_of thread id) holders) ≤ 1

pub record HasSoundMaps (v : View) : Type 0 where
  pub rows : All IsRow v.holders
  pub keys : HaveOwnKeys v.threads v.holders
  pub one_row : (thread id : ℕ) → HasOneRow v.holders thread id

-- Changes.

-- the pages stand under the coffer, or under none where it is 0
abbrev pub with_pages : ℕ → List ℕ → List ℕ → List ℕ
with_pages id pages owners = fold (λ now page. slice_set now page id) owners pages

-- no thread of the process holds any coffer
abbrev pub without_process : List (ℕ × ℕ) → ℕ → List Holder → List Holder
without_process threads process holders = filter (λ h. not (is_same (process_of threads h.thread) (Some process))) holders

-- the rows of a coffer
abbrev pub rows_of : ℕ → List Holder → List Holder
rows_of id holders = filter (λ h. h.id == id) holders

abbrev pub started : ℕ → ℕ → View → View
started thread process v = record { threads = v.threads ++ (thread, process) ∷ []; holders = v.holders; owners = v.owners }

abbrev pub with_owners : List ℕ → View → View
with_owners owners v = record { threads = v.threads; holders = v.holders; owners = owners }

abbrev pub with_holders : List Holder → View → View
with_holders holders v = record { threads = v.threads; holders = holders; owners = v.owners }

abbrev pub mapped : Holder → List ℕ → View → View
mapped row pages v = record { threads = v.threads; holders = with_row row v.holders; owners = with_pages row.id pages v.owners }

abbrev pub unmapped : ℕ → ℕ → View → View
unmapped thread id v = with_holders (without_row thread id v.holders) v

abbrev pub coffer_dropped : ℕ → View → View
coffer_dropped id v = with_holders (without_coffer id v.holders) v

abbrev pub process_dropped : ℕ → View → View
process_dropped process v = with_holders (without_process v.threads process v.holders) v
