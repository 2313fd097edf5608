-- A directory as its words have it: 256 buckets, each a chain of entries, and each entry a name and a target. `at` is the
-- word at an address, both in bytes, so that the words as they stand, words with pairs laid over them, and the words
-- that a crash leaves are read by the same definitions.
use Rattle.std.specs.Prelude.{◌≡◌, ◌≢◌, ◌⊎◌, ℕ, ◌/◌, ◌%◌, ◌^◌, ◌<◌, List, [], ◌∷◌, map, Contains, Option, Some, None, if◌then◌else◌}
use Rattle.std.specs.List.{range_with_len, IsDistinct}
use Rattle.zo_layout.specs.Layout.{page_at, word_of, bucket_head, bucket_of, entry_place, entry_target, first_entry_page, first_free_entry, name_length, name_word, next_entry}
use Rattle.tr_types.specs.Paths.{same_text}
use Rattle.zo_model.specs.Commands.{IsName}

-- byte k of a text that begins with the word at `start`, eight bytes to a word, the first one lowest
abbrev pub byte_at : (ℕ → ℕ) → ℕ → ℕ → ℕ
byte_at at start k = at (word_of start (k / 8)) / 256 ^ (k % 8) % 256

-- the text of this length that begins there
abbrev pub text_at : (ℕ → ℕ) → ℕ → ℕ → List ℕ
text_at at start len = map (byte_at at start) (range_with_len 0 len)

-- the name of an entry
abbrev pub name_at : (ℕ → ℕ) → ℕ → List ℕ
name_at at entry = text_at at (name_word entry 0) (at (name_length entry))

-- one of the twelve places of an entry page
pub record IsPlace (IsEntryPage : ℕ → Type 0) (entry : ℕ) : Type 0 where
  pub page : ℕ
  pub place : ℕ
  pub is : entry ≡ entry_place (page_at page) place
  pub twelve : place < 12
  pub entries : IsEntryPage page

-- a word leads to these entries, one behind the other, and the last one to none
abbrev pub Leads : (ℕ → ℕ) → ℕ → List ℕ → Type 0
Leads at word [] = word ≡ 0
Leads at word (entry ∷ entries) = (word ≡ entry) × (entry ≢ 0) × Leads at (at (next_entry entry)) entries

-- the target that the first entry of this name has
abbrev pub target_in : (ℕ → ℕ) → List ℕ → List ℕ → Option ℕ
target_in at name [] = None
target_in at name (entry ∷ entries) = if same_text (name_at at entry) name then Some (at (entry_target entry)) else target_in at name entries

-- an entry of a bucket: it stands in one of the directory's entry pages, and has a name of this bucket
pub record IsEntry (at : ℕ → ℕ) (IsEntryPage : ℕ → Type 0) (bucket entry : ℕ) : Type 0 where
  pub place : IsPlace IsEntryPage entry
  pub name : IsName (name_at at entry)
  pub in_bucket : bucket_of (name_at at entry) ≡ bucket

-- the directory at the address `dir` has in this bucket just the names that are wanted there, each once and with its target
pub record IsBucket (at : ℕ → ℕ) (IsEntryPage : ℕ → Type 0) (dir : ℕ) (want : List ℕ → Option ℕ) (bucket : ℕ) : Type 0 where
  pub entries : List ℕ
  pub leads : Leads at (at (bucket_head dir bucket)) entries
  pub each : (entry : ℕ) → Contains entries entry → IsEntry at IsEntryPage bucket entry
  pub once : IsDistinct same_text (map (name_at at) entries)
  pub names : (name : List ℕ) → bucket_of name ≡ bucket → target_in at name entries ≡ want name

-- the chains of the directory show just these names, each with its target
abbrev pub Shows : (ℕ → ℕ) → (ℕ → Type 0) → ℕ → (List ℕ → Option ℕ) → Type 0
Shows at IsEntryPage dir want = (bucket : ℕ) → bucket < 256 → IsBucket at IsEntryPage dir want bucket

-- a chain of the directory reaches the entry
pub record IsReached (at : ℕ → ℕ) (dir entry : ℕ) : Type 0 where
  pub bucket : ℕ
  pub is_bucket : bucket < 256
  pub entries : List ℕ
  pub leads : Leads at (at (bucket_head dir bucket)) entries
  pub among : Contains entries entry

-- a free entry: a place of the directory's entry pages that no chain of it reaches
pub record IsFree (at : ℕ → ℕ) (IsEntryPage : ℕ → Type 0) (dir entry : ℕ) : Type 0 where
  pub place : IsPlace IsEntryPage entry
  pub unreached : IsReached at dir entry → ⊥

-- the directory's free entries, in the order of their chain
pub record HasFree (at : ℕ → ℕ) (IsEntryPage : ℕ → Type 0) (dir : ℕ) (frees : List ℕ) : Type 0 where
  pub leads : Leads at (at (first_free_entry dir)) frees
  pub each : (entry : ℕ) → Contains frees entry → IsFree at IsEntryPage dir entry

-- the directory's word for its first entry page: 0, or the address of one of them
abbrev pub HasFirst : (ℕ → ℕ) → (ℕ → Type 0) → ℕ → Type 0
HasFirst at IsEntryPage dir = (at (first_entry_page dir) ≡ 0) ⊎ ((page : ℕ) × (at (first_entry_page dir) ≡ page_at page) × IsEntryPage page)
