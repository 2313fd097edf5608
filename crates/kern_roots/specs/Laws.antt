-- What the changes of the coffer table leave. `at` reads before, `after` reads after them.
use Rattle.std.specs.Prelude.{◌≡◌, ◌≢◌, ℕ, ◌<◌, ◌≤◌, List, length, All, true, false, Some}
use Rattle.std.specs.List.{AllPairs}
use Rattle.zo_layout.specs.Layout.{word_of, coffer_entry, path_bucket}
use Rattle.tr_types.specs.declared.permission.Perm.{Perm}
use Rattle.tr_types.specs.Paths.{is_path_text}
use Rattle.kern_model.specs.Kernel.{read_after}
use Rattle.kern_model.specs.KernelTables.{Coffer, owner_in, owns, is_mode, is_there, stands_in, coffer_in, entry_fails, bucket_fails}
use Rattle.kern_model.specs.PathMap.{free_id, added_pairs, dropped_pairs, perm_pairs, state_pairs, root_pairs}
use Rattle.kern_model.specs.declared.limits.TheConstants.{LAST_USER, LAST_COFFER, LONGEST_PATH, ROOT_COFFER}
use Rattle.kern_roots.specs.Changes.{is_taken, is_used}

-- No rule of the table's entries and of the path buckets fails.
pub record PassesRoots (pages : ℕ) (at : ℕ → ℕ) : Type 0 where
  pub entries : (id : ℕ) → 1 ≤ id → id ≤ LAST_COFFER → entry_fails pages at id ≡ false
  pub buckets : (bucket : ℕ) → bucket < 256 → bucket_fails pages at bucket ≡ false

-- the same words in the coffer table and in the page of path buckets
pub record SameRoots (pages : ℕ) (at after : ℕ → ℕ) : Type 0 where
  pub entries : (id i : ℕ) → 1 ≤ id → id ≤ LAST_COFFER → i < 64 → after (word_of (coffer_entry pages id) i) ≡ at (word_of (coffer_entry pages id) i)
  pub buckets : (bucket : ℕ) → bucket < 256 → after (path_bucket pages bucket) ≡ at (path_bucket pages bucket)

-- The control page and the root page of each coffer but one have the owners that they had.
pub record KeepsOwners (pages id : ℕ) (at after : ℕ → ℕ) : Type 0 where
  pub control : (other : ℕ) → is_used pages at other ≡ true → other ≢ id
      → owner_in pages after (coffer_in pages at other).control ≡ owner_in pages at (coffer_in pages at other).control
  pub root : (other : ℕ) → is_used pages at other ≡ true → other ≢ id
      → owner_in pages after (coffer_in pages at other).root ≡ owner_in pages at (coffer_in pages at other).root

-- What the rule of an entry asks of a coffer, but for its path: its permission, its kind, and two pages of its own.
pub record IsRight (pages : ℕ) (at : ℕ → ℕ) (c : Coffer) : Type 0 where
  pub uid : c.perm.uid ≤ LAST_USER
  pub gid : c.perm.gid ≤ LAST_USER
  pub mode : is_mode c.perm.mode ≡ true
  pub kind : c.kind ≡ 0
  pub control : owns pages at c.id c.control ≡ true
  pub root : owns pages at c.id c.root ≡ true
  pub apart : c.control ≢ c.root

-- A change of one entry: the others say what they said, and pass, and the buckets pass. The entry itself passes where the
-- coffer that it has then is right. So no rule of the table fails then.
pub record ChangesOne (pages id : ℕ) (at after : ℕ → ℕ) : Type 0 where
  pub own : IsRight pages after (coffer_in pages after id) → entry_fails pages after id ≡ false
  pub others : (other : ℕ) → 1 ≤ other → other ≤ LAST_COFFER → other ≢ id → coffer_in pages after other ≡ coffer_in pages at other
  pub entries : (other : ℕ) → 1 ≤ other → other ≤ LAST_COFFER → other ≢ id → entry_fails pages after other ≡ false
  pub buckets : (bucket : ℕ) → bucket < 256 → bucket_fails pages after bucket ≡ false

-- a coffer that can be added: its number is the least free one, and its path is no other's
pub record IsNew (pages : ℕ) (at : ℕ → ℕ) (c : Coffer) : Type 0 where
  pub free : free_id pages at ≡ Some c.id
  pub fresh : is_taken pages at c.path ≡ false
  pub path : is_path_text c.path ≡ true
  pub short : length c.path ≤ LONGEST_PATH
  pub there : is_there c.state ≡ true

abbrev pub AddLaw : Type 0
AddLaw =
    (pages : ℕ) (at after : ℕ → ℕ) (c : Coffer) → PassesRoots pages at → IsNew pages at c
    → SameRoots pages (read_after (added_pairs pages at c) at) after → KeepsOwners pages c.id at after
    → (coffer_in pages after c.id ≡ c) × ChangesOne pages c.id at after

-- Any coffer but the root coffer can go.
abbrev pub DropLaw : Type 0
DropLaw =
    (pages : ℕ) (at after : ℕ → ℕ) (id : ℕ) → PassesRoots pages at → is_used pages at id ≡ true → id ≢ ROOT_COFFER
    → SameRoots pages (read_after (dropped_pairs pages at id) at) after → KeepsOwners pages id at after
    → (stands_in pages after id ≡ false) × (entry_fails pages after id ≡ false) × ChangesOne pages id at after

-- the coffer of a number, with another permission, state or root page

abbrev pub with_perm : Perm → Coffer → Coffer
with_perm perm c = record c { perm = perm }

abbrev pub with_state : ℕ → Coffer → Coffer
with_state state c = record c { state = state }

abbrev pub with_root : ℕ → Coffer → Coffer
with_root root c = record c { root = root }

abbrev pub PermLaw : Type 0
PermLaw =
    (pages : ℕ) (at after : ℕ → ℕ) (id : ℕ) (perm : Perm) → PassesRoots pages at → is_used pages at id ≡ true
    → SameRoots pages (read_after (perm_pairs pages id perm) at) after → KeepsOwners pages id at after
    → (coffer_in pages after id ≡ with_perm perm (coffer_in pages at id)) × ChangesOne pages id at after

abbrev pub StateLaw : Type 0
StateLaw =
    (pages : ℕ) (at after : ℕ → ℕ) (id state : ℕ) → PassesRoots pages at → is_used pages at id ≡ true → is_there state ≡ true
    → SameRoots pages (read_after (state_pairs pages id state) at) after → KeepsOwners pages id at after
    → (coffer_in pages after id ≡ with_state state (coffer_in pages at id)) × ChangesOne pages id at after

abbrev pub RootLaw : Type 0
RootLaw =
    (pages : ℕ) (at after : ℕ → ℕ) (id root : ℕ) → PassesRoots pages at → is_used pages at id ≡ true
    → SameRoots pages (read_after (root_pairs pages id root) at) after → KeepsOwners pages id at after
    → (coffer_in pages after id ≡ with_root root (coffer_in pages at id)) × ChangesOne pages id at after

-- The rule of the path buckets alone.

-- it fails at none of them
abbrev pub BucketsPass : ℕ → (ℕ → ℕ) → Type 0
BucketsPass pages at = (bucket : ℕ) → bucket < 256 → bucket_fails pages at bucket ≡ false

-- a coffer that can come to a bucket: its number is the least free one, and its path any text that an entry has room for
pub record IsComing (pages : ℕ) (at : ℕ → ℕ) (c : Coffer) : Type 0 where
  pub free : free_id pages at ≡ Some c.id
  pub bytes : All (λ byte. byte < 256) c.path
  pub short : length c.path ≤ LONGEST_PATH
  pub there : is_there c.state ≡ true

-- Each change keeps the rule of the path buckets, whatever text stands as a path, in its own entry and in others.
pub record KeepsBuckets (pages : ℕ) (at after : ℕ → ℕ) : Type 0 where
  pub added : (c : Coffer) → IsComing pages at c → SameRoots pages (read_after (added_pairs pages at c) at) after → BucketsPass pages after
  pub dropped : (id : ℕ) → is_used pages at id ≡ true → SameRoots pages (read_after (dropped_pairs pages at id) at) after → BucketsPass pages after
  pub perm : (id : ℕ) (perm : Perm) → is_used pages at id ≡ true → SameRoots pages (read_after (perm_pairs pages id perm) at) after → BucketsPass pages after
  pub state : (id state : ℕ) → is_used pages at id ≡ true → is_there state ≡ true → SameRoots pages (read_after (state_pairs pages id state) at) after → BucketsPass pages after
  pub root : (id root : ℕ) → is_used pages at id ≡ true → SameRoots pages (read_after (root_pairs pages id root) at) after → BucketsPass pages after

abbrev pub BucketLaw : Type 0
BucketLaw = (pages : ℕ) (at after : ℕ → ℕ) → BucketsPass pages at → KeepsBuckets pages at after

-- each pair has a greater address than those before it
abbrev pub AreInOrder : List (ℕ × ℕ) → Type 0
AreInOrder pairs = AllPairs {X = ℕ × ℕ} (λ p q. p.0 < q.0) pairs

-- The pairs of a change stand in order of address. (A state and a root page are one pair each.)
pub record AreAllInOrder (pages : ℕ) (at : ℕ → ℕ) : Type 0 where
  pub added : (c : Coffer) → 1 ≤ c.id → c.id ≤ LAST_COFFER → AreInOrder (added_pairs pages at c)
  pub dropped : (id : ℕ) → is_used pages at id ≡ true → AreInOrder (dropped_pairs pages at id)
  pub perm : (id : ℕ) (perm : Perm) → AreInOrder (perm_pairs pages id perm)

abbrev pub OrderLaw : Type 0
OrderLaw = (pages : ℕ) (at : ℕ → ℕ) → PassesRoots pages at → AreAllInOrder pages at
