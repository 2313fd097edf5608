-- What the kernel's tables say once pages have come to a coffer or gone back. `at` is what was read before, and `after`
-- what is read then.
use Rattle.std.specs.Prelude.{◌≡◌, ◌≢◌, ◌⊎◌, ℕ, ◌+◌, ◌%◌, ◌<◌, ◌≤◌, List, ◌++◌, take, drop, filter, All, true, false, not, if◌then◌else◌}
use Rattle.zo_layout.specs.Layout.{page_at, kernel_pages, owner_table, coffer_table, owner_word, coffer_entry, coffer_control, coffer_root}
use Rattle.kern_model.specs.KernelTables.{owner_in, pages_owned, pages_free, is_id, stands_in, owner_fails, entry_fails, bucket_fails}
use Rattle.kern_model.specs.Kernel.{read_after}
use Rattle.kern_model.specs.declared.limits.TheConstants.{LAST_COFFER}
use Rattle.kern_owner.specs.Owners.{owner_pairs, is_among, in_order}

-- The owner words are in order of their pages, from the owner table's first word on, and none is a word of the coffer
-- table or behind it.
pub record IsOwnTable (pages : ℕ) : Type 0 where
  pub ordered : (page other : ℕ) → page < other → owner_word pages page + 8 ≤ owner_word pages other
  pub behind : (page : ℕ) → page_at (owner_table pages) ≤ owner_word pages page
  pub before : (page : ℕ) → page < pages → owner_word pages page + 8 ≤ page_at (coffer_table pages)

-- The words of the kernel's tables read the same: owners, coffers and path buckets.
abbrev pub SameTables : ℕ → (ℕ → ℕ) → (ℕ → ℕ) → Type 0
SameTables pages at after = (addr : ℕ) → addr % 8 ≡ 0 → page_at (owner_table pages) ≤ addr → addr < page_at (kernel_pages pages) → after addr ≡ at addr

-- The words of the coffers and the path buckets read the same.
abbrev pub SameCoffers : ℕ → (ℕ → ℕ) → (ℕ → ℕ) → Type 0
SameCoffers pages at after = (addr : ℕ) → addr % 8 ≡ 0 → page_at (coffer_table pages) ≤ addr → addr < page_at (kernel_pages pages) → after addr ≡ at addr

-- The pages of a list have become the owner's, and nothing else in the tables has changed.
pub record IsPassed (pages owner : ℕ) (list : List ℕ) (at after : ℕ → ℕ) : Type 0 where
  pub owners : (page : ℕ) → page < pages → owner_in pages after page ≡ (if is_among list page then owner else owner_in pages at page)
  pub coffers : SameCoffers pages at after

-- the rule of the owner words holds at every page
abbrev pub OwnersPass : ℕ → (ℕ → ℕ) → Type 0
OwnersPass pages at = (page : ℕ) → page < pages → owner_fails pages at page ≡ false

-- the three rules of the tables hold everywhere
pub record TablesPass (pages : ℕ) (at : ℕ → ℕ) : Type 0 where
  pub owners : OwnersPass pages at
  pub entries : (id : ℕ) → 1 ≤ id → id ≤ LAST_COFFER → entry_fails pages at id ≡ false
  pub buckets : (bucket : ℕ) → bucket < 256 → bucket_fails pages at bucket ≡ false

-- Pages that come to an owner.

-- the tables read as they were with the pairs of a list of pages laid over them
abbrev pub HasPassed : ℕ → ℕ → List ℕ → (ℕ → ℕ) → (ℕ → ℕ) → Type 0
HasPassed pages owner list at after = SameTables pages (read_after (owner_pairs pages owner list) at) after

abbrev pub PairsPass : Type 0
PairsPass = (pages owner : ℕ) (list : List ℕ) (at after : ℕ → ℕ) → HasPassed pages owner list at after
    → All (λ page. page < pages) list → IsPassed pages owner list at after

-- the control page or the root page of a coffer that is there is in the list
pub record TakesRoot (pages : ℕ) (list : List ℕ) (at : ℕ → ℕ) (id : ℕ) : Type 0 where
  pub there : stands_in pages at id ≡ true
  pub taken : (is_among list (at (coffer_control (coffer_entry pages id))) ≡ true) ⊎ (is_among list (at (coffer_root (coffer_entry pages id))) ≡ true)

-- pages other than the kernel's that come to a coffer that is there keep the rules of the tables, if no other coffer's
-- control page or root page is among them
abbrev pub PassKeepsRules : Type 0
PassKeepsRules = (pages owner : ℕ) (list : List ℕ) (at after : ℕ → ℕ) → HasPassed pages owner list at after
    → All (λ page. page < pages) list → All (λ page. kernel_pages pages ≤ page) list
    → ((id : ℕ) → 1 ≤ id → id ≤ LAST_COFFER → id ≢ owner → TakesRoot pages list at id → ⊥)
    → is_id owner ≡ true → stands_in pages at owner ≡ true → TablesPass pages at → TablesPass pages after

-- Grants.

-- The least free pages have become those of a coffer: the others are left, and no other owner has more pages or fewer.
pub record IsGranted (pages id count : ℕ) (at after : ℕ → ℕ) : Type 0 where
  pub passed : IsPassed pages id (take count (pages_free pages at)) at after
  pub free : pages_free pages after ≡ drop count (pages_free pages at)
  pub own : pages_owned pages after id ≡ in_order pages (pages_owned pages at id ++ take count (pages_free pages at))
  pub others : (owner : ℕ) → owner ≢ 0 → owner ≢ id → pages_owned pages after owner ≡ pages_owned pages at owner

-- the tables read as they were with a grant's pairs laid over them
abbrev pub HasGrant : ℕ → ℕ → ℕ → (ℕ → ℕ) → (ℕ → ℕ) → Type 0
HasGrant pages id count at after = HasPassed pages id (take count (pages_free pages at)) at after

abbrev pub GrantGives : Type 0
GrantGives = (pages id count : ℕ) (at after : ℕ → ℕ) → HasGrant pages id count at after → id ≢ 0 → IsGranted pages id count at after

-- a grant to a coffer that is there keeps the rules of the tables
abbrev pub GrantKeepsRules : Type 0
GrantKeepsRules = (pages id count : ℕ) (at after : ℕ → ℕ) → HasGrant pages id count at after
    → is_id id ≡ true → stands_in pages at id ≡ true → TablesPass pages at → TablesPass pages after

-- Pages that go back.

-- The pages of a list are nobody's any more, and every owner has left what isn't among them.
pub record IsTakenBack (pages : ℕ) (list : List ℕ) (at after : ℕ → ℕ) : Type 0 where
  pub passed : IsPassed pages 0 list at after
  pub free : pages_free pages after ≡ in_order pages (pages_free pages at ++ list)
  pub left : (owner : ℕ) → owner ≢ 0 → pages_owned pages after owner ≡ filter (λ page. not (is_among list page)) (pages_owned pages at owner)

-- the tables read as they were with the pairs of pages that go back laid over them
abbrev pub HasReturn : ℕ → List ℕ → (ℕ → ℕ) → (ℕ → ℕ) → Type 0
HasReturn pages list at after = HasPassed pages 0 (in_order pages list) at after

abbrev pub ReturnFrees : Type 0
ReturnFrees = (pages : ℕ) (list : List ℕ) (at after : ℕ → ℕ) → HasReturn pages list at after
    → All (λ page. page < pages) list → IsTakenBack pages list at after

-- pages other than the kernel's, taken back, keep the rule of the owner words
abbrev pub ReturnKeepsOwners : Type 0
ReturnKeepsOwners = (pages : ℕ) (list : List ℕ) (at after : ℕ → ℕ) → HasReturn pages list at after
    → All (λ page. page < pages) list → All (λ page. kernel_pages pages ≤ page) list → OwnersPass pages at → OwnersPass pages after

-- taken back, they keep the rule of each coffer whose control page and root page aren't among them
abbrev pub ReturnKeepsEntries : Type 0
ReturnKeepsEntries = (pages : ℕ) (list : List ℕ) (at after : ℕ → ℕ) → HasReturn pages list at after → All (λ page. page < pages) list
    → (id : ℕ) → 1 ≤ id → id ≤ LAST_COFFER → (TakesRoot pages list at id → ⊥) → entry_fails pages at id ≡ false → entry_fails pages after id ≡ false

-- they keep the rule of the path buckets
abbrev pub ReturnKeepsBuckets : Type 0
ReturnKeepsBuckets = (pages : ℕ) (list : List ℕ) (at after : ℕ → ℕ) → HasReturn pages list at after → All (λ page. page < pages) list
    → (bucket : ℕ) → bucket < 256 → bucket_fails pages at bucket ≡ false → bucket_fails pages after bucket ≡ false
