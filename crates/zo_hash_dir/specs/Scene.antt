-- A directory as a look-up and a count find it, and which of its words they load.
use Rattle.std.specs.Prelude.{◌≡◌, ◌≢◌, ◌⊎◌, ℕ, ◌<◌, ◌≤◌, List, length, Contains, Option, Some}
use Rattle.zo_layout.specs.Layout.{word_of, first_entry_page, first_free_entry, next_entry}
use Rattle.zo_model.specs.Directory.{IsPlace, IsReached, Shows}
use Rattle.zo_hash_dir.specs.Addresses.{IsNear, IsEntryAddress, IsPageAddress, IsTarget}

-- Words that stay as they are, the pages in which a directory has its entries, and the targets that it is to show.
pub record Scene : Type 0 where
  pub at : ℕ → ℕ
  pub pages : List ℕ
  pub want : List ℕ → Option ℕ

-- a page of the list; none is page 0
pub record IsPageOf (pages : List ℕ) (page : ℕ) : Type 0 where
  pub among : Contains pages page
  pub some : 0 < page
  pub near : IsNear page

-- The directory at this address shows what it is to show, in at most this many pages, and only targets that the layout allows.
pub record IsShown (s : Scene) (dir pages : ℕ) : Type 0 where
  pub shows : Shows s.at (IsPageOf s.pages) dir s.want
  pub few : length s.pages ≤ pages
  pub targets : (name : List ℕ) (target : ℕ) → s.want name ≡ Some target → IsTarget target

abbrev pub IsNoneOr : (ℕ → Type 0) → ℕ → Type 0
IsNoneOr Allowed word = (word ≡ 0) ⊎ Allowed word

-- The words from which a new entry is planned are 0 or as the layout allows, and the first free entry lies in the pages.
pub record CanMake (s : Scene) (dir : ℕ) : Type 0 where
  pub first : IsNoneOr IsPageAddress (s.at (first_entry_page dir))
  pub free : IsNoneOr (IsPlace (IsPageOf s.pages)) (s.at (first_free_entry dir))
  pub free_next : s.at (first_free_entry dir) ≢ 0 → IsNoneOr IsEntryAddress (s.at (next_entry (s.at (first_free_entry dir))))

-- A word that is loaded: of the directory's page, of an entry that a chain reaches, or the first one of the first free entry.
pub data IsRead (s : Scene) (dir addr : ℕ) : Type 0 where
  OfDirectory : (i : ℕ) → i < 512 → addr ≡ word_of dir i → IsRead s dir addr
  OfEntry : (entry i : ℕ) → IsReached s.at dir entry → IsPlace (IsPageOf s.pages) entry → i < 40 → addr ≡ word_of entry i → IsRead s dir addr
  OfFree : (entry : ℕ) → entry ≡ s.at (first_free_entry dir) → IsPlace (IsPageOf s.pages) entry → addr ≡ next_entry entry → IsRead s dir addr
