-- A coffer as the calls that work in it share it: its words, what users see, and what isn't written down anywhere, but holds of
-- whoever works in it: which page serves for what, who has drawn a page, how often a counter was raised.
use Rattle.std.specs.Prelude.{◌≡◌, ◌≢◌, ℕ, ◌+◌, ◌%◌, ◌^◌, ◌≤◌, List, [], ◌∷◌, Contains, Bool, Option, Some, nat_eq}
use Rattle.std.specs.List.{IsDistinct}
use Rattle.zo_layout.specs.Layout.{page_at, dir_lease, dir_at, dir_counter, first_entry_page, next_entry_page, pool_head}
use Rattle.zo_lease.specs.Words.{expiry_of}
use Rattle.zo_model.specs.Tree.{Member}
use Rattle.zo_model.specs.Directory.{HasFree}
use Rattle.zo_model.specs.CofferWords.{CofferAt, Use, Nothing, Entries, IsEntryPage, IsDir}
use Rattle.zo_units.specs.Memory.{Memory, at}
use Rattle.zo_units.specs.Units.{Commitment, Lasts, IsOpen, IsStill, IsSound as IsSoundAt}

pub record Shared : Type 0 where
  pub memory : Memory
  -- the tick of the latest action
  pub now : ℕ
  -- how many entries there were
  pub count : ℕ
  pub coffer : CofferAt
  pub tree : List Member
  pub page_of : List (List ℕ) → ℕ
  pub use_of : ℕ → Use
  pub lasts : Lasts
  -- who has drawn a page that serves for nothing yet, by the page's number
  pub drawn : ℕ → Option ℕ
  -- the free entries of each directory, in the order of their chain
  pub frees : List (List ℕ) → List ℕ
  -- Of each directory: its counter when the trace began, how often it was raised since, and whether its lease's holder has raised it.
  pub bases : List (List ℕ) → ℕ
  pub raises : List (List ℕ) → ℕ
  pub raised : List (List ℕ) → Bool

abbrev pub dir_of : Shared → List (List ℕ) → ℕ
dir_of g names = page_at (g.page_of names)

-- the words of a directory's lease and beside it
abbrev pub lease_of : Shared → List (List ℕ) → ℕ
lease_of g names = at g.memory (dir_lease (dir_of g names))

abbrev pub noted_of : Shared → List (List ℕ) → ℕ
noted_of g names = at g.memory (dir_at (dir_of g names))

abbrev pub counter_of : Shared → List (List ℕ) → ℕ
counter_of g names = at g.memory (dir_counter (dir_of g names))

-- the last commit in a directory is durable
abbrev pub Still : Shared → List (List ℕ) → Type 0
Still g names = IsStill g.memory (g.lasts names)

-- a lease of this word holds still
pub record IsLive (g : Shared) (lease : ℕ) : Type 0 where
  pub some : lease ≢ 0
  pub fresh : g.now ≤ expiry_of lease

-- a word leads to these entry pages, one behind the other, and the last one to none
abbrev pub LeadsPages : (ℕ → ℕ) → ℕ → List ℕ → Type 0
LeadsPages words word [] = word ≡ 0
LeadsPages words word (page ∷ pages) = (word ≡ page_at page) × LeadsPages words (words (next_entry_page (page_at page))) pages

-- The directory leads to all its entry pages, each once.
pub record HasPages (g : Shared) (names : List (List ℕ)) : Type 0 where
  pub pages : List ℕ
  pub leads : LeadsPages (at g.memory) (at g.memory (first_entry_page (dir_of g names))) pages
  pub once : IsDistinct nat_eq pages
  pub each : (page : ℕ) → Contains pages page → IsEntryPage g.coffer g.use_of names page
  pub all : (page : ℕ) → IsEntryPage g.coffer g.use_of names page → Contains pages page

-- What holds of a directory, whoever holds its lease. Where nobody does, its last commit is durable; where that isn't, the note
-- beside the lease names its word. The counter tells how often it was raised.
pub record IsKept (g : Shared) (names : List (List ℕ)) : Type 0 where
  pub free : lease_of g names ≡ 0 → Still g names
  pub noted : (c : Commitment) → g.lasts names ≡ Some c → IsOpen g.memory c → noted_of g names ≡ c.addr
  pub counted : counter_of g names ≡ (g.bases names + g.raises names) % 2 ^ 64
  pub few : g.raises names ≤ g.count
  pub entries : HasFree (at g.memory) (IsEntryPage g.coffer g.use_of names) (dir_of g names) (g.frees names)
  pub pages : HasPages g names

-- A page that a thread has drawn serves for nothing yet, and is the coffer's.
pub record IsDrawn (g : Shared) (page : ℕ) : Type 0 where
  pub inside : Contains g.coffer.pages page
  pub useless : g.use_of page ≡ Nothing
  pub not_control : page ≢ g.coffer.control

-- All is sound: what the words denote, each directory, each drawn page. Entry pages are those of directories, and no pool has a page,
-- since none was ever given back.
pub record IsSound (g : Shared) : Type 0 where
  pub sound : IsSoundAt g.memory g.coffer g.tree g.page_of g.use_of g.lasts
  pub kept : (names : List (List ℕ)) → IsDir g.tree names → IsKept g names
  pub drawn : (page thread : ℕ) → g.drawn page ≡ Some thread → IsDrawn g page
  pub homes : (page : ℕ) (names : List (List ℕ)) → g.use_of page ≡ Entries names → IsDir g.tree names
  pub pools : (pool : ℕ) → pool ≤ 7 → at g.memory (pool_head (page_at g.coffer.control) pool) ≡ 0
