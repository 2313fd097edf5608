-- What a thread may do to a coffer that calls share. Each deed is a test on what stands before (`May`) and a total function to what
-- stands after (`does`).
use Rattle.std.specs.Prelude.{◌≡◌, ◌⊎◌, ℕ, ◌+◌, ◌%◌, ◌/◌, ◌^◌, ◌<◌, ◌≤◌, List, [], ◌∷◌, ◌++◌, Contains, Bool, true, false, Option, Some, None, if◌then◌else◌, ◌==◌, nat_eq}
use Rattle.std.specs.List.{IsDistinct, list_any}
use Rattle.zo_layout.specs.Layout.{page_at, word_of, bucket_head, bucket_of, dir_lease, dir_at, dir_counter, first_entry_page, first_free_entry, next_entry, next_entry_page, pool_lease}
use Rattle.zo_lease.specs.Words.{holder_of, expiry_of}
use Rattle.zo_model.specs.Tree.{Node, same_names}
use Rattle.zo_model.specs.Directory.{IsPlace, IsReached, Leads}
use Rattle.zo_model.specs.CofferWords.{CofferAt, Use, Nothing, Object, Entries, IsEntryPage, IsDir}
use Rattle.zo_units.specs.Memory.{Memory, at, IsClean, stored_in, flushed_in, fenced_in}
use Rattle.zo_units.specs.Units.{Commitment, IsOpen, back}
use Rattle.zo_units.specs.UnitLaws.{Grows, put_use}
use Rattle.zo_units.specs.Commits.{CanCommit, link_commit, with_member, put_page, put_last}
use Rattle.zo_shared.specs.Shared.{Shared, dir_of, lease_of, noted_of, counter_of, Still}

-- Names are those of a directory; addresses are in bytes.
pub data Deed : Type 0 where
  -- looks, or is refused, or finds another word in an exchange: nothing is changed
  Look : Deed
  Flush : (addr : ℕ) → Deed
  Fence : Deed
  -- puts its own word into the lease
  Take : (names : List (List ℕ)) (own : ℕ) → Deed
  -- puts 0 there
  GiveBack : (names : List (List ℕ)) (own : ℕ) → Deed
  Raise : (names : List (List ℕ)) → Deed
  Note : (names : List (List ℕ)) (addr : ℕ) → Deed
  -- takes the first free entry out of the chain of free entries
  Unchain : (names : List (List ℕ)) (entry : ℕ) → Deed
  -- makes a drawn page the directory's first entry page, and then the chain of free entries that is prepared in it the directory's
  AddPage : (names : List (List ℕ)) (page : ℕ) → Deed
  AddFree : (names : List (List ℕ)) (frees : List ℕ) (first : ℕ) → Deed
  -- stores a word in an entry that no chain reaches
  Prepare : (names : List (List ℕ)) (entry i word : ℕ) → Deed
  -- stores a word in a page that it has drawn
  Draft : (addr word : ℕ) → Deed
  Commit : (names : List (List ℕ)) (name : List ℕ) (node : Node) (entry made position : ℕ) → Deed
  -- has been given these pages; the coffer and the memory are these then
  Draw : (pages : List ℕ) (memory : Memory) (grown : CofferAt) → Deed
  -- puts a word into the lease of a pool
  Pool : (pool word : ℕ) → Deed
  -- has its reply
  Reply : Deed

abbrev pub put_at : {X : Type 0} → (List (List ℕ) → X) → List (List ℕ) → X → List (List ℕ) → X
put_at f names x other = if same_names other names then x else f other

abbrev pub put_drawn : (ℕ → Option ℕ) → ℕ → Option ℕ → ℕ → Option ℕ
put_drawn drawn page who p = if p == page then who else drawn p

abbrev pub all_drawn : (ℕ → Option ℕ) → List ℕ → ℕ → ℕ → Option ℕ
all_drawn drawn pages thread p = if list_any (nat_eq p) pages then Some thread else drawn p

abbrev pub kept_last : Memory → ℕ → Option Commitment → Option Commitment
kept_last m thread None = None
kept_last m thread (Some c) = if c.thread == thread then None else Some c

-- all but the memory stays, and time goes on
abbrev pub with_memory : Shared → ℕ → Memory → Shared
with_memory g now memory = record {
  memory = memory;
  now = now;
  count = g.count + 1;
  coffer = g.coffer;
  tree = g.tree;
  page_of = g.page_of;
  use_of = g.use_of;
  lasts = g.lasts;
  drawn = g.drawn;
  frees = g.frees;
  bases = g.bases;
  raises = g.raises;
  raised = g.raised;
}

abbrev pub with_raises : Shared → (List (List ℕ) → ℕ) → (List (List ℕ) → Bool) → Shared
with_raises g raises raised = record {
  memory = g.memory;
  now = g.now;
  count = g.count;
  coffer = g.coffer;
  tree = g.tree;
  page_of = g.page_of;
  use_of = g.use_of;
  lasts = g.lasts;
  drawn = g.drawn;
  frees = g.frees;
  bases = g.bases;
  raises = raises;
  raised = raised;
}

abbrev pub with_frees : Shared → (List (List ℕ) → List ℕ) → Shared
with_frees g frees = record {
  memory = g.memory;
  now = g.now;
  count = g.count;
  coffer = g.coffer;
  tree = g.tree;
  page_of = g.page_of;
  use_of = g.use_of;
  lasts = g.lasts;
  drawn = g.drawn;
  frees = frees;
  bases = g.bases;
  raises = g.raises;
  raised = g.raised;
}

abbrev pub with_uses : Shared → (ℕ → Use) → (ℕ → Option ℕ) → Shared
with_uses g use_of drawn = record {
  memory = g.memory;
  now = g.now;
  count = g.count;
  coffer = g.coffer;
  tree = g.tree;
  page_of = g.page_of;
  use_of = use_of;
  lasts = g.lasts;
  drawn = drawn;
  frees = g.frees;
  bases = g.bases;
  raises = g.raises;
  raised = g.raised;
}

abbrev pub rest_of : List ℕ → List ℕ
rest_of [] = []
rest_of (entry ∷ entries) = entries

abbrev pub stores : Shared → ℕ → ℕ → ℕ → Shared
stores g now addr word = with_memory g now (stored_in addr word g.memory)

-- what a thread's deed at a tick leaves
abbrev pub does : ℕ → ℕ → Deed → Shared → Shared
does thread now Look g = with_memory g now g.memory
does thread now (Flush addr) g = with_memory g now (flushed_in thread addr g.memory)
does thread now Fence g = with_memory g now (fenced_in thread g.memory)
does thread now (Take names own) g = with_raises (stores g now (dir_lease (dir_of g names)) own) g.raises (put_at g.raised names false)
does thread now (GiveBack names own) g = stores g now (dir_lease (dir_of g names)) 0
does thread now (Raise names) g =
    with_raises (stores g now (dir_counter (dir_of g names)) ((counter_of g names + 1) % 2 ^ 64)) (put_at g.raises names (g.raises names + 1)) (put_at g.raised names true)
does thread now (Note names addr) g = stores g now (dir_at (dir_of g names)) addr
does thread now (Unchain names entry) g =
    with_frees (stores g now (first_free_entry (dir_of g names)) (at g.memory (next_entry entry))) (put_at g.frees names (rest_of (g.frees names)))
does thread now (AddPage names page) g =
    with_uses (stores g now (first_entry_page (dir_of g names)) (page_at page)) (put_use g.use_of page (Entries names)) (put_drawn g.drawn page None)
does thread now (AddFree names frees first) g = with_frees (stores g now (first_free_entry (dir_of g names)) first) (put_at g.frees names frees)
does thread now (Prepare names entry i word) g = stores g now (word_of entry i) word
does thread now (Draft addr word) g = stores g now addr word
does thread now (Commit names name node entry made position) g = record {
  memory = stored_in (bucket_head (dir_of g names) (bucket_of name)) entry g.memory;
  now = now;
  count = g.count + 1;
  coffer = g.coffer;
  tree = with_member g.tree (names ++ name ∷ []) node;
  page_of = put_page g.page_of (names ++ name ∷ []) made;
  use_of = put_use g.use_of made (Object (names ++ name ∷ []));
  lasts = put_last g.lasts names (link_commit thread position g.memory (bucket_head (dir_of g names) (bucket_of name)) (names ++ name ∷ []));
  drawn = put_drawn g.drawn made None;
  -- where a directory is made it begins with nothing
  frees = put_at g.frees (names ++ name ∷ []) [];
  bases = put_at g.bases (names ++ name ∷ []) 0;
  raises = put_at g.raises (names ++ name ∷ []) 0;
  raised = put_at g.raised (names ++ name ∷ []) false;
}
does thread now (Pool pool word) g = stores g now (pool_lease (page_at g.coffer.control) pool) word
does thread now (Draw pages memory grown) g = record {
  memory = memory;
  now = now;
  count = g.count + 1;
  coffer = grown;
  tree = g.tree;
  page_of = g.page_of;
  use_of = g.use_of;
  lasts = g.lasts;
  drawn = all_drawn g.drawn pages thread;
  frees = g.frees;
  bases = g.bases;
  raises = g.raises;
  raised = g.raised;
}
does thread now Reply g = record {
  memory = g.memory;
  now = g.now;
  count = g.count + 1;
  coffer = g.coffer;
  tree = g.tree;
  page_of = g.page_of;
  use_of = g.use_of;
  lasts = λ names. kept_last g.memory thread (g.lasts names);
  drawn = g.drawn;
  frees = g.frees;
  bases = g.bases;
  raises = g.raises;
  raised = g.raised;
}

-- The thread holds the lease of this directory: its own word stands there, unexpired at this tick.
pub record Holds (g : Shared) (thread now : ℕ) (names : List (List ℕ)) : Type 0 where
  pub dir : IsDir g.tree names
  pub own : holder_of (lease_of g names) ≡ Some thread
  pub fresh : now ≤ expiry_of (lease_of g names)

-- a lease that is free, or has expired at this tick
abbrev pub IsOpenTo : Shared → ℕ → List (List ℕ) → Type 0
IsOpenTo g now names = (lease_of g names ≡ 0) ⊎ (expiry_of (lease_of g names) < now)

-- It gives back a lease that shows its own word. Where that has expired nobody else has taken it, and what it committed is durable.
pub record MayGiveBack (g : Shared) (thread : ℕ) (names : List (List ℕ)) (own : ℕ) : Type 0 where
  pub dir : IsDir g.tree names
  pub own_is : lease_of g names ≡ own
  pub holder : holder_of own ≡ Some thread
  pub still : Still g names

-- an entry of the directory that neither its buckets nor its free entries lead to
pub record IsLoose (g : Shared) (names : List (List ℕ)) (entry : ℕ) : Type 0 where
  pub place : IsPlace (IsEntryPage g.coffer g.use_of names) entry
  pub unreached : IsReached (at g.memory) (dir_of g names) entry → ⊥
  pub before : (c : Commitment) → g.lasts names ≡ Some c → IsOpen g.memory c → IsReached (back g.memory c) (dir_of g names) entry → ⊥
  pub unfree : Contains (g.frees names) entry → ⊥

-- A drawn page is prepared as an entry page: it leads to the entry pages that there are.
pub record IsPagePrepared (g : Shared) (thread : ℕ) (names : List (List ℕ)) (page : ℕ) : Type 0 where
  pub drawn : g.drawn page ≡ Some thread
  pub leads : at g.memory (next_entry_page (page_at page)) ≡ at g.memory (first_entry_page (dir_of g names))

-- These entries of the directory lead to one another, are loose, and become its free entries; it had none.
pub record AreFreed (g : Shared) (names : List (List ℕ)) (frees : List ℕ) (first : ℕ) : Type 0 where
  pub none : g.frees names ≡ []
  pub leads : Leads (at g.memory) first frees
  pub each : (entry : ℕ) → Contains frees entry → IsLoose g names entry

-- The commit's position is that of no entry before it.
pub record MayCommit (g : Shared) (thread now : ℕ) (names : List (List ℕ)) (name : List ℕ) (node : Node) (entry made position : ℕ) : Type 0 where
  pub recent : g.count ≤ position
  pub holds : Holds g thread now names
  pub raised : g.raised names ≡ true
  pub noted : noted_of g names ≡ bucket_head (dir_of g names) (bucket_of name)
  pub can : CanCommit g.memory g.coffer g.tree g.page_of g.use_of g.lasts names name node entry made
  pub loose : IsLoose g names entry
  pub drawn : g.drawn made ≡ Some thread

-- pages that come to the coffer are new to it, each once, zeros, and durable
pub record AreGiven (g : Shared) (pages : List ℕ) (memory : Memory) (grown : CofferAt) : Type 0 where
  pub grows : Grows g.memory memory g.coffer grown
  pub inside : (page : ℕ) → Contains pages page → Contains grown.pages page
  pub only : (page : ℕ) → Contains grown.pages page → Contains g.coffer.pages page ⊎ Contains pages page
  pub outside : (page : ℕ) → Contains pages page → Contains g.coffer.pages page → ⊥
  pub once : IsDistinct nat_eq pages
  pub useless : (page : ℕ) → Contains pages page → g.use_of page ≡ Nothing
  pub zeros : (page i : ℕ) → Contains pages page → i < 512 → (at memory (word_of (page_at page) i) ≡ 0) × IsClean memory (word_of (page_at page) i)

abbrev pub May : ℕ → ℕ → Deed → Shared → Type 0
May thread now Look g = Unit {0}
May thread now (Flush addr) g = Unit {0}
May thread now Fence g = Unit {0}
May thread now (Take names own) g = IsDir g.tree names × IsOpenTo g now names × (holder_of own ≡ Some thread)
May thread now (GiveBack names own) g = MayGiveBack g thread names own
May thread now (Raise names) g = Holds g thread now names
-- an open commit is noted, so the note moves only where there is none
May thread now (Note names addr) g = Holds g thread now names × (g.raised names ≡ true) × Still g names
May thread now (Unchain names entry) g = Holds g thread now names × ((frees : List ℕ) × (g.frees names ≡ entry ∷ frees))
May thread now (AddPage names page) g = Holds g thread now names × IsPagePrepared g thread names page
May thread now (AddFree names frees first) g = Holds g thread now names × AreFreed g names frees first
May thread now (Prepare names entry i word) g = Holds g thread now names × IsLoose g names entry × (i < 40)
May thread now (Draft addr word) g = (g.drawn (addr / 4096) ≡ Some thread)
May thread now (Commit names name node entry made position) g = MayCommit g thread now names name node entry made position
May thread now (Draw pages memory grown) g = AreGiven g pages memory grown
May thread now (Pool pool word) g = pool ≤ 7
May thread now Reply g = (names : List (List ℕ)) (c : Commitment) → g.lasts names ≡ Some c → c.thread ≡ thread → IsOpen g.memory c → ⊥

-- time doesn't go back
pub record MayDo (thread now : ℕ) (deed : Deed) (g : Shared) : Type 0 where
  pub later : g.now ≤ now
  pub may : May thread now deed g
