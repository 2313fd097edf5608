-- Laws of the units of a coffer: what a crash leaves, and what keeps them sound.
use Rattle.std.specs.Prelude.{◌≡◌, ◌≢◌, ◌⊎◌, ℕ, ◌+◌, ◌/◌, ◌≤◌, ◌<◌, ◌==◌, List, [], ◌∷◌, ◌++◌, length, map, filter, Bool, true, false, Contains, Some, None, if◌then◌else◌}
use Rattle.std.specs.List.{IsDistinct}
use Rattle.pm_words.specs.Crash.{after_crash}
use Rattle.pm_words.specs.Word.{Word}
use Rattle.pm_words.specs.declared.choice.Choice.{Choice}
use Rattle.zo_layout.specs.Layout.{page_at, word_of, bucket_head, control_intent, file_map, page_kind}
use Rattle.zo_model.specs.Tree.{Member, Node, Directory, FileOf, node_at, same_names, is_child}
use Rattle.zo_model.specs.Directory.{IsPlace, IsReached}
use Rattle.zo_model.specs.CofferWords.{CofferAt, Use, Nothing, Entries, IsEntryPage}
use Rattle.zo_units.specs.Memory.{Memory, at, IsClean, IsTidy, IsLeft, stored_in, exchanged_in, flushed_in, fenced_in, memory_of}
use Rattle.zo_units.specs.MemoryLaws.{Rises, Spares, crash_places}
use Rattle.zo_units.specs.Units.{Commitment, Lasts, IsOpen, IsLeftTree, Drops, dropped, back, MayStand, DenotesBy, IsSound}

-- whatever a crash leaves denotes the tree without the last commits that it loses
abbrev pub SurviveLaw : Type 0
SurviveLaw = (m : Memory) (coffer : CofferAt) (tree other : List Member) (page_of : List (List ℕ) → ℕ) (use_of : ℕ → Use) (lasts : Lasts) (places image : ℕ → ℕ) (drop : ℕ → Bool)
    → IsSound m coffer tree page_of use_of lasts → IsLeft m places image → Drops places lasts drop → IsLeftTree drop lasts tree other
    → DenotesBy image coffer other page_of use_of

-- where each last commit's position leads to its unit, this tells the commits that are dropped
abbrev pub DropsLaw : Type 0
DropsLaw = (places : ℕ → ℕ) (lasts : Lasts) (unit_at : ℕ → List (List ℕ)) → ((names : List (List ℕ)) (c : Commitment) → lasts names ≡ Some c → unit_at c.position ≡ names)
    → Drops places lasts (dropped places lasts unit_at)

-- This holds of all words that tell the coffer's tree, as it stands or without an open commit.
pub record AllTold (Holds : ℕ → Type 0) (m : Memory) (coffer : CofferAt) (tree : List Member) (page_of : List (List ℕ) → ℕ) (lasts : Lasts) : Type 0 where
  pub intent : Holds (control_intent (page_at coffer.control))
  pub kinds : (names : List (List ℕ)) (node : Node) → MayStand m tree lasts names node → Holds (page_kind (page_at (page_of names)))
  pub maps : (names : List (List ℕ)) (bytes : List ℕ) → MayStand m tree lasts names (FileOf bytes) → Holds (file_map (page_at (page_of names)))
  pub heads : (names : List (List ℕ)) (bucket : ℕ) → MayStand m tree lasts names Directory → bucket < 256 → Holds (bucket_head (page_at (page_of names)) bucket)
  pub entries : (names : List (List ℕ)) (entry i : ℕ) → MayStand m tree lasts names Directory → IsReached (at m) (page_at (page_of names)) entry → i < 40 → Holds (word_of entry i)
  pub befores : (names : List (List ℕ)) (c : Commitment) (entry i : ℕ) → MayStand m tree lasts names Directory → lasts names ≡ Some c → IsOpen m c
      → IsReached (back m c) (page_at (page_of names)) entry → i < 40 → Holds (word_of entry i)

-- no word that tells the tree is at this address
abbrev pub IsAside : Memory → CofferAt → List Member → (List (List ℕ) → ℕ) → Lasts → ℕ → Type 0
IsAside m coffer tree page_of lasts addr = AllTold (λ a. a / 8 ≢ addr / 8) m coffer tree page_of lasts

-- a word of an entry that no chain reaches, as the words are or without the open commit
pub record IsFreeEntry (m : Memory) (coffer : CofferAt) (page_of : List (List ℕ) → ℕ) (use_of : ℕ → Use) (lasts : Lasts) (names : List (List ℕ)) (entry : ℕ) : Type 0 where
  pub place : IsPlace (IsEntryPage coffer use_of names) entry
  pub unreached : IsReached (at m) (page_at (page_of names)) entry → ⊥
  pub before : (c : Commitment) → lasts names ≡ Some c → IsOpen m c → IsReached (back m c) (page_at (page_of names)) entry → ⊥

-- an address that a call may store to beside its commit
pub data MayStore (m : Memory) (coffer : CofferAt) (tree : List Member) (page_of : List (List ℕ) → ℕ) (use_of : ℕ → Use) (lasts : Lasts) (addr : ℕ) : Type 0 where
  -- a page that isn't the coffer's, or one of no use
  Outside : (Contains coffer.pages (addr / 4096) → ⊥) → addr / 4096 ≢ coffer.control → MayStore m coffer tree page_of use_of lasts addr
  Useless : use_of (addr / 4096) ≡ Nothing → MayStore m coffer tree page_of use_of lasts addr
  -- the lease, note and counter of a directory, and its words for entry pages and free entries; also where an open commit has removed it
  Side : (names : List (List ℕ)) (i : ℕ) → MayStand m tree lasts names Directory → 1 ≤ i → i ≤ 5 → addr / 8 ≡ word_of (page_at (page_of names)) i / 8 → MayStore m coffer tree page_of use_of lasts addr
  -- a control page's leases and pools
  ControlWord : addr / 4096 ≡ coffer.control → addr / 8 ≢ control_intent (page_at coffer.control) / 8 → MayStore m coffer tree page_of use_of lasts addr
  -- a free entry
  FreeEntry : (names : List (List ℕ)) (entry i : ℕ) → IsFreeEntry m coffer page_of use_of lasts names entry → i < 40 → addr / 8 ≡ word_of entry i / 8 → MayStore m coffer tree page_of use_of lasts addr
  -- a word of an entry page in front of its entries
  Front : (names : List (List ℕ)) → use_of (addr / 4096) ≡ Entries names → addr / 8 < word_of (page_at (addr / 4096)) 32 / 8 → MayStore m coffer tree page_of use_of lasts addr

abbrev pub AsideLaw : Type 0
AsideLaw = (m : Memory) (coffer : CofferAt) (tree : List Member) (page_of : List (List ℕ) → ℕ) (use_of : ℕ → Use) (lasts : Lasts) (addr : ℕ)
    → IsSound m coffer tree page_of use_of lasts → MayStore m coffer tree page_of use_of lasts addr → IsAside m coffer tree page_of lasts addr

-- a store and an exchange at such an address
pub record StoreLaw : Type 0 where
  pub store : (m : Memory) (coffer : CofferAt) (tree : List Member) (page_of : List (List ℕ) → ℕ) (use_of : ℕ → Use) (lasts : Lasts) (addr value : ℕ)
      → IsSound m coffer tree page_of use_of lasts → IsAside m coffer tree page_of lasts addr → IsSound (stored_in addr value m) coffer tree page_of use_of lasts
  pub exchange : (m : Memory) (coffer : CofferAt) (tree : List Member) (page_of : List (List ℕ) → ℕ) (use_of : ℕ → Use) (lasts : Lasts) (addr old new : ℕ)
      → IsSound m coffer tree page_of use_of lasts → IsAside m coffer tree page_of lasts addr → IsSound (exchanged_in addr old new m) coffer tree page_of use_of lasts

-- any thread's flushes and fences
pub record FlushLaw : Type 0 where
  pub flush : (m : Memory) (coffer : CofferAt) (tree : List Member) (page_of : List (List ℕ) → ℕ) (use_of : ℕ → Use) (lasts : Lasts) (thread addr : ℕ)
      → IsSound m coffer tree page_of use_of lasts → IsSound (flushed_in thread addr m) coffer tree page_of use_of lasts
  pub fence : (m : Memory) (coffer : CofferAt) (tree : List Member) (page_of : List (List ℕ) → ℕ) (use_of : ℕ → Use) (lasts : Lasts) (thread : ℕ)
      → IsSound m coffer tree page_of use_of lasts → IsSound (fenced_in thread m) coffer tree page_of use_of lasts

-- all that is done meanwhile spares the words that tell the tree
abbrev pub SpareLaw : Type 0
SpareLaw = (m n : Memory) (coffer : CofferAt) (tree : List Member) (page_of : List (List ℕ) → ℕ) (use_of : ℕ → Use) (lasts : Lasts)
    → IsSound m coffer tree page_of use_of lasts → IsTidy n → Rises m n → AllTold (Spares m n) m coffer tree page_of lasts → IsSound n coffer tree page_of use_of lasts

-- A coffer comes to have further pages; the words of those that it had, and of its control page, are spared meanwhile.
pub record Grows (m n : Memory) (coffer grown : CofferAt) : Type 0 where
  pub kept : (page : ℕ) → Contains coffer.pages page → Contains grown.pages page
  pub control : grown.control ≡ coffer.control
  pub root : grown.root ≡ coffer.root
  pub path : grown.path ≡ coffer.path
  pub below : grown.below ≡ coffer.below
  pub tidy : IsTidy n
  pub rises : Rises m n
  pub spares : (a : ℕ) → Contains coffer.pages (a / 4096) ⊎ (a / 4096 ≡ coffer.control) → Spares m n a

abbrev pub GrowLaw : Type 0
GrowLaw = (m n : Memory) (coffer grown : CofferAt) (tree : List Member) (page_of : List (List ℕ) → ℕ) (use_of : ℕ → Use) (lasts : Lasts)
    → Grows m n coffer grown → IsSound m coffer tree page_of use_of lasts → IsSound n grown tree page_of use_of lasts

-- a page that serves for something else from now on
abbrev pub put_use : (ℕ → Use) → ℕ → Use → ℕ → Use
put_use use_of page new p = if p == page then new else use_of p

-- A page of no use, or one that isn't the coffer's, may be given any use: no chain leads there.
abbrev pub UseLaw : Type 0
UseLaw = (m : Memory) (coffer : CofferAt) (tree : List Member) (page_of : List (List ℕ) → ℕ) (use_of : ℕ → Use) (lasts : Lasts) (page : ℕ) (new : Use)
    → (use_of page ≡ Nothing) ⊎ ((Contains coffer.pages page → ⊥) × (page ≢ coffer.control))
    → IsSound m coffer tree page_of use_of lasts → IsSound m coffer tree page_of (put_use use_of page new) lasts

-- Where the words of a coffer's pages are durable, it is sound, and no unit has a commit.
abbrev pub StartLaw : Type 0
StartLaw = (m : Memory) (coffer : CofferAt) (tree : List Member) (page_of : List (List ℕ) → ℕ) (use_of : ℕ → Use)
    → IsTidy m → ((a : ℕ) → Contains coffer.pages (a / 4096) ⊎ (a / 4096 ≡ coffer.control) → IsClean m a) → DenotesBy (at m) coffer tree page_of use_of
    → IsSound m coffer tree page_of use_of (λ names. None)

-- After a crash the coffer is sound again, with the tree without the last commits that were lost.
abbrev pub RecoverLaw : Type 0
RecoverLaw = (choice : Choice) (words : List Word) (tops later : ℕ → ℕ) (coffer : CofferAt) (tree other : List Member) (page_of : List (List ℕ) → ℕ) (use_of : ℕ → Use) (lasts : Lasts) (drop : ℕ → Bool)
    → IsSound (memory_of words tops) coffer tree page_of use_of lasts → Drops (crash_places choice (memory_of words tops)) lasts drop → IsLeftTree drop lasts tree other
    → IsSound (memory_of (after_crash choice words) later) coffer other page_of use_of (λ names. None)

-- How many names a directory has without the dropped commits: as many as it has, where its last commit isn't dropped; and one
-- less where that is dropped and has made one.
pub record CountLaw : Type 0 where
  pub kept : (drop : ℕ → Bool) (lasts : Lasts) (tree other : List Member) (names : List (List ℕ)) → IsDistinct same_names (map (λ m. m.names) tree) → IsLeftTree drop lasts tree other
      → ((c : Commitment) → lasts names ≡ Some c → drop c.position ≡ false) → length (filter (is_child names) other) ≡ length (filter (is_child names) tree)
  pub made : (drop : ℕ → Bool) (lasts : Lasts) (tree other : List Member) (names : List (List ℕ)) (name : List ℕ) (node : Node) (c : Commitment) → IsDistinct same_names (map (λ m. m.names) tree)
      → IsLeftTree drop lasts tree other → lasts names ≡ Some c → drop c.position ≡ true → c.undo ≡ record { names = names ++ name ∷ []; node = None } ∷ [] → node_at tree (names ++ name ∷ []) ≡ Some node
      → length (filter (is_child names) tree) ≡ length (filter (is_child names) other) + 1
