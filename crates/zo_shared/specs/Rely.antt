-- What a thread may rely on while others act. All that it knows of a directory stands behind its own word in the directory's lease,
-- unexpired; or, for who only reads, behind the directory's counter.
use Rattle.std.specs.Prelude.{◌≡◌, ◌≢◌, ◌⊎◌, ℕ, ◌+◌, ◌^◌, ◌/◌, ◌<◌, ◌≤◌, List, [], ◌∷◌, ◌++◌, Contains, true, Some}
use Rattle.zo_layout.specs.Layout.{word_of, bucket_head, first_entry_page, first_free_entry}
use Rattle.zo_lease.specs.Words.{holder_of, expiry_of}
use Rattle.zo_model.specs.Tree.{Node, node_at}
use Rattle.zo_model.specs.Directory.{IsPlace, IsReached}
use Rattle.zo_model.specs.CofferWords.{IsDir, IsEntryPage}
use Rattle.zo_units.specs.Memory.{at}
use Rattle.zo_units.specs.MemoryLaws.{Rises, Spares}
use Rattle.zo_units.specs.Units.{Commitment, IsOpen}
use Rattle.zo_shared.specs.Shared.{Shared, dir_of, lease_of, noted_of, counter_of, IsLive, IsSound}
use Rattle.zo_shared.specs.Deeds.{Deed, MayDo, does}

-- What a directory shows is the same: its names with their targets, in the same words; and what it had last stays so, or is settled.
pub record Same (g new : Shared) (names : List (List ℕ)) : Type 0 where
  pub heads : (bucket : ℕ) → bucket < 256 → Spares g.memory new.memory (bucket_head (dir_of g names) bucket)
  pub entries : (entry i : ℕ) → IsReached (at g.memory) (dir_of g names) entry → i < 40 → Spares g.memory new.memory (word_of entry i)
  pub noted : noted_of new names ≡ noted_of g names
  pub members : (name : List ℕ) → node_at new.tree (names ++ name ∷ []) ≡ node_at g.tree (names ++ name ∷ [])
  pub pages : (name : List ℕ) (node : Node) → node_at g.tree (names ++ name ∷ []) ≡ Some node → new.page_of (names ++ name ∷ []) ≡ g.page_of (names ++ name ∷ [])
  pub last : (c : Commitment) → new.lasts names ≡ Some c → g.lasts names ≡ Some c

-- For a lease's holder, all that only a holder changes is the same too.
pub record Keeps (g new : Shared) (names : List (List ℕ)) : Type 0 where
  pub same : Same g new names
  pub lease : lease_of new names ≡ lease_of g names
  pub counter : counter_of new names ≡ counter_of g names
  pub raised : new.raised names ≡ g.raised names
  pub frees : new.frees names ≡ g.frees names
  pub sides : Spares g.memory new.memory (first_entry_page (dir_of g names)) × Spares g.memory new.memory (first_free_entry (dir_of g names))
  pub entry_pages : (page : ℕ) → IsEntryPage g.coffer g.use_of names page → IsEntryPage new.coffer new.use_of names page
  pub places : (entry i : ℕ) → IsPlace (IsEntryPage g.coffer g.use_of names) entry → i < 40 → Spares g.memory new.memory (word_of entry i)

-- someone who has raised the counter since may be about to commit in the directory
pub record Danger (g : Shared) (names : List (List ℕ)) : Type 0 where
  pub live : IsLive g (lease_of g names)
  pub raised : g.raised names ≡ true

abbrev pub Calm : Shared → List (List ℕ) → Type 0
Calm g names = Danger g names → ⊥

-- what anyone may rely on
pub record Beside (g new : Shared) : Type 0 where
  pub now : g.now ≤ new.now
  pub count : g.count ≤ new.count
  pub rises : Rises g.memory new.memory
  pub dirs : (names : List (List ℕ)) → IsDir g.tree names → IsDir new.tree names
  pub pages : (names : List (List ℕ)) → IsDir g.tree names → new.page_of names ≡ g.page_of names
  pub coffer : (page : ℕ) → Contains g.coffer.pages page → Contains new.coffer.pages page
  pub bases : (names : List (List ℕ)) → IsDir g.tree names → new.bases names ≡ g.bases names
  pub raises : (names : List (List ℕ)) → IsDir g.tree names → g.raises names ≤ new.raises names
  pub lasts : (names : List (List ℕ)) (c : Commitment) → new.lasts names ≡ Some c → IsOpen new.memory c → (g.lasts names ≡ Some c) ⊎ (g.count ≤ c.position)
  -- as long as the counter stands, who wasn't a danger is none, and nothing that the directory shows changes
  pub danger : (names : List (List ℕ)) → IsDir g.tree names → new.raises names ≡ g.raises names → Danger new names → Danger g names × (lease_of new names ≡ lease_of g names)
  pub same : (names : List (List ℕ)) → IsDir g.tree names → new.raises names ≡ g.raises names → Calm g names → Same g new names

-- what a thread may rely on while others act
pub record Rely (thread : ℕ) (g new : Shared) : Type 0 where
  pub beside : Beside g new
  -- under its own lease, as long as that has not expired
  pub back : (names : List (List ℕ)) → IsDir g.tree names → holder_of (lease_of g names) ≡ Some thread → new.now ≤ expiry_of (lease_of g names) → Keeps g new names
  -- in its drawn pages
  pub drawn : (page : ℕ) → g.drawn page ≡ Some thread → new.drawn page ≡ Some thread
  pub words : (a : ℕ) → g.drawn (a / 4096) ≡ Some thread → Spares g.memory new.memory a
  -- its own commits stay the last ones, or are settled
  pub own : (names : List (List ℕ)) (c : Commitment) → g.lasts names ≡ Some c → c.thread ≡ thread → IsOpen new.memory c → new.lasts names ≡ Some c

-- whoever may do a deed leaves all sound
abbrev pub SoundLaw : Type 0
SoundLaw = (g : Shared) (thread now : ℕ) (deed : Deed) → IsSound g → MayDo thread now deed g → IsSound (does thread now deed g)

-- and all others what they rely on; itself, what anyone may rely on
pub record RelyLaw : Type 0 where
  pub others : (g : Shared) (thread now other : ℕ) (deed : Deed) → other ≢ thread → IsSound g → g.count + 1 < 2 ^ 40 → MayDo thread now deed g → Rely other g (does thread now deed g)
  pub itself : (g : Shared) (thread now : ℕ) (deed : Deed) → IsSound g → g.count + 1 < 2 ^ 40 → MayDo thread now deed g → Beside g (does thread now deed g)
