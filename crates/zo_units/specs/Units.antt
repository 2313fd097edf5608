-- The units of a coffer are its directories. The last commit of each may still be lost in a crash, alone: what the words
-- denote then is the tree with what stood before at the paths that this commit changed.
use Rattle.std.specs.Prelude.{◌≡◌, ◌⊎◌, ℕ, ◌+◌, ◌/◌, ◌<◌, ◌==◌, nat_lt, List, [], ◌∷◌, ◌++◌, map, Bool, false, Contains, Option, Some, None, if◌then◌else◌}
use Rattle.std.specs.List.{IsDistinct, list_any}
use Rattle.zo_layout.specs.Layout.{page_at, word_of, bucket_head, next_entry, control_intent, file_map, page_kind}
use Rattle.zo_model.specs.Tree.{Member, Node, Directory, FileOf, node_at, same_names}
use Rattle.zo_model.specs.Directory.{IsReached, Shows}
use Rattle.zo_model.specs.CofferWords.{CofferAt, Use, IsEntryPage, IsMember, IsInLimits, IsDir, Denotes, target_of}
use Rattle.zo_units.specs.Memory.{Memory, at, floor, value_at, IsClean, IsTidy}

-- what stood at a path that a commit changed, by its names
pub record Undo : Type 0 where
  pub names : List (List ℕ)
  pub node : Option Node

-- A commit: the thread that gave it, its position in the trace, the address of its word, and the place of its value there.
pub record Commitment : Type 0 where
  pub thread : ℕ
  pub position : ℕ
  pub addr : ℕ
  pub place : ℕ
  pub undo : List Undo

-- the last commit of each unit, by the names of its directory from the coffer's root on
abbrev pub Lasts : Type 0
Lasts = List (List ℕ) → Option Commitment

-- a crash may still lose it
abbrev pub IsOpen : Memory → Commitment → Type 0
IsOpen m c = floor m c.addr < c.place

-- the last commit, if any, is durable
abbrev pub IsStill : Memory → Option Commitment → Type 0
IsStill m last = (c : Commitment) → last ≡ Some c → IsOpen m c → ⊥

-- the directory in which a path stands
abbrev pub above : List (List ℕ) → List (List ℕ)
above [] = []
above (name ∷ []) = []
above (name ∷ (next ∷ names)) = name ∷ above (next ∷ names)

-- what stands at a path without a commit, of what stands there with it
abbrev pub undone : List Undo → List (List ℕ) → Option Node → Option Node
undone [] names node = node
undone (u ∷ undo) names node = if same_names u.names names then u.node else undone undo names node

abbrev pub node_before : Commitment → List Member → List (List ℕ) → Option Node
node_before c tree names = undone c.undo names (node_at tree names)

-- the same where the commit is dropped
abbrev pub picked : (ℕ → Bool) → Option Commitment → List (List ℕ) → Option Node → Option Node
picked drop None names node = node
picked drop (Some c) names node = if drop c.position then undone c.undo names node else node

-- what stands at a path without the commits at the positions where `drop` holds
abbrev pub node_left : (ℕ → Bool) → Lasts → List Member → List (List ℕ) → Option Node
node_left drop lasts tree names = picked drop (lasts (above names)) names (node_at tree names)

-- the other tree is this one without the dropped commits
pub record IsLeftTree (drop : ℕ → Bool) (lasts : Lasts) (tree other : List Member) : Type 0 where
  pub once : IsDistinct same_names (map (λ m. m.names) other)
  pub nodes : (names : List (List ℕ)) → node_at other names ≡ node_left drop lasts tree names

-- the crash that leaves these places loses the commit
abbrev pub is_dropped : (ℕ → ℕ) → Commitment → Bool
is_dropped places c = nat_lt (places c.addr) c.place

-- exactly those last commits are dropped that the crash loses
abbrev pub Drops : (ℕ → ℕ) → Lasts → (ℕ → Bool) → Type 0
Drops places lasts drop = (names : List (List ℕ)) (c : Commitment) → lasts names ≡ Some c → drop c.position ≡ is_dropped places c

-- this is so of the test that looks a position's unit up, where each last commit's position leads to its unit
abbrev pub dropped_last : (ℕ → ℕ) → ℕ → Option Commitment → Bool
dropped_last places position None = false
dropped_last places position (Some c) = if c.position == position then is_dropped places c else false

abbrev pub dropped : (ℕ → ℕ) → Lasts → (ℕ → List (List ℕ)) → ℕ → Bool
dropped places lasts unit_at position = dropped_last places position (lasts (unit_at position))

-- the words without an open commit
abbrev pub back : Memory → Commitment → ℕ → ℕ
back m c a = if a / 8 == c.addr / 8 then value_at m c.addr (floor m c.addr) else at m a

-- all but the word of one address may be asked to be clean
abbrev pub IsBut : Option ℕ → ℕ → Type 0
IsBut None a = ⊥
IsBut (Some addr) a = a / 8 ≡ addr / 8

abbrev pub CleanBut : Memory → Option ℕ → ℕ → Type 0
CleanBut m but a = IsClean m a ⊎ IsBut but a

-- the words are clean by which the directory at the address `dir` shows its names, as they are read by `words`
pub record IsFirm (m : Memory) (but : Option ℕ) (words : ℕ → ℕ) (dir : ℕ) : Type 0 where
  pub heads : (bucket : ℕ) → bucket < 256 → CleanBut m but (bucket_head dir bucket)
  pub entries : (entry i : ℕ) → IsReached words dir entry → i < 40 → CleanBut m but (word_of entry i)

-- the words are clean that tell what a member is
abbrev pub IsFirmNode : Memory → ℕ → Node → Type 0
IsFirmNode m page Directory = IsClean m (page_kind page)
IsFirmNode m page (FileOf bytes) = IsClean m (page_kind page) × IsClean m (file_map page)

-- the targets that the directory of these names showed without the commit
abbrev pub wanted_before : Commitment → (List (List ℕ) → ℕ) → CofferAt → List Member → List (List ℕ) → List ℕ → Option ℕ
wanted_before c page_of coffer tree names name = target_of page_of coffer (names ++ name ∷ []) (node_before c tree (names ++ name ∷ []))

-- one of the words that chain a directory's entries: a bucket head, or the next one of an entry that is reached
pub data IsLink (words : ℕ → ℕ) (dir : ℕ) (addr : ℕ) : Type 0 where
  Head : (bucket : ℕ) → bucket < 256 → addr ≡ bucket_head dir bucket → IsLink words dir addr
  Next : (entry : ℕ) → IsReached words dir entry → addr ≡ next_entry entry → IsLink words dir addr

-- A commit that a crash may still lose is one store, into a word of the unit: all else is clean, and the words without it
-- show what stood before.
pub record IsPending (m : Memory) (coffer : CofferAt) (tree : List Member) (page_of : List (List ℕ) → ℕ) (use_of : ℕ → Use) (names : List (List ℕ)) (c : Commitment) : Type 0 where
  pub top : m.top c.addr ≡ c.place
  pub is : c.place ≡ floor m c.addr + 1
  pub link : IsLink (at m) (page_at (page_of names)) c.addr
  pub here : (u : Undo) → Contains c.undo u → (name : List ℕ) × (u.names ≡ names ++ name ∷ [])
  pub now : IsFirm m (Some c.addr) (at m) (page_at (page_of names))
  pub shows : Shows (back m c) (IsEntryPage coffer use_of names) (page_at (page_of names)) (wanted_before c page_of coffer tree names)
  pub was : IsFirm m (Some c.addr) (back m c) (page_at (page_of names))

-- a unit: settled, or with its last commit open
pub record IsUnit (m : Memory) (coffer : CofferAt) (tree : List Member) (page_of : List (List ℕ) → ℕ) (use_of : ℕ → Use) (names : List (List ℕ)) (last : Option Commitment) : Type 0 where
  pub settled : IsStill m last → IsFirm m None (at m) (page_at (page_of names))
  pub pending : (c : Commitment) → last ≡ Some c → IsOpen m c → IsPending m coffer tree page_of use_of names c

-- it stood at these names before the open last commit of the directory above them
pub record Stood (m : Memory) (tree : List Member) (lasts : Lasts) (names : List (List ℕ)) (node : Node) : Type 0 where
  pub commit : Commitment
  pub last : lasts (above names) ≡ Some commit
  pub opened : IsOpen m commit
  pub was : node_before commit tree names ≡ Some node

-- what a crash may leave at these names
abbrev pub MayStand : Memory → List Member → Lasts → List (List ℕ) → Node → Type 0
MayStand m tree lasts names node = (node_at tree names ≡ Some node) ⊎ Stood m tree lasts names node

-- nothing is below these names, and no change of it may be lost
pub record IsBare (m : Memory) (coffer : CofferAt) (tree : List Member) (lasts : Lasts) (names : List (List ℕ)) : Type 0 where
  pub members : (name : List ℕ) → node_at tree (names ++ name ∷ []) ≡ None
  pub coffers : (name : List ℕ) → list_any (same_names (names ++ name ∷ [])) coffer.below ≡ false
  pub still : IsStill m (lasts names)

-- what an open commit has removed may come again
pub record MayReturn (coffer : CofferAt) (tree : List Member) (names : List (List ℕ)) : Type 0 where
  pub away : node_at tree names ≡ None
  pub no_coffer : list_any (same_names names) coffer.below ≡ false
  pub limits : IsInLimits (coffer.path ++ names)

-- the page of a member stands for it, in clean words
pub record Stands (m : Memory) (coffer : CofferAt) (tree : List Member) (page_of : List (List ℕ) → ℕ) (use_of : ℕ → Use) (names : List (List ℕ)) (node : Node) : Type 0 where
  pub member : IsMember (at m) coffer tree use_of page_of names node
  pub firm : IsFirmNode m (page_at (page_of names)) node

-- the words denote the tree, with these pages for its members, and these uses of pages
pub record DenotesBy (words : ℕ → ℕ) (coffer : CofferAt) (tree : List Member) (page_of : List (List ℕ) → ℕ) (use_of : ℕ → Use) : Type 0 where
  pub denotes : Denotes words coffer tree
  pub pages : denotes.page_of ≡ page_of
  pub uses : denotes.use_of ≡ use_of

-- The words denote the tree, and whatever a crash leaves denotes it without the last commits that are lost. A page of no use
-- is of use Nothing: none of its words tells anything.
pub record IsSound (m : Memory) (coffer : CofferAt) (tree : List Member) (page_of : List (List ℕ) → ℕ) (use_of : ℕ → Use) (lasts : Lasts) : Type 0 where
  pub tidy : IsTidy m
  pub denotes : DenotesBy (at m) coffer tree page_of use_of
  pub intent : IsClean m (control_intent (page_at coffer.control))
  -- what stands now or stood before an open commit; the root is among it
  pub members : (names : List (List ℕ)) (node : Node) → MayStand m tree lasts names node → Stands m coffer tree page_of use_of names node
  pub units : (names : List (List ℕ)) → MayStand m tree lasts names Directory → IsUnit m coffer tree page_of use_of names (lasts names)
  -- what is no directory has no open commit
  pub closed : (names : List (List ℕ)) → (IsDir tree names → ⊥) → IsStill m (lasts names)
  -- what an open commit has made holds nothing as yet
  pub fresh : (names : List (List ℕ)) (c : Commitment) → lasts (above names) ≡ Some c → IsOpen m c → IsDir tree names → (node_before c tree names ≡ Some Directory) ⊎ IsBare m coffer tree lasts names
  -- what it has removed may come again
  pub gone : (names : List (List ℕ)) (node : Node) → Stood m tree lasts names node → (node_at tree names ≡ Some node) ⊎ MayReturn coffer tree names
