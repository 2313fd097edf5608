-- What the words of a coffer denote: the tree of its members. The words determine it: two trees that the same words
-- denote have the same node at each path. Words in which an entry, a name, a file or a page breaks a rule denote none.
use Rattle.std.specs.Prelude.{◌≡◌, ℕ, ◌+◌, ◌≤◌, List, [], ◌∷◌, ◌++◌, length, map, fold, true, Contains, Option, Some, None, if◌then◌else◌}
use Rattle.std.specs.List.{IsDistinct, list_any}
use Rattle.zo_layout.specs.Layout.{page_at, control_intent, file_map, page_kind, pool_head}
use Rattle.zo_model.specs.Tree.{Member, Node, Directory, FileOf, node_at, same_names}
use Rattle.zo_model.specs.Directory.{Shows, HasFree, HasFirst}

-- A coffer as the kernel has it: the numbers of its control page, of its root page and of all its pages; the names of
-- its path; and of each coffer directly below it the names from this coffer's root on.
pub record CofferAt : Type 0 where
  pub control : ℕ
  pub root : ℕ
  pub pages : List ℕ
  pub path : List (List ℕ)
  pub below : List (List (List ℕ))

-- What a page of a coffer serves for. It serves for one thing: the page of a file or directory, or a page of entries of
-- one directory, each told by the names from the coffer's root on.
pub data Use : Type 0 where
  Nothing : Use
  Control : Use
  Object : (names : List (List ℕ)) → Use
  Entries : (names : List (List ℕ)) → Use

-- bytes of the path of these names: each has a `/` before it
abbrev pub path_len : List (List ℕ) → ℕ
path_len names = fold (λ bytes name. bytes + 1 + length name) 0 names

-- a path of at most 32 names and 1,024 bytes
pub record IsInLimits (names : List (List ℕ)) : Type 0 where
  pub few : length names ≤ 32
  pub short : path_len names ≤ 1024

-- the file at the address `file` has these bytes; it has no map as long as none can be written
abbrev pub HasBytes : (ℕ → ℕ) → ℕ → List ℕ → Type 0
HasBytes at file bytes = (at (file_map file) ≡ 0) × (bytes ≡ [])

-- the target of what stands at these names: a page of the coffer, 1 for a coffer below it
abbrev pub target_of : (List (List ℕ) → ℕ) → CofferAt → List (List ℕ) → Option Node → Option ℕ
target_of page_of coffer names (Some node) = Some (page_at (page_of names))
target_of page_of coffer names None = if list_any (same_names names) coffer.below then Some 1 else None

-- the targets that the directory of these names is to show, by their last names
abbrev pub wanted : (List (List ℕ) → ℕ) → CofferAt → List Member → List (List ℕ) → List ℕ → Option ℕ
wanted page_of coffer tree names name = target_of page_of coffer (names ++ name ∷ []) (node_at tree (names ++ name ∷ []))

-- an entry page of the directory of these names, by its number
pub record IsEntryPage (coffer : CofferAt) (use_of : ℕ → Use) (names : List (List ℕ)) (page : ℕ) : Type 0 where
  pub coffers : Contains coffer.pages page
  pub entries : use_of page ≡ Entries names

-- the page at this address is this directory's or this file's
abbrev pub IsNode : (ℕ → ℕ) → (ℕ → Type 0) → (List ℕ → Option ℕ) → ℕ → Node → Type 0
IsNode at EntryPage want page Directory = (at (page_kind page) ≡ 0) × Shows at EntryPage page want
IsNode at EntryPage want page (FileOf bytes) = (at (page_kind page) ≡ 1) × HasBytes at page bytes

-- a member of the tree stands in the coffer's words
pub record IsMember (at : ℕ → ℕ) (coffer : CofferAt) (tree : List Member) (use_of : ℕ → Use) (page_of : List (List ℕ) → ℕ) (names : List (List ℕ)) (node : Node) : Type 0 where
  pub coffers : Contains coffer.pages (page_of names)
  pub object : use_of (page_of names) ≡ Object names
  pub shown : IsNode at (IsEntryPage coffer use_of names) (wanted page_of coffer tree names) (page_at (page_of names)) node

-- a directory of the tree has these names
abbrev pub IsDir : List Member → List (List ℕ) → Type 0
IsDir tree names = node_at tree names ≡ Some Directory

-- The words denote the tree. `page_of` has the page of each member, by its names.
pub record Denotes (at : ℕ → ℕ) (coffer : CofferAt) (tree : List Member) : Type 0 where
  pub use_of : ℕ → Use
  pub page_of : List (List ℕ) → ℕ
  pub control : use_of coffer.control ≡ Control
  -- no change over several words is under way
  pub no_intent : at (control_intent (page_at coffer.control)) ≡ 0
  pub root : Node
  pub root_stands : node_at tree [] ≡ Some root
  pub root_page : page_of [] ≡ coffer.root
  pub once : IsDistinct same_names (map (λ m. m.names) tree)
  pub members : (names : List (List ℕ)) (node : Node) → node_at tree names ≡ Some node → IsMember at coffer tree use_of page_of names node
  pub inside : (names : List (List ℕ)) (name : List ℕ) (node : Node) → node_at tree (names ++ name ∷ []) ≡ Some node → IsDir tree names
  -- the path of each entry, of a member or of a coffer below
  pub limits : (names : List (List ℕ)) (name : List ℕ) (target : ℕ) → IsDir tree names → wanted page_of coffer tree names name ≡ Some target → IsInLimits (coffer.path ++ (names ++ name ∷ []))
  -- each coffer below has its name in a directory, and no member stands there
  pub below : (names : List (List ℕ)) (name : List ℕ) → list_any (same_names (names ++ name ∷ [])) coffer.below ≡ true → IsDir tree names × (node_at tree (names ++ name ∷ []) ≡ None)

-- What else holds between calls where no store went astray: each directory has its free entries and leads to its entry
-- pages, and no pool has a page.
pub record Rests (at : ℕ → ℕ) (coffer : CofferAt) (tree : List Member) : Type 0 where
  pub denotes : Denotes at coffer tree
  pub frees : List (List ℕ) → List ℕ
  pub free : (names : List (List ℕ)) → IsDir tree names → HasFree at (IsEntryPage coffer denotes.use_of names) (page_at (denotes.page_of names)) (frees names)
  pub first : (names : List (List ℕ)) → IsDir tree names → HasFirst at (IsEntryPage coffer denotes.use_of names) (page_at (denotes.page_of names))
  pub pool : (pool : ℕ) → pool ≤ 7 → at (pool_head (page_at coffer.control) pool) ≡ 0
