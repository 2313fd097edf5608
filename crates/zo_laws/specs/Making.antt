-- What a new file or directory leaves of its coffer.
use Rattle.std.specs.Prelude.{◌≡◌, ◌≢◌, ℕ, ◌<◌, List, [], ◌∷◌, ◌++◌, take, slice_index, Contains, false}
use Rattle.std.specs.List.{list_any}
use Rattle.zo_layout.specs.Layout.{page_at, word_of, page_kind}
use Rattle.zo_model.specs.Commands.{IsName}
use Rattle.zo_model.specs.Tree.{Member, Node, Directory, FileOf, node_at, same_names}
use Rattle.zo_model.specs.CofferWords.{CofferAt, IsInLimits, IsDir, Denotes, Rests}
use Rattle.zo_plan.specs.declared.place.Place.{Place}
use Rattle.zo_plan.specs.declared.plan.Operand.{Operand}
use Rattle.zo_plan.specs.Operands.{real}
use Rattle.zo_laws.specs.Stores.{after_stores}
use Rattle.zo_laws.specs.Linking.{IsPlaceFor, prepares_of, commit_of}
use Rattle.std.specs.Prelude.{None}

-- a new file is empty
abbrev pub IsEmpty : Node → Type 0
IsEmpty Directory = Unit {0}
IsEmpty (FileOf bytes) = bytes ≡ []

-- the store that makes a page of zeros the page of a new file; it is that of an empty directory as it stands
abbrev pub making : Node → ℕ → List (ℕ × ℕ)
making Directory page = []
making (FileOf bytes) page = (page_kind (page_at page), 1) ∷ []

-- the coffer with drawn pages
abbrev pub with_pages : CofferAt → List ℕ → CofferAt
with_pages coffer drawn = record { control = coffer.control; root = coffer.root; pages = coffer.pages ++ drawn; path = coffer.path; below = coffer.below }

-- a page that was none of the coffer's, all zeros
pub record IsDrawn (at : ℕ → ℕ) (coffer : CofferAt) (page : ℕ) : Type 0 where
  pub outside : Contains coffer.pages page → ⊥
  pub not_control : page ≢ coffer.control
  pub blank : (i : ℕ) → i < 512 → at (word_of (page_at page) i) ≡ 0

-- an entry page for the link is the first page drawn
pub record IsEntryDrawn (drawn : List ℕ) (made fresh : ℕ) : Type 0 where
  pub first : slice_index drawn 0 ≡ fresh
  pub among : Contains drawn fresh
  pub other : fresh ≢ made

-- A new member can be made of the drawn page `made`, with this name in the directory of these names. Where that has no
-- free entry, the drawn page `fresh` becomes an entry page.
pub record CanMake (at : ℕ → ℕ) (coffer : CofferAt) (tree : List Member) (r : Rests at coffer tree) (names : List (List ℕ)) (name : List ℕ) (node : Node) (place : Place) (target : Operand) (drawn : List ℕ) (made fresh : ℕ) : Type 0 where
  pub dir : IsDir tree names
  pub missing : node_at tree (names ++ name ∷ []) ≡ None
  pub no_coffer : list_any (same_names (names ++ name ∷ [])) coffer.below ≡ false
  pub is_name : IsName name
  pub limits : IsInLimits (coffer.path ++ (names ++ name ∷ []))
  pub empty : IsEmpty node
  pub found : IsPlaceFor at (page_at (r.denotes.page_of names)) name place
  pub each : (page : ℕ) → Contains drawn page → IsDrawn at coffer page
  pub made_drawn : Contains drawn made
  pub target_is : real drawn target ≡ page_at made
  pub fresh_drawn : place.free ≡ 0 → IsEntryDrawn drawn made fresh

-- the stores before the commit
abbrev pub all_prepares : ℕ → Place → List ℕ → Node → ℕ → Operand → List ℕ → List (ℕ × ℕ)
all_prepares dir place name node made target drawn = making node made ++ prepares_of dir place name target drawn

-- the tree with the member
abbrev pub with_member : List Member → List (List ℕ) → List ℕ → Node → List Member
with_member tree names name node = tree ++ record { names = names ++ name ∷ []; node = node } ∷ []

-- Before the commit the words denote the tree as it was, however many stores are made; after it the member stands.
pub record IsMade (at : ℕ → ℕ) (coffer : CofferAt) (tree : List Member) (names : List (List ℕ)) (name : List ℕ) (node : Node) (place : Place) (target : Operand) (drawn : List ℕ) (made dir : ℕ) : Type 0 where
  pub before : (count : ℕ) → Denotes (after_stores at (take count (all_prepares (page_at dir) place name node made target drawn))) (with_pages coffer drawn) tree
  pub after : Rests (after_stores at (all_prepares (page_at dir) place name node made target drawn ++ commit_of place drawn ∷ [])) (with_pages coffer drawn) (with_member tree names name node)

abbrev pub MakeLaw : Type 0
MakeLaw =
    (at : ℕ → ℕ) (coffer : CofferAt) (tree : List Member) (r : Rests at coffer tree) (names : List (List ℕ)) (name : List ℕ) (node : Node) (place : Place) (target : Operand) (drawn : List ℕ) (made fresh : ℕ)
    → CanMake at coffer tree r names name node place target drawn made fresh → IsMade at coffer tree names name node place target drawn made (r.denotes.page_of names)
