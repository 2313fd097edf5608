-- The directories of a coffer as a look-up finds them.
use Rattle.std.specs.Prelude.{ℕ, ◌<◌, List, length, Contains}
use Rattle.zo_layout.specs.Layout.{page_at}
use Rattle.zo_model.specs.Tree.{Member}
use Rattle.zo_model.specs.CofferWords.{CofferAt, IsDir, Denotes, Rests, wanted}
use Rattle.zo_hash_dir.specs.Addresses.{IsNear}
use Rattle.zo_hash_dir.specs.Scene.{Scene, IsShown, CanMake}

-- no page of the coffer is page 0, or past all images
abbrev pub HasNearPages : CofferAt → Type 0
HasNearPages coffer = (page : ℕ) → Contains coffer.pages page → (0 < page) × IsNear page

-- the directory of these names, by the coffer's pages and the targets that the tree wants
abbrev pub scene_of : (ℕ → ℕ) → CofferAt → List Member → (List (List ℕ) → ℕ) → List (List ℕ) → Scene
scene_of at coffer tree page_of names = record { at = at; pages = coffer.pages; want = wanted page_of coffer tree names }

-- a directory shows what the tree wants, in pages of the coffer
abbrev pub DirectoriesShow : Type 0
DirectoriesShow = (at : ℕ → ℕ) (coffer : CofferAt) (tree : List Member) (d : Denotes at coffer tree) (names : List (List ℕ)) → HasNearPages coffer → IsDir tree names
    → IsShown (scene_of at coffer tree d.page_of names) (page_at (d.page_of names)) (length coffer.pages)

-- at rest an entry can be made in each directory
abbrev pub DirectoriesGrow : Type 0
DirectoriesGrow = (at : ℕ → ℕ) (coffer : CofferAt) (tree : List Member) (r : Rests at coffer tree) (names : List (List ℕ)) → HasNearPages coffer → IsDir tree names
    → CanMake (scene_of at coffer tree r.denotes.page_of names) (page_at (r.denotes.page_of names))
