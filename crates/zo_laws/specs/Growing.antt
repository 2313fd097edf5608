-- A coffer that comes to have further pages.
use Rattle.std.specs.Prelude.{◌≡◌, ◌⊎◌, ℕ, ◌/◌, List, Contains}
use Rattle.zo_model.specs.Tree.{Member}
use Rattle.zo_model.specs.CofferWords.{CofferAt, Denotes, Rests}

-- It keeps its pages with their words, and all else that it is.
pub record Grows (before after : ℕ → ℕ) (coffer grown : CofferAt) : Type 0 where
  pub kept : (page : ℕ) → Contains coffer.pages page → Contains grown.pages page
  pub control : grown.control ≡ coffer.control
  pub root : grown.root ≡ coffer.root
  pub path : grown.path ≡ coffer.path
  pub below : grown.below ≡ coffer.below
  pub same : (addr page : ℕ) → addr / 4096 ≡ page → Contains coffer.pages page ⊎ (page ≡ coffer.control) → after addr ≡ before addr

abbrev pub GrowLaw : Type 0
GrowLaw = (before after : ℕ → ℕ) (coffer grown : CofferAt) (tree : List Member) → Grows before after coffer grown → Rests before coffer tree → Rests after grown tree

abbrev pub GrowDenotes : Type 0
GrowDenotes = (before after : ℕ → ℕ) (coffer grown : CofferAt) (tree : List Member) → Grows before after coffer grown → Denotes before coffer tree → Denotes after grown tree
