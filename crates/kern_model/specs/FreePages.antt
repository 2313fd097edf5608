-- Which pages are free, by one number.
use Rattle.std.specs.Prelude.{◌≡◌, ◌≢◌, ℕ, ◌<◌, ◌≤◌, List, length}
use Rattle.pm_words.specs.Word.{Word}
use Rattle.pm_words.specs.Memory.{IsPages}
use Rattle.kern_model.specs.KernelView.{owner_of}

-- The memory has so many pages, and the pages from `first` on are nobody's, and no other.
pub record IsFreeFrom (words : List Word) (pages first : ℕ) : Type 0 where
  pub size : IsPages (length words) pages
  pub inside : first ≤ pages
  pub taken : (page : ℕ) → page < first → owner_of words page ≢ 0
  pub free : (page : ℕ) → first ≤ page → page < pages → owner_of words page ≡ 0
