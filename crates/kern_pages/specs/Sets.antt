-- The pages of nobody and of each coffer as lists by owner, the least page first in each.
use Rattle.std.specs.Prelude.{◌≡◌, ℕ, ◌≤◌, List, [], length, slice_index_or}
use Rattle.kern_pages.specs.Owners.{pages_with}

-- the pages of one owner
abbrev pub set_of : List (List ℕ) → ℕ → List ℕ
set_of sets owner = slice_index_or sets owner []

-- nobody and no coffer has a page
pub record AreEmpty (sets : List (List ℕ)) : Type 0 where
  pub count : length sets ≡ 257
  pub empty : (owner : ℕ) → set_of sets owner ≡ []

-- they say what the list of owners by page says
pub record AreSetsOf (owners : List ℕ) (sets : List (List ℕ)) : Type 0 where
  pub count : length sets ≡ 257
  pub each : (owner : ℕ) → owner ≤ 256 → set_of sets owner ≡ pages_with owner owners
