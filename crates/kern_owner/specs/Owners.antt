-- What is stored when pages come to a coffer or go back.
use Rattle.std.specs.Prelude.{ℕ, List, map, filter, Bool, nat_eq}
use Rattle.std.specs.List.{range_with_len, list_any}
use Rattle.zo_layout.specs.Layout.{owner_word}

-- for each page of a list, the address of its owner word with a new owner
abbrev pub owner_pairs : ℕ → ℕ → List ℕ → List (ℕ × ℕ)
owner_pairs pages owner list = map (λ page. (owner_word pages page, owner)) list

abbrev pub is_among : List ℕ → ℕ → Bool
is_among list page = list_any (nat_eq page) list

-- the pages of a list, the least first, so that their owner words are in order of address
abbrev pub in_order : ℕ → List ℕ → List ℕ
in_order pages list = filter (is_among list) (range_with_len 0 pages)

-- pages for a coffer, and what is stored for it
pub record Granted : Type 0 where
  pub pages : List ℕ
  pub pairs : List (ℕ × ℕ)
