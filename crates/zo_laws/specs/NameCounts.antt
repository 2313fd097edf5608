-- How many names a directory shows.
use Rattle.std.specs.Prelude.{◌≡◌, ℕ, ◌+◌, List, length, filter, Bool, ◌==◌, ◌&&◌, nat_eq}
use Rattle.std.specs.List.{IsDistinct, starts_with}
use Rattle.std.specs.Cmp.Lexicographic.{pointwise}
use Rattle.zo_layout.specs.Layout.{page_at}
use Rattle.zo_model.specs.Tree.{Member, same_names, is_child}
use Rattle.zo_model.specs.CofferWords.{CofferAt, IsDir, Denotes}
use Rattle.zo_hash_dir.specs.Counting.{HasNames}

-- the path has one name more than these
abbrev pub is_under : List (List ℕ) → List (List ℕ) → Bool
is_under names path = (length path == length names + 1) && starts_with (pointwise nat_eq) path names

-- the names counted in a directory's words are those of its members and of the coffers directly under it
abbrev pub NamesCounted : Type 0
NamesCounted = (at : ℕ → ℕ) (coffer : CofferAt) (tree : List Member) (d : Denotes at coffer tree) (names : List (List ℕ)) (count : ℕ)
    → IsDir tree names → IsDistinct same_names coffer.below → HasNames at (page_at (d.page_of names)) count
    → count ≡ length (filter (is_child names) tree) + length (filter (is_under names) coffer.below)
