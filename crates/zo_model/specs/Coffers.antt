-- The coffers that stand. Each has a path, a permission, and what it holds: a tree that users see, or nothing that is
-- promised, since a store that nobody answers for has come to it, or nothing at all, since a recovery has shut it off.
use Rattle.std.specs.Prelude.{ℕ, ◌+◌, ◌-◌, List, [], ◌∷◌, ◌++◌, length, take, drop, map, fold, filter, Bool, not, Option, Some, None, if◌then◌else◌, ◌==◌, ◌&&◌, nat_le, codes}
use Rattle.std.specs.List.{list_any, starts_with}
use Rattle.tr_types.specs.Paths.{same_text}
use Rattle.tr_types.specs.declared.permission.Perm.{Perm}
use Rattle.zo_model.specs.Tree.{Member, same_names}

pub data Content : Type 0 where
  Ready : (tree : List Member) → Content
  Lost : Content
  Quarantined : Content

-- `path` has the names of the coffer's path; its tree's paths go on from there
pub record Coffer : Type 0 where
  pub path : List (List ℕ)
  pub perm : Perm
  pub content : Content

-- the path of these names as a text
abbrev pub path_text : List (List ℕ) → List ℕ
path_text [] = codes "/"
path_text (name ∷ names) = 47 ∷ name ++ fold (λ text more. text ++ 47 ∷ more) [] names

-- the names of the directory in which the last of the names stands
abbrev pub parent : List (List ℕ) → List (List ℕ)
parent names = take (length names - 1) names

-- a path begins with another by whole names
abbrev pub lies_in : List (List ℕ) → List (List ℕ) → Bool
lies_in names front = starts_with same_text names front

-- the coffer with the longer path
abbrev pub deeper : Coffer → Option Coffer → Option Coffer
deeper coffer None = Some coffer
deeper coffer (Some other) = if nat_le (length other.path) (length coffer.path) then Some coffer else Some other

-- the coffer of a path: that with the longest path with which it begins
abbrev pub coffer_of : List Coffer → List (List ℕ) → Option Coffer
coffer_of [] names = None
coffer_of (coffer ∷ coffers) names = if lies_in names coffer.path then deeper coffer (coffer_of coffers names) else coffer_of coffers names

-- the names from the coffer's root on
abbrev pub within : Coffer → List (List ℕ) → List (List ℕ)
within coffer names = drop (length coffer.path) names

-- a coffer has just this path
abbrev pub is_coffer : List Coffer → List (List ℕ) → Bool
is_coffer coffers names = list_any (λ coffer. same_names coffer.path names) coffers

-- how many coffers stand directly under the directory of these names
abbrev pub coffers_under : List Coffer → List (List ℕ) → ℕ
coffers_under coffers names = length (filter (λ coffer. (length coffer.path == length names + 1) && lies_in coffer.path names) coffers)

-- Of the coffers with the paths `paths`, those directly below the coffer of the path `path`: their names from there on.

abbrev pub is_under : List (List ℕ) → List (List ℕ) → Bool
is_under path other = lies_in other path && not (same_names other path)

abbrev pub is_below : List (List (List ℕ)) → List (List ℕ) → List (List ℕ) → Bool
is_below paths path other = is_under path other && not (list_any (λ between. is_under path between && is_under between other) paths)

abbrev pub names_below : List (List (List ℕ)) → List (List ℕ) → List (List (List ℕ))
names_below paths path = map (drop (length path)) (filter (is_below paths path) paths)

abbrev pub paths_of : List Coffer → List (List (List ℕ))
paths_of coffers = map (λ coffer. coffer.path) coffers

-- the coffer of this path with another tree
abbrev pub with_tree : List (List ℕ) → List Member → Coffer → Coffer
with_tree path tree coffer = if same_names coffer.path path then record { path = coffer.path; perm = coffer.perm; content = Ready tree } else coffer
