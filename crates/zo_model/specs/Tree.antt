-- The trees of names that users see.
use Rattle.std.specs.Prelude.{ℕ, ◌+◌, List, [], ◌∷◌, length, Bool, Option, Some, None, if◌then◌else◌, ◌==◌, ◌&&◌, nat_eq}
use Rattle.std.specs.List.{starts_with}
use Rattle.std.specs.Cmp.Lexicographic.{pointwise}

-- a directory, or a file of these bytes
pub data Node : Type 0 where
  Directory : Node
  FileOf : (bytes : List ℕ) → Node

-- what stands at a path, by its names from the root on
pub record Member : Type 0 where
  pub names : List (List ℕ)
  pub node : Node

-- a new file system: the root directory alone, under no names
abbrev pub new_tree : List Member
new_tree = record { names = []; node = Directory } ∷ []

abbrev pub same_names : List (List ℕ) → List (List ℕ) → Bool
same_names = pointwise (pointwise nat_eq)

-- what stands under these names
abbrev pub node_at : List Member → List (List ℕ) → Option Node
node_at [] names = None
node_at (m ∷ tree) names = if same_names m.names names then Some m.node else node_at tree names

-- the member stands directly under the directory of these names
abbrev pub is_child : List (List ℕ) → Member → Bool
is_child names m = (length m.names == length names + 1) && starts_with (pointwise nat_eq) m.names names
