-- A walk along a path that splits it into names.
use Rattle.std.proofs.Common.{ℕ, List, [], ◌∷◌, ◌++◌}
use Rattle.tr_types.specs.Paths.{parts_of}
use Rattle.tr_answer.specs.Nodes.{names_kept}

-- the parts of a path whose first part has been begun
abbrev pub joined : List ℕ → List (List ℕ) → List (List ℕ)
joined begun [] = begun ∷ []
joined begun (part ∷ parts) = (begun ++ part) ∷ parts

-- the names that a walk has, and those of the part that it has begun and of what is left
abbrev pub walked : List (List ℕ) → List ℕ → List ℕ → List (List ℕ)
walked names begun rest = names ++ names_kept (joined begun (parts_of rest))
