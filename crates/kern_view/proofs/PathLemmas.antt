use Rattle.std.proofs.Common.{◌≡◌, ℕ, List, [], ◌∷◌, if◌then◌else◌, ◌==◌, refl, ap, ◌∙◌, nat_eq}
use Rattle.std.specs.List.{slice_split, onto_first}
use Rattle.tr_types.specs.Paths.{in_first, parts_of}

front_of : (byte : ℕ) (parts : List (List ℕ)) → onto_first byte parts ≡ in_first byte parts
front_of byte [] = refl
front_of byte (part ∷ parts) = refl

-- the parts are those that a split at each slash gives
pub split_is_parts : (path : List ℕ) → slice_split (λ (byte : ℕ). nat_eq byte 47) path ≡ parts_of path
split_is_parts [] = refl
split_is_parts (byte ∷ path) =
    ap (λ (parts : List (List ℕ)). if byte == 47 then [] ∷ parts else onto_first byte parts) (split_is_parts path)
    ∙ ap (λ (front : List (List ℕ)). if byte == 47 then [] ∷ parts_of path else front) (front_of byte (parts_of path))
