-- The text of a path, name by name.
use Rattle.std.proofs.Common.{◌≡◌, ℕ, ◌≤◌, List, [], ◌∷◌, ◌++◌, length, take, fold, refl, ap, sym, ◌∙◌, append_assoc, append-nil, arith}
use Rattle.std.proofs.lemmas.List.{take_all}
use Rattle.zo_model.specs.Coffers.{path_text}

-- each name with a `/` before it
abbrev pub slashed : List (List ℕ) → List ℕ
slashed names = fold (λ text more. text ++ 47 ∷ more) [] names

fold_from : (front text : List ℕ) (names : List (List ℕ)) → fold (λ text more. text ++ 47 ∷ more) (front ++ text) names ≡ front ++ fold (λ text more. text ++ 47 ∷ more) text names
fold_from front text [] = refl
fold_from front text (name ∷ names) =
    ap (λ (t : List ℕ). fold (λ text more. text ++ 47 ∷ more) t names) (append_assoc front text (47 ∷ name)) ∙ fold_from front (text ++ 47 ∷ name) names

path_text_is : (name : List ℕ) (names : List (List ℕ)) → slashed (name ∷ names) ≡ path_text (name ∷ names)
path_text_is name names =
    sym (ap (λ (t : List ℕ). fold (λ text more. text ++ 47 ∷ more) t names) (append-nil (47 ∷ name))) ∙ fold_from (47 ∷ name) [] names

-- the text of no names is a `/` alone
pub text_of_none : (names : List (List ℕ)) (text : List ℕ) (count : ℕ) → length names ≡ 0 → text ≡ slashed (take count names) → length names ≤ count → text ++ 47 ∷ [] ≡ path_text names
text_of_none [] text count none is le = ap (λ (t : List ℕ). t ++ 47 ∷ []) (is ∙ ap slashed (take_all count [] le))
text_of_none (name ∷ names) text count none is le = absurd (omega (arith, none))

pub text_of_some : (names : List (List ℕ)) (text : List ℕ) (count : ℕ) → (length names ≡ 0 → ⊥) → text ≡ slashed (take count names) → length names ≤ count → text ≡ path_text names
text_of_some [] text count some is le = absurd (some refl)
text_of_some (name ∷ names) text count some is le = is ∙ ap slashed (take_all count (name ∷ names) le) ∙ path_text_is name names
