-- Paths and their fronts of whole names.
use Rattle.std.proofs.Common.{◌≡◌, ◌⊎◌, inl, inr, ℕ, ◌+◌, ◌≤◌, Bool, true, false, List, [], ◌∷◌, ◌++◌, length, take, drop, get_or, refl, sym, ap, ◌∙◌, arith, cond}
use Rattle.std.specs.Prelude.{nat_eq, ◌||◌, codes}
use Rattle.std.specs.List.{starts_with, list_all}
use Rattle.std.proofs.lemmas.Bool.{or_cases, eqb-true, cases_eq, and_parts}
use Rattle.std.proofs.lemmas.Bool.Decides.{Decides-eqb}
use Rattle.std.proofs.lemmas.List.{take_all, take_at, get_or_at, length-append, take-append-drop, drop_more, append_assoc}
use Rattle.std.proofs.lemmas.Slice.Eq.{bytes_eq-Decides, starts_is}
use Rattle.tr_types.specs.Paths.{parts_of, in_first}
use Rattle.tr_types.specs.Paths.{same_text, is_path_text, is_name_text, are_names_after, begins_with}
use Rattle.kern_roots.proofs.ReadingPaths.{same_when}

-- the path `/`
abbrev pub slash : List ℕ
slash = 47 ∷ []

-- how a path begins with another
pub data Begins (path front : List ℕ) : Type 0 where
  Whole : path ≡ front → Begins path front
  GoesOn : (rest : List ℕ) → path ≡ front ++ 47 ∷ rest → Begins path front
  FromRoot : front ≡ slash → Begins path front

one_of : (a b c : Bool) → (a || b || c) ≡ true → (a ≡ true) ⊎ ((b ≡ true) ⊎ (c ≡ true))
one_of true b c is = inl refl
one_of false true c is = inr (inl refl)
one_of false false true is = inr (inr refl)
one_of false false false is = cc

pub begins_how : (path front : List ℕ) → begins_with path front ≡ true → Begins path front
begins_how path front is = by (one_of (same_text path front) (starts_with nat_eq path (front ++ 47 ∷ [])) (same_text front (codes "/")) is)
  where
    by : (same_text path front ≡ true) ⊎ ((starts_with nat_eq path (front ++ 47 ∷ []) ≡ true) ⊎ (same_text front (codes "/") ≡ true)) → Begins path front
    by (inl whole) = Whole ((bytes_eq-Decides path front).0 whole)
    by (inr (inl starts)) =
        let split = (starts_is Decides-eqb path (front ++ 47 ∷ []) (starts_with nat_eq path (front ++ 47 ∷ [])) refl).0 starts in
        GoesOn (drop (length (front ++ 47 ∷ [])) path) (split ∙ append_assoc front (47 ∷ []) (drop (length (front ++ 47 ∷ [])) path))
    by (inr (inr root)) = FromRoot ((bytes_eq-Decides front (codes "/")).0 root)

some_of : (a b c : Bool) → (a ≡ true) ⊎ ((b ≡ true) ⊎ (c ≡ true)) → (a || b || c) ≡ true
some_of true b c is = refl
some_of false true c is = refl
some_of false false true is = refl
some_of false false false (inl is) = is
some_of false false false (inr (inl is)) = is
some_of false false false (inr (inr is)) = is

pub begins_so : (path front : List ℕ) → Begins path front → begins_with path front ≡ true
begins_so path front how = some_of (same_text path front) (starts_with nat_eq path (front ++ 47 ∷ [])) (same_text front (codes "/")) (by how)
  where
    by : Begins path front → (same_text path front ≡ true) ⊎ ((starts_with nat_eq path (front ++ 47 ∷ []) ≡ true) ⊎ (same_text front (codes "/") ≡ true))
    by (Whole is) = inl (same_when path front is)
    by (GoesOn rest is) = inr (inl ((starts_is Decides-eqb path (front ++ 47 ∷ []) (starts_with nat_eq path (front ++ 47 ∷ [])) refl).1 rest (is ∙ sym (append_assoc front (47 ∷ []) rest))))
    by (FromRoot is) = inr (inr (same_when front (codes "/") is))

-- what a path begins with isn't longer
pub begins_length : (path front : List ℕ) → 1 ≤ length path → Begins path front → length front ≤ length path
begins_length path front some (Whole is) = let l = ap (λ (xs : List ℕ). length xs) is in omega arith
begins_length path front some (GoesOn rest is) =
    let l = ap (λ (xs : List ℕ). length xs) is ∙ length-append front (47 ∷ rest) in
    omega arith
begins_length path front some (FromRoot is) = let l = ap (λ (xs : List ℕ). length xs) is in omega arith

-- a name ends at a place of a path
abbrev pub EndsAt : List ℕ → ℕ → Type 0
EndsAt path end = (end ≡ length path) ⊎ (get_or path end 0 ≡ 47)

pub front_begins : (path : List ℕ) (end : ℕ) → end ≤ length path → EndsAt path end → Begins path (take end path)
front_begins path end within (inl whole) = Whole (sym (take_all end path (omega arith)))
front_begins path end within (inr slash_at) = by (cases_eq end (length path))
  where
    by : (end ≡ length path) ⊎ (end ≡ length path → ⊥) → Begins path (take end path)
    by (inl whole) = Whole (sym (take_all end path (omega arith)))
    by (inr less) =
        GoesOn (drop (end + 1) path)
        (sym (take-append-drop end path)
        ∙ ap (λ (xs : List ℕ). take end path ++ xs) (drop_more path end 0 (omega arith) ∙ ap (λ (byte : ℕ). byte ∷ drop (end + 1) path) slash_at))

-- what a path begins with, but `/`, is its front, and a name ends there
pub begins_front : (path front : List ℕ) → 2 ≤ length front → Begins path front → (front ≡ take (length front) path) × EndsAt path (length front)
begins_front path front two (Whole is) =
    (sym (ap (λ (xs : List ℕ). take (length front) xs) is ∙ take_all (length front) front (omega arith)), inl (sym (ap (λ (xs : List ℕ). length xs) is)))
begins_front path front two (GoesOn rest is) =
    (sym (ap (λ (xs : List ℕ). take (length front) xs) is ∙ take_at front (47 ∷ rest) (length front) refl), inr (ap (λ (xs : List ℕ). get_or xs (length front) 0) is ∙ get_or_at front 47 rest 0 (length front) refl))
begins_front path front two (FromRoot is) = let l = ap (λ (xs : List ℕ). length xs) is in absurd (omega arith)

-- The shape of a path.

parts_of_one : (byte : ℕ) → are_names_after (parts_of (byte ∷ [])) ≡ true → ⊥
parts_of_one byte is = by (nat_eq byte 47) is
  where
    by : (b : Bool) → are_names_after (cond b ([] ∷ ([] ∷ [])) ((byte ∷ []) ∷ [])) ≡ true → ⊥
    by true fails = let both : false ≡ true = fails in cc
    by false fails = let both : false ≡ true = fails in cc

-- a path isn't empty, and it is `/` or longer
pub path_size : (path : List ℕ) → is_path_text path ≡ true → (path ≡ slash) ⊎ (2 ≤ length path)
path_size [] is = let both : false ≡ true = is in cc
path_size (byte ∷ []) is = by (or_cases (same_text (byte ∷ []) (codes "/")) (are_names_after (parts_of (byte ∷ []))) is)
  where
    by : (same_text (byte ∷ []) (codes "/") ≡ true) ⊎ (are_names_after (parts_of (byte ∷ [])) ≡ true) → (byte ∷ [] ≡ slash) ⊎ (2 ≤ 1)
    by (inl root) = inl ((bytes_eq-Decides (byte ∷ []) (codes "/")).0 root)
    by (inr names) = absurd (parts_of_one byte names)
path_size (byte ∷ next ∷ path) is = inr (omega arith)

-- a path begins with `/`
first_part : (byte : ℕ) (parts : List (List ℕ)) → are_names_after (in_first byte parts) ≡ true → ⊥
first_part byte [] is = let both : false ≡ true = is in cc
first_part byte (part ∷ []) is = let both : false ≡ true = is in cc
first_part byte (part ∷ name ∷ names) is =
    let none = eqb-true (length (byte ∷ part)) 0 (and_parts (nat_eq (length (byte ∷ part)) 0) (list_all is_name_text (name ∷ names)) is).0 in
    absurd (omega arith)

pub path_starts : (path : List ℕ) → is_path_text path ≡ true → take 1 path ≡ slash
path_starts [] is = let both : false ≡ true = is in cc
path_starts (byte ∷ path) is = by (or_cases (same_text (byte ∷ path) (codes "/")) (are_names_after (parts_of (byte ∷ path))) is)
  where
    names_start : (b : Bool) → nat_eq byte 47 ≡ b → are_names_after (cond b ([] ∷ parts_of path) (in_first byte (parts_of path))) ≡ true → byte ∷ [] ≡ slash
    names_start true is names = ap (λ (first : ℕ). first ∷ []) (eqb-true byte 47 is)
    names_start false is names = absurd (first_part byte (parts_of path) names)

    by : (same_text (byte ∷ path) (codes "/") ≡ true) ⊎ (are_names_after (parts_of (byte ∷ path)) ≡ true) → byte ∷ [] ≡ slash
    by (inl root) = ap (λ (xs : List ℕ). take 1 xs) ((bytes_eq-Decides (byte ∷ path) (codes "/")).0 root)
    by (inr names) = names_start (nat_eq byte 47) refl names
