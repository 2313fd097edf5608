-- Which bytes stand in paths and names, and that no path is `=`.
use Rattle.std.proofs.Common.{◌≡◌, ◌⊎◌, inl, inr, ℕ, List, [], ◌∷◌, length, Bool, true, false, not, ◌&&◌, eqb, leb, refl, ap, sym, subst, arith}
use Rattle.std.proofs.lemmas.Bool.{and_parts, and_from, or_cases, lt-ltb, leb-true, eqb-true, cases_Bool, cond-true, cond-false}
use Rattle.std.specs.List.{list_all, AllByRecursion}
use Rattle.std.specs.Prelude.{codes}
use Rattle.tr_types.specs.Paths.{in_first, parts_of, same_text, is_name_byte, is_name_text, are_names_after, is_path_text}
use Rattle.tr_text.specs.Written.{IsPath, IsName}
use Rattle.tr_text.proofs.Reading.{is_equals}
use Rattle.tr_text.proofs.WordLemmas.{is_plain, IsPlain, weaker}

plain_name_byte : (byte : ℕ) → is_name_byte byte ≡ true → is_plain byte ≡ true
plain_name_byte byte name =
    let parts = and_parts (leb 33 byte && leb byte 126) (not (eqb byte 47)) name in
    let above = leb-true 33 byte (and_parts (leb 33 byte) (leb byte 126) parts.0).0 in
    lt-ltb 32 byte (omega arith)

-- what the three tests of a name say of its bytes
name_bytes : (name : List ℕ) → IsName name → list_all is_name_byte name ≡ true
name_bytes name is =
    let first = and_parts (not (eqb (length name) 0) && list_all is_name_byte name && not (same_text name (codes "."))) (not (same_text name (codes ".."))) is in
    let second = and_parts (not (eqb (length name) 0) && list_all is_name_byte name) (not (same_text name (codes "."))) first.0 in
    (and_parts (not (eqb (length name) 0)) (list_all is_name_byte name) second.0).1

pub name_plain_word : (name : List ℕ) → IsName name → IsPlain name
name_plain_word name is = weaker is_name_byte is_plain plain_name_byte name (name_bytes name is)

-- all parts between slashes are plain
ArePlainParts : List (List ℕ) → Type 0
ArePlainParts parts = AllByRecursion IsPlain parts

plain_names : (names : List (List ℕ)) → list_all is_name_text names ≡ true → AllByRecursion IsPlain names
plain_names [] all = tt
plain_names (name ∷ names) all =
    let parts = and_parts (is_name_text name) (list_all is_name_text names) all in
    (name_plain_word name parts.0, plain_names names parts.1)

-- a first part with one more byte in front
front_plain : (byte : ℕ) (parts : List (List ℕ)) → AllByRecursion IsPlain (in_first byte parts) → (is_plain byte ≡ true) × AllByRecursion IsPlain parts
front_plain byte [] all = ((and_parts (is_plain byte) true all.0).0, tt)
front_plain byte (part ∷ parts) all =
    let front = and_parts (is_plain byte) (list_all is_plain part) all.0 in
    (front.0, (front.1, all.1))

-- a path whose parts between slashes are plain is plain
parts_plain : (path : List ℕ) → AllByRecursion IsPlain (parts_of path) → IsPlain path
parts_plain [] all = refl
parts_plain (byte ∷ path) all = by (cases_Bool (eqb byte 47)) (parts_plain path)
  where
    by : (eqb byte 47 ≡ true) ⊎ (eqb byte 47 ≡ false) → (AllByRecursion IsPlain (parts_of path) → IsPlain path) → IsPlain (byte ∷ path)
    by (inl slash) rest =
        let is = eqb-true byte 47 slash in
        let below = subst (AllByRecursion IsPlain) (cond-true (eqb byte 47) ([] ∷ parts_of path) (in_first byte (parts_of path)) slash) all in
        and_from (is_plain byte) (list_all is_plain path) (lt-ltb 32 byte (omega arith)) (rest below.1)
    by (inr other) rest =
        let below = subst (AllByRecursion IsPlain) (cond-false (eqb byte 47) ([] ∷ parts_of path) (in_first byte (parts_of path)) other) all in
        let parts = front_plain byte (parts_of path) below in
        and_from (is_plain byte) (list_all is_plain path) parts.0 (rest parts.1)

-- nothing, and then names, are plain
after_plain : (parts : List (List ℕ)) → are_names_after parts ≡ true → AllByRecursion IsPlain parts
after_plain [] names = tt
after_plain (front ∷ []) names = absurd (cc)
after_plain ([] ∷ name ∷ rest) names = (refl, plain_names (name ∷ rest) (and_parts true (list_all is_name_text (name ∷ rest)) names).1)
after_plain ((byte ∷ front) ∷ name ∷ rest) names =
    let some = eqb-true (length (byte ∷ front)) 0 (and_parts (eqb (length (byte ∷ front)) 0) (list_all is_name_text (name ∷ rest)) names).0 in
    absurd (omega arith)

root_text : (path : List ℕ) → same_text path (codes "/") ≡ true → path ≡ 47 ∷ []
root_text [] same = absurd (cc)
root_text (byte ∷ []) same = ap (λ (b : ℕ). b ∷ []) (eqb-true byte 47 (and_parts (eqb byte 47) true same).0)
root_text (byte ∷ next ∷ path) same = absurd (let none = (and_parts (eqb byte 47) false same).1 in cc)

pub path_plain : (path : List ℕ) → IsPath path → IsPlain path
path_plain path is = by (or_cases (same_text path (codes "/")) (are_names_after (parts_of path)) is)
  where
    by : (same_text path (codes "/") ≡ true) ⊎ (are_names_after (parts_of path) ≡ true) → IsPlain path
    by (inl root) = subst IsPlain (sym (root_text path root)) refl
    by (inr names) = parts_plain path (after_plain (parts_of path) names)

-- A path of one byte is `/`.
pub path_no_equals : (path : List ℕ) → IsPath path → is_equals path ≡ false
path_no_equals [] is = refl
path_no_equals (byte ∷ next ∷ path) is = by (eqb byte 61)
  where
    by : (b : Bool) → (b && false) ≡ false
    by true = refl
    by false = refl
path_no_equals (byte ∷ []) is = by (cases_Bool (eqb byte 61))
  where
    by : (eqb byte 61 ≡ true) ⊎ (eqb byte 61 ≡ false) → is_equals (byte ∷ []) ≡ false
    by (inl same) = absurd (let path : is_path_text (61 ∷ []) ≡ true = subst (λ b. is_path_text (b ∷ []) ≡ true) (eqb-true byte 61 same) is in let none : false ≡ true = path in cc)
    by (inr other) = ap (λ (b : Bool). b && true) other
