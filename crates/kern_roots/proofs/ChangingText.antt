-- A path in the words of an entry: what is written there is read again.
use Rattle.std.proofs.Common.{◌≡◌, ℕ, zero, suc, ◌+◌, ◌*◌, ◌<◌, ◌≤◌, ◌⊎◌, List, [], ◌∷◌, ◌++◌, length, take, drop, replicate, get_or, Bool, true, cond, ◌==◌, nat_le, nat_eq, codes, refl, ap, sym, subst, ◌∙◌, inl, inr, arith, eq-eqb, ne_eqb, eqb-true, length-append, length-take, length-drop}
use Rattle.std.specs.List.{range_with_len, flat_map, AllByRecursion, list_all}
use Rattle.std.specs.Prelude.{All}
use Rattle.std.proofs.lemmas.List.Elements.{All-head, All-tail}
use Rattle.std.specs.Int.{w64, to_le_bytes}
use Rattle.std.proofs.lemmas.Bool.{cases_lt, cases_eq, and_parts, or_cases, true≢false, leb-true}
use Rattle.std.proofs.lemmas.Nat.{le_bytes_8}
use Rattle.std.proofs.lemmas.List.{take_at, take-take, take-append-le, drop-drop, take-append-drop, nil_from_length}
use Rattle.tr_types.specs.Paths.{parts_of, in_first}
use Rattle.tr_types.specs.Paths.{same_text, is_name_byte, is_name_text, are_names_after, is_path_text}
use Rattle.kern_roots.proofs.ChangingPairs.{text_word}

-- The bytes of a path are bytes.

abbrev pub Small : List ℕ → Type 0
Small text = AllByRecursion (λ byte. byte < 256) text

abbrev AreSmall : List (List ℕ) → Type 0
AreSmall parts = AllByRecursion Small parts

first_small : (byte : ℕ) (parts : List (List ℕ)) → AreSmall (in_first byte parts) → (byte < 256) × AreSmall parts
first_small byte [] h = (h.0.0, tt)
first_small byte (part ∷ parts) h = (h.0.0, (h.0.1, h.1))

whole_small : (text : List ℕ) → AreSmall (parts_of text) → Small text
whole_small [] h = tt
whole_small (byte ∷ text) h = by (cases_eq byte 47) (whole_small text)
  where
    by : (byte ≡ 47) ⊎ (byte ≡ 47 → ⊥) → (AreSmall (parts_of text) → Small text) → Small (byte ∷ text)
    by (inl e) more =
        let parts = subst (λ (b : Bool). AreSmall (cond b ([] ∷ parts_of text) (in_first byte (parts_of text)))) (eq-eqb byte 47 e) h in
        (omega arith, more parts.1)
    by (inr ne) more =
        let parts = first_small byte (parts_of text) (subst (λ (b : Bool). AreSmall (cond b ([] ∷ parts_of text) (in_first byte (parts_of text)))) (ne_eqb byte 47 ne) h) in
        (parts.0, more parts.1)

name_small : (name : List ℕ) → list_all is_name_byte name ≡ true → Small name
name_small [] h = tt
name_small (byte ∷ name) h =
    let two = and_parts (is_name_byte byte) (list_all is_name_byte name) h in
    let most = leb-true byte 126 (and_parts (nat_le 33 byte) (nat_le byte 126) (and_parts _ _ two.0).0).1 in
    (omega arith, name_small name two.1)

names_small : (names : List (List ℕ)) → list_all is_name_text names ≡ true → AreSmall names
names_small [] h = tt
names_small (name ∷ names) h =
    let two = and_parts (is_name_text name) (list_all is_name_text names) h in
    (name_small name (and_parts _ _ (and_parts _ _ (and_parts _ _ two.0).0).0).1, names_small names two.1)

parts_small : (parts : List (List ℕ)) → are_names_after parts ≡ true → AreSmall parts
parts_small [] h = absurd (true≢false (sym h))
parts_small (front ∷ []) h = absurd (true≢false (sym h))
parts_small (front ∷ name ∷ names) h =
    let two = and_parts (length front == 0) (list_all is_name_text (name ∷ names)) h in
    (subst Small (sym (nil_from_length front (eqb-true (length front) 0 two.0))) tt, names_small (name ∷ names) two.1)

slash_small : (text : List ℕ) → same_text text (codes "/") ≡ true → Small text
slash_small [] h = tt
slash_small (byte ∷ []) h = let e = eqb-true byte 47 (and_parts (nat_eq byte 47) _ h).0 in (omega arith, tt)
slash_small (byte ∷ next ∷ text) h = absurd (true≢false (sym (and_parts (nat_eq byte 47) _ h).1))

pub small_path : (path : List ℕ) → is_path_text path ≡ true → Small path
small_path path h = by (or_cases (same_text path (codes "/")) (are_names_after (parts_of path)) h)
  where
    by : (same_text path (codes "/") ≡ true) ⊎ (are_names_after (parts_of path) ≡ true) → Small path
    by (inl e) = slash_small path e
    by (inr e) = whole_small path (parts_small (parts_of path) e)

-- Eight bytes of a text, with zeros behind its end.
abbrev pub chunk : List ℕ → ℕ → List ℕ
chunk text i = take 8 (drop (8 * i) text ++ replicate 8 0)

zeros_at : (n k : ℕ) → get_or {A = ℕ} (replicate n 0) k 0 ≡ 0
zeros_at zero k = refl
zeros_at (suc n) zero = refl
zeros_at (suc n) (suc k) = zeros_at n k

padded_at : (text : List ℕ) (n k : ℕ) → Small text → get_or (text ++ replicate n 0) k 0 < 256
padded_at [] n k h = let e = zeros_at n k in omega arith
padded_at (byte ∷ text) n zero h = h.0
padded_at (byte ∷ text) n (suc k) h = padded_at text n k h.1

rest_small : (n : ℕ) (text : List ℕ) → Small text → Small (drop n text)
rest_small zero text h = h
rest_small (suc n) [] h = tt
rest_small (suc n) (byte ∷ text) h = rest_small n text h.1

cut_small : (n : ℕ) (text : List ℕ) (k : ℕ) → get_or text k 0 < 256 → get_or (take n text) k 0 < 256
cut_small zero text k h = omega arith
cut_small (suc n) [] k h = h
cut_small (suc n) (byte ∷ text) zero h = h
cut_small (suc n) (byte ∷ text) (suc k) h = cut_small n text k h

length_chunk : (text : List ℕ) (i : ℕ) → length (chunk text i) ≡ 8
length_chunk text i =
    omega (arith, length-take 8 (drop (8 * i) text ++ replicate 8 0), length-append (drop (8 * i) text) (replicate 8 0))

pub small_all : (text : List ℕ) → All (λ byte. byte < 256) text → Small text
small_all [] all = tt
small_all (byte ∷ text) all = (All-head (λ b. b < 256) byte text all, small_all text (All-tail (λ b. b < 256) byte text all))

pub word_bytes : (text : List ℕ) (i : ℕ) → Small text → to_le_bytes w64 (text_word text i) ≡ chunk text i
word_bytes text i h =
    le_bytes_8 (chunk text i) (text_word text i) (length_chunk text i)
    (λ k. cut_small 8 (drop (8 * i) text ++ replicate 8 0) k (padded_at (drop (8 * i) text) 8 k (rest_small (8 * i) text h))) refl

take_past : (xs ys : List ℕ) (m : ℕ) → take (length xs + m) (xs ++ ys) ≡ xs ++ take m ys
take_past [] ys m = let e : 0 + m ≡ m = omega arith in ap (λ (k : ℕ). take k ys) e
take_past (x ∷ xs) ys m =
    let e : suc (length xs) + m ≡ suc (length xs + m) = omega arith in
    ap (λ (k : ℕ). take k (x ∷ (xs ++ ys))) e ∙ ap (λ (zs : List ℕ). x ∷ zs) (take_past xs ys m)

pub chunks_are : (text : List ℕ) (n a : ℕ) → length (drop (8 * a) text) ≤ 8 * n
    → take (length (drop (8 * a) text)) (flat_map (chunk text) (range_with_len a n)) ≡ drop (8 * a) text
chunks_are text zero a h =
    let none : length (drop (8 * a) text) ≡ 0 = omega arith in
    ap (λ (k : ℕ). take k []) none ∙ sym (nil_from_length (drop (8 * a) text) none)
chunks_are text (suc n) a h = by (cases_lt 8 (length (drop (8 * a) text))) (chunks_are text n (a + 1))
  where
    rest : List ℕ
    rest = drop (8 * a) text

    more : List ℕ
    more = flat_map (chunk text) (range_with_len (a + 1) n)

    by : (8 < length rest) ⊎ (length rest ≤ 8)
        → (length (drop (8 * (a + 1)) text) ≤ 8 * n → take (length (drop (8 * (a + 1)) text)) more ≡ drop (8 * (a + 1)) text)
        → take (length rest) (chunk text a ++ more) ≡ rest
    by (inl long) next =
        let place : 8 * a + 8 ≡ 8 * (a + 1) = omega arith in
        let behind : drop 8 rest ≡ drop (8 * (a + 1)) text = drop-drop 8 (8 * a) text ∙ ap (λ (k : ℕ). drop k text) place in
        let eight : length (take 8 rest) ≡ 8 = omega (arith, length-take 8 rest) in
        let count = ap (λ (xs : List ℕ). length xs) behind in
        let all : length rest ≡ length (take 8 rest) + length (drop (8 * (a + 1)) text) = omega (arith, length-drop 8 rest) in
        ap (λ (xs : List ℕ). take (length rest) (xs ++ more)) (take-append-le 8 rest (replicate 8 0) (omega arith))
        ∙ ap (λ (k : ℕ). take k (take 8 rest ++ more)) all
        ∙ take_past (take 8 rest) more (length (drop (8 * (a + 1)) text))
        ∙ ap (λ (xs : List ℕ). take 8 rest ++ xs) (next (omega arith) ∙ sym behind)
        ∙ take-append-drop 8 rest
    by (inr few) next =
        let long : length (chunk text a) ≡ 8 = length_chunk text a in
        take-append-le (length rest) (chunk text a) more (omega arith)
        ∙ take-take (length rest) 8 (rest ++ replicate 8 0) few
        ∙ take_at rest (replicate 8 0) (length rest) refl
