-- A text that stands in pieces of eight bytes.
use Rattle.std.proofs.Common.{◌≡◌, ◌⊎◌, inl, inr, ℕ, zero, suc, ◌+◌, ◌*◌, ◌<◌, ◌≤◌, List, [], ◌∷◌, ◌++◌, length, take, drop, refl, sym, ap, ◌∙◌, arith}
use Rattle.std.specs.List.{range_with_len, flat_map}
use Rattle.std.proofs.lemmas.List.{map-id, length-append, take-take, take_all, take-append-le, take-append-drop, drop_at, drop-take, append-nil}
use Rattle.std.proofs.lemmas.Bool.{cases_eq}
use Rattle.std.proofs.lemmas.List.Concat.{flat_map-append}
use Rattle.std.proofs.lemmas.List.FromFn.{map-range_with_len_more}

abbrev pub pieces : (ℕ → List ℕ) → ℕ → List ℕ
pieces f n = flat_map f (range_with_len 0 n)

range_more : (n : ℕ) → range_with_len 0 (n + 1) ≡ range_with_len 0 n ++ n ∷ []
range_more n =
    sym (map-id (range_with_len 0 (n + 1)))
    ∙ map-range_with_len_more (λ (i : ℕ). i) 0 n n (omega arith)
    ∙ ap (λ (xs : List ℕ). xs ++ n ∷ []) (map-id (range_with_len 0 n))

pub pieces_more : (f : ℕ → List ℕ) (n : ℕ) → pieces f (n + 1) ≡ pieces f n ++ f n
pieces_more f n =
    ap (λ (xs : List ℕ). flat_map f xs) (range_more n)
    ∙ flat_map-append f (range_with_len 0 n) (n ∷ [])
    ∙ ap (λ (xs : List ℕ). pieces f n ++ xs) (append-nil (f n))

-- each piece has eight bytes
abbrev pub AreEights : (ℕ → List ℕ) → Type 0
AreEights f = (i : ℕ) → length (f i) ≡ 8

pub length_pieces : (f : ℕ → List ℕ) → AreEights f → (n : ℕ) → length (pieces f n) ≡ 8 * n
length_pieces f eights zero = refl
length_pieces f eights (suc n) =
    let more : pieces f (suc n) ≡ pieces f n ++ f n = let e : suc n ≡ n + 1 = omega arith in ap (λ (k : ℕ). pieces f k) e ∙ pieces_more f n in
    let rest = length_pieces f eights n in
    let here = eights n in
    let both = length-append (pieces f n) (f n) in
    let whole = ap (λ (xs : List ℕ). length xs) more in
    omega arith

-- the first pieces are a front of all
pub take_pieces : (f : ℕ → List ℕ) → AreEights f → (k n : ℕ) → k ≤ n → take (8 * k) (pieces f n) ≡ pieces f k
take_pieces f eights k zero le =
    let none : k ≡ 0 = omega arith in
    ap (λ (j : ℕ). take (8 * j) (pieces f 0)) none ∙ ap (λ (j : ℕ). pieces f j) (sym none)
take_pieces f eights k (suc n) le = by (cases_eq k (suc n)) (λ low. take_pieces f eights k n low)
  where
    more : pieces f (suc n) ≡ pieces f n ++ f n
    more = let e : suc n ≡ n + 1 = omega arith in ap (λ (j : ℕ). pieces f j) e ∙ pieces_more f n

    by : (k ≡ suc n) ⊎ (k ≡ suc n → ⊥) → (k ≤ n → take (8 * k) (pieces f n) ≡ pieces f k) → take (8 * k) (pieces f (suc n)) ≡ pieces f k
    by (inl same) lower =
        let whole : length (pieces f (suc n)) ≤ 8 * k = let l = length_pieces f eights (suc n) in omega arith in
        take_all (8 * k) (pieces f (suc n)) whole ∙ ap (λ (j : ℕ). pieces f j) (sym same)
    by (inr less) lower =
        let low : 8 * k ≤ length (pieces f n) = let l = length_pieces f eights n in omega arith in
        ap (λ (xs : List ℕ). take (8 * k) xs) more ∙ take-append-le (8 * k) (pieces f n) (f n) low ∙ lower (omega arith)

-- one piece
pub piece_at : (f : ℕ → List ℕ) → AreEights f → (i n : ℕ) → i < n → take 8 (drop (8 * i) (pieces f n)) ≡ f i
piece_at f eights i n lt =
    let next : 8 * (i + 1) ≡ 8 * i + 8 = omega arith in
    sym (drop-take (8 * i) 8 (pieces f n))
    ∙ ap (λ (k : ℕ). drop (8 * i) (take k (pieces f n))) (sym next)
    ∙ ap (λ (xs : List ℕ). drop (8 * i) xs) (take_pieces f eights (i + 1) n (omega arith) ∙ pieces_more f i)
    ∙ drop_at (pieces f i) (f i) (8 * i) (length_pieces f eights i)

-- a front of so many bytes ends within the pieces that cover it
pub front_of_pieces : (f : ℕ → List ℕ) → AreEights f → (len k n : ℕ) → len ≤ 8 * k → k ≤ n → take len (pieces f k) ≡ take len (pieces f n)
front_of_pieces f eights len k n covered le =
    ap (λ (xs : List ℕ). take len xs) (sym (take_pieces f eights k n le)) ∙ take-take len (8 * k) (pieces f n) covered

pub take_add : (m n : ℕ) (xs : List ℕ) → take (m + n) xs ≡ take m xs ++ take n (drop m xs)
take_add m n xs =
    sym (take-append-drop m (take (m + n) xs))
    ∙ ap (λ (ys : List ℕ). ys ++ drop m (take (m + n) xs)) (take-take m (m + n) xs (omega arith))
    ∙ ap (λ (ys : List ℕ). take m xs ++ ys) (drop-take m n xs)
