-- The path of a coffer's entry, piece by piece, and its comparison with another.
use Rattle.std.proofs.Common.{◌≡◌, ◌⊎◌, inl, inr, ℕ, ◌+◌, ◌-◌, ◌*◌, ◌<◌, ◌≤◌, min, true, false, List, ◌++◌, length, take, drop, refl, sym, ap, ◌∙◌, arith}
use Rattle.std.specs.Prelude.{nat_eq, nat_le}
use Rattle.std.specs.List.{starts_with}
use Rattle.std.proofs.lemmas.Bool.{cases_lt, cond-true, le-leb, false_from_ne_true}
use Rattle.std.proofs.lemmas.List.{length-take, length-take-le, length-drop, take-take, take_all, drop-take}
use Rattle.std.proofs.lemmas.Slice.Eq.{bytes_eq-Decides}
use Rattle.tr_types.specs.Paths.{same_text}
use Rattle.kern_model.specs.KernelTables.{path_in, path_length}
use Rattle.kern_roots.specs.Entries.{path_piece}
use Rattle.kern_roots.proofs.ReadingPieces.{pieces, AreEights, length_pieces, piece_at, take_add, front_of_pieces}

pub same_when : (xs ys : List ℕ) → xs ≡ ys → same_text xs ys ≡ true
same_when xs ys is = (bytes_eq-Decides xs ys).1 is

pub differ_when : (xs ys : List ℕ) → (xs ≡ ys → ⊥) → same_text xs ys ≡ false
differ_when xs ys isnt = false_from_ne_true (same_text xs ys) (λ t. isnt ((bytes_eq-Decides xs ys).0 t))

pub eights_of : (pages : ℕ) (at : ℕ → ℕ) (id : ℕ) → AreEights (path_piece pages at id)
eights_of pages at id i = refl

pub path_of_pieces : (pages : ℕ) (at : ℕ → ℕ) (id : ℕ) → path_length pages at id ≤ 440 → path_in pages at id ≡ take (path_length pages at id) (pieces (path_piece pages at id) 55)
path_of_pieces pages at id most = cond-true (nat_le (path_length pages at id) 440) _ _ (le-leb (path_length pages at id) 440 most)

pub length_path : (pages : ℕ) (at : ℕ → ℕ) (id : ℕ) → path_length pages at id ≤ 440 → length (path_in pages at id) ≡ path_length pages at id
length_path pages at id most =
    let long : path_length pages at id ≤ length (pieces (path_piece pages at id) 55) = let l = length_pieces (path_piece pages at id) (eights_of pages at id) 55 in omega arith in
    ap (λ (xs : List ℕ). length xs) (path_of_pieces pages at id most) ∙ length-take-le (path_length pages at id) (pieces (path_piece pages at id) 55) long

-- the whole path, once all its pieces are read
pub path_read : (pages : ℕ) (at : ℕ → ℕ) (id count : ℕ) → path_length pages at id ≤ 440 → path_length pages at id ≤ 8 * count → count ≤ 55
    → take (path_length pages at id) (pieces (path_piece pages at id) count) ≡ path_in pages at id
path_read pages at id count most covered few =
    front_of_pieces (path_piece pages at id) (eights_of pages at id) (path_length pages at id) count 55 covered few ∙ sym (path_of_pieces pages at id most)

-- so much of piece i as the other text has there
piece_of_front : (f : ℕ → List ℕ) → AreEights f → (len i : ℕ) → 8 * i < len → len ≤ 440 → take (min 8 (len - 8 * i)) (f i) ≡ take 8 (drop (8 * i) (take len (pieces f 55)))
piece_of_front f eights len i lt most = by (cases_lt (len - 8 * i) 8)
  where
    whole : List ℕ
    whole = pieces f 55

    rest : drop (8 * i) (take len (pieces f 55)) ≡ take (len - 8 * i) (drop (8 * i) (pieces f 55))
    rest =
        let split : len ≡ 8 * i + (len - 8 * i) = omega arith in
        ap (λ (n : ℕ). drop (8 * i) (take n (pieces f 55))) split ∙ drop-take (8 * i) (len - 8 * i) (pieces f 55)

    here : (m : ℕ) → m ≤ 8 → take m (f i) ≡ take m (drop (8 * i) (pieces f 55))
    here m le =
        ap (λ (xs : List ℕ). take m xs) (sym (piece_at f eights i 55 (omega arith))) ∙ take-take m 8 (drop (8 * i) (pieces f 55)) le

    by : (len - 8 * i < 8) ⊎ (8 ≤ len - 8 * i) → take (min 8 (len - 8 * i)) (f i) ≡ take 8 (drop (8 * i) (take len (pieces f 55)))
    by (inl less) =
        let least : min 8 (len - 8 * i) ≡ len - 8 * i = omega arith in
        let short : length (take (len - 8 * i) (drop (8 * i) (pieces f 55))) ≤ 8 = let l = length-take (len - 8 * i) (drop (8 * i) (pieces f 55)) in omega arith in
        ap (λ (m : ℕ). take m (f i)) least
        ∙ here (len - 8 * i) (omega arith)
        ∙ sym (ap (λ (xs : List ℕ). take 8 xs) rest ∙ take_all 8 (take (len - 8 * i) (drop (8 * i) (pieces f 55))) short)
    by (inr more) =
        let least : min 8 (len - 8 * i) ≡ 8 = omega arith in
        ap (λ (m : ℕ). take m (f i)) least
        ∙ here 8 (omega arith)
        ∙ sym (ap (λ (xs : List ℕ). take 8 xs) rest ∙ take-take 8 (len - 8 * i) (drop (8 * i) (pieces f 55)) more)

-- piece i begins with the other text's bytes there exactly where these are the path's
piece_tells : (f : ℕ → List ℕ) → AreEights f → (text : List ℕ) (len i : ℕ) → length text ≡ len → 8 * i < len → len ≤ 440
    → starts_with nat_eq (f i) (take 8 (drop (8 * i) text)) ≡ same_text (take 8 (drop (8 * i) text)) (take 8 (drop (8 * i) (take len (pieces f 55))))
piece_tells f eights text len i is lt most =
    let long : length (take 8 (drop (8 * i) text)) ≡ min 8 (len - 8 * i) = let a = length-take 8 (drop (8 * i) text) in let b = length-drop (8 * i) text in omega arith in
    ap (λ (m : ℕ). same_text (take 8 (drop (8 * i) text)) (take m (f i))) long
    ∙ ap (λ (xs : List ℕ). same_text (take 8 (drop (8 * i) text)) xs) (piece_of_front f eights len i lt most)

-- the first i pieces agree
abbrev pub Agree : List ℕ → List ℕ → ℕ → Type 0
Agree path text i = take (8 * i) text ≡ take (8 * i) path

pub agree_more : (pages : ℕ) (at : ℕ → ℕ) (id : ℕ) (text : List ℕ) (i : ℕ) → path_length pages at id ≤ 440 → length text ≡ path_length pages at id → 8 * i < length text
    → Agree (path_in pages at id) text i → starts_with nat_eq (path_piece pages at id i) (take 8 (drop (8 * i) text)) ≡ true → Agree (path_in pages at id) text (i + 1)
agree_more pages at id text i most is lt before starts =
    let f = path_piece pages at id in
    let front = take (path_length pages at id) (pieces f 55) in
    let same = sym (piece_tells f (eights_of pages at id) text (path_length pages at id) i is (omega arith) most) ∙ starts in
    let piece = (bytes_eq-Decides (take 8 (drop (8 * i) text)) (take 8 (drop (8 * i) front))).0 same in
    let path = path_of_pieces pages at id most in
    let next : 8 * (i + 1) ≡ 8 * i + 8 = omega arith in
    ap (λ (n : ℕ). take n text) next
    ∙ take_add (8 * i) 8 text
    ∙ ap (λ (xs : List ℕ). xs ++ take 8 (drop (8 * i) text)) before
    ∙ ap (λ (xs : List ℕ). take (8 * i) (path_in pages at id) ++ xs) (piece ∙ ap (λ (xs : List ℕ). take 8 (drop (8 * i) xs)) (sym path))
    ∙ sym (take_add (8 * i) 8 (path_in pages at id))
    ∙ ap (λ (n : ℕ). take n (path_in pages at id)) (sym next)

pub apart_here : (pages : ℕ) (at : ℕ → ℕ) (id : ℕ) (text : List ℕ) (i : ℕ) → path_length pages at id ≤ 440 → length text ≡ path_length pages at id → 8 * i < length text
    → starts_with nat_eq (path_piece pages at id i) (take 8 (drop (8 * i) text)) ≡ false → same_text (path_in pages at id) text ≡ false
apart_here pages at id text i most is lt apart =
    let f = path_piece pages at id in
    let tells = piece_tells f (eights_of pages at id) text (path_length pages at id) i is (omega arith) most in
    differ_when (path_in pages at id) text (λ same.
    let piece = same_when (take 8 (drop (8 * i) text)) (take 8 (drop (8 * i) (take (path_length pages at id) (pieces f 55))))
    (ap (λ (xs : List ℕ). take 8 (drop (8 * i) xs)) (sym same ∙ path_of_pieces pages at id most)) in
    let both : true ≡ false = sym (tells ∙ piece) ∙ apart in
    cc)

pub agree_all : (pages : ℕ) (at : ℕ → ℕ) (id : ℕ) (text : List ℕ) (i : ℕ) → path_length pages at id ≤ 440 → length text ≡ path_length pages at id → length text ≤ 8 * i
    → Agree (path_in pages at id) text i → same_text (path_in pages at id) text ≡ true
agree_all pages at id text i most is all agree =
    let long : length (path_in pages at id) ≤ 8 * i = let l = length_path pages at id most in omega arith in
    same_when (path_in pages at id) text (sym (sym (take_all (8 * i) text all) ∙ agree ∙ take_all (8 * i) (path_in pages at id) long))

pub apart_by_length : (pages : ℕ) (at : ℕ → ℕ) (id : ℕ) (text : List ℕ) → path_length pages at id ≤ 440 → (path_length pages at id ≡ length text → ⊥) → same_text (path_in pages at id) text ≡ false
apart_by_length pages at id text most differs =
    differ_when (path_in pages at id) text (λ same. differs (sym (length_path pages at id most) ∙ ap (λ (xs : List ℕ). length xs) same))
