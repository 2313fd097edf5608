-- Known bytes over several calls, one after another.
use Rattle.std.proofs.Common.{◌≡◌, ◌<◌, ◌≤◌, ◌+◌, ℕ, min, List, [], ◌++◌, length, take, drop, refl, ap, sym, ◌∙◌, append_assoc, arith, length-append, length-drop, length-take-le, take-append-drop, Some, None}
use Rattle.std.proofs.lemmas.List.{append-nil, drop-drop, drop-take, take-take, take_at, nil_from_length}
use Rattle.std.specs.declared.option.Option.{Option}
use Rattle.std.specs.Io.KnownBytes.{Appends, Consumes, Keeps}

pub appends_none : (a : Option (List ℕ)) → Appends a a []
appends_none None = tt
appends_none (Some xs) = sym (append-nil xs)

pub appends_more : (a b c : Option (List ℕ)) (xs ys : List ℕ) → Appends a b xs → Appends b c ys → Appends a c (xs ++ ys)
appends_more None b c xs ys p q = tt
appends_more (Some s) None c xs ys p q = absurd p
appends_more (Some s) (Some t) None xs ys p q = absurd q
appends_more (Some s) (Some t) (Some u) xs ys p q = q ∙ ap (λ (l : List ℕ). l ++ ys) p ∙ append_assoc s xs ys

pub appends_kept : (a b c : Option (List ℕ)) (xs : List ℕ) → Appends a b xs → Keeps b c → Appends a c xs
appends_kept None b c xs p q = tt
appends_kept (Some s) None c xs p q = absurd p
appends_kept (Some s) (Some t) None xs p q = absurd q
appends_kept (Some s) (Some t) (Some u) xs p q = q ∙ p

pub consumes_none : (a : Option (List ℕ)) → Consumes a a []
consumes_none None = tt
consumes_none (Some xs) = refl

pub consumes_more : (a b c : Option (List ℕ)) (xs ys : List ℕ) → Consumes a b xs → Consumes b c ys → Consumes a c (xs ++ ys)
consumes_more None b c xs ys p q = tt
consumes_more (Some s) None c xs ys p q = absurd p
consumes_more (Some s) (Some t) None xs ys p q = absurd q
consumes_more (Some s) (Some t) (Some u) xs ys p q = p ∙ ap (λ (l : List ℕ). xs ++ l) q ∙ sym (append_assoc xs ys u)

pub consumes_kept : (a b c : Option (List ℕ)) (xs : List ℕ) → Consumes a b xs → Keeps b c → Consumes a c xs
consumes_kept None b c xs p q = tt
consumes_kept (Some s) None c xs p q = absurd p
consumes_kept (Some s) (Some t) None xs p q = absurd q
consumes_kept (Some s) (Some t) (Some u) xs p q = p ∙ ap (λ (l : List ℕ). xs ++ l) (sym q)

-- one piece after another is one longer piece
pub take_further : (at n : ℕ) (xs : List ℕ) → take at xs ++ take n (drop at xs) ≡ take (at + n) xs
take_further at n xs =
    ap (λ (l : List ℕ). l ++ take n (drop at xs)) (sym (take-take at (at + n) xs (omega arith)))
    ∙ ap (λ (l : List ℕ). take at (take (at + n) xs) ++ l) (sym (drop-take at n xs))
    ∙ take-append-drop at (take (at + n) xs)

-- the front of what is left, put at the front of a buffer
pub read_front : (bytes into front left : List ℕ) (at n : ℕ) → drop at bytes ≡ left → front ≡ take n left → n ≡ min (length into) (length left)
    → (left ≡ take n (front ++ drop n into) ++ drop (at + n) bytes) × (n ≡ 0 → 0 < length (front ++ drop n into) → drop (at + n) bytes ≡ [])
read_front bytes into front left at n is_left is_front is_n =
    let le : n ≤ length left = omega arith in
    let len : length front ≡ n = ap length is_front ∙ length-take-le n left le in
    let rest : drop n left ≡ drop (at + n) bytes = ap (drop n) (sym is_left) ∙ drop-drop n at bytes in
    let taken : take n (front ++ drop n into) ≡ front = take_at front (drop n into) n len in (
      sym (take-append-drop n left) ∙ ap (λ (l : List ℕ). l ++ drop n left) (sym is_front ∙ sym taken) ∙ ap (λ (l : List ℕ). take n (front ++ drop n into) ++ l) rest,
      λ none some.
          let empty : length left ≡ 0 = omega (arith, ap length (sym taken), length-append front (drop n into), length-drop n into) in
          sym rest ∙ nil_from_length (drop n left) (omega (arith, length-drop n left)),
    )
