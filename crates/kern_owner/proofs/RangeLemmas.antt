-- The numbers of a row that pass a test, one after another.
use Rattle.std.proofs.Common.{◌≡◌, ℕ, ◌+◌, ◌-◌, ◌<◌, ◌≤◌, Bool, true, false, cond, List, [], ◌∷◌, ◌++◌, length, take, filter, get_or, sym, ap, ◌∙◌, arith, suc, zero}
use Rattle.std.specs.List.{range_with_len}
use Rattle.std.proofs.lemmas.List.{map-id, length-append, take_at, append-nil}
use Rattle.std.specs.Prelude.{All}
use Rattle.std.proofs.lemmas.List.Elements.{filter-append, All-filter, All-from_get_or}
use Rattle.std.proofs.lemmas.List.FromFn.{filter_of_map_range_with_len_more, length-range_with_len, get_or-range_with_len}

-- those below a number, the least first
abbrev pub below : (ℕ → Bool) → ℕ → List ℕ
below test n = filter test (range_with_len 0 n)

pub below_more : (test : ℕ → Bool) (n : ℕ) → below test (n + 1) ≡ below test n ++ cond (test n) (n ∷ []) []
below_more test n =
    ap (λ (xs : List ℕ). filter test xs) (sym (map-id (range_with_len 0 (n + 1))))
    ∙ filter_of_map_range_with_len_more test (λ (i : ℕ). i) 0 n n (omega arith)
    ∙ ap (λ (xs : List ℕ). filter test xs ++ cond (test n) (n ∷ []) []) (map-id (range_with_len 0 n))

pub below_taken : (test : ℕ → Bool) (n : ℕ) → test n ≡ true → below test (n + 1) ≡ below test n ++ n ∷ []
below_taken test n is = below_more test n ∙ ap (λ (b : Bool). below test n ++ cond b (n ∷ []) []) is

pub below_left : (test : ℕ → Bool) (n : ℕ) → test n ≡ false → below test (n + 1) ≡ below test n
below_left test n isnt = below_more test n ∙ ap (λ (b : Bool). below test n ++ cond b (n ∷ []) []) isnt ∙ append-nil (below test n)

pub range_split : (a n m : ℕ) → range_with_len a (n + m) ≡ range_with_len a n ++ range_with_len (a + n) m
range_split a zero m =
    let whole : 0 + m ≡ m = omega arith in
    let same : a ≡ a + 0 = omega arith in
    ap (λ (k : ℕ). range_with_len a k) whole ∙ ap (λ (b : ℕ). range_with_len b m) same
range_split a (suc n) m =
    let more : suc n + m ≡ suc (n + m) = omega arith in
    let start : a + 1 + n ≡ a + suc n = omega arith in
    ap (λ (k : ℕ). range_with_len a k) more
    ∙ ap (λ (xs : List ℕ). a ∷ xs) (range_split (a + 1) n m ∙ ap (λ (b : ℕ). range_with_len (a + 1) n ++ range_with_len b m) start)

pub below_split : (test : ℕ → Bool) (n m : ℕ) → n ≤ m → below test m ≡ below test n ++ filter test (range_with_len n (m - n))
below_split test n m le =
    let whole : m ≡ n + (m - n) = omega arith in
    let start : 0 + n ≡ n = omega arith in
    ap (λ (k : ℕ). below test k) whole
    ∙ ap (λ (xs : List ℕ). filter test xs) (range_split 0 n (m - n))
    ∙ filter-append test (range_with_len 0 n) (range_with_len (0 + n) (m - n))
    ∙ ap (λ (b : ℕ). below test n ++ filter test (range_with_len b (m - n))) start

pub filter_length : (test : ℕ → Bool) (xs : List ℕ) → length (filter test xs) ≤ length xs
filter_length test [] = omega arith
filter_length test (x ∷ xs) = by (test x) (filter_length test xs)
  where
    by : (b : Bool) → length (filter test xs) ≤ length xs → length (cond b (x ∷ filter test xs) (filter test xs)) ≤ suc (length xs)
    by true rest = omega arith
    by false rest = omega arith

pub below_length : (test : ℕ → Bool) (n : ℕ) → length (below test n) ≤ n
below_length test n = let kept = filter_length test (range_with_len 0 n) in let size = length-range_with_len 0 n in omega arith

pub below_rises : (test : ℕ → Bool) (n m : ℕ) → n ≤ m → length (below test n) ≤ length (below test m)
below_rises test n m le =
    let size = ap (λ (xs : List ℕ). length xs) (below_split test n m le) ∙ length-append (below test n) (filter test (range_with_len n (m - n))) in
    omega arith

-- where enough were found, these are the first
pub first_below : (test : ℕ → Bool) (n m most : ℕ) (list : List ℕ) → n ≤ m → list ≡ below test n → length list ≡ most → list ≡ take most (below test m)
first_below test n m most list le is size =
    is ∙ sym (ap (λ (xs : List ℕ). take most xs) (below_split test n m le)
    ∙ take_at (below test n) (filter test (range_with_len n (m - n))) most (sym (ap (λ (xs : List ℕ). length xs) is) ∙ size))

-- one number more, where they are counted
pub counted : (test : ℕ → Bool) (n count : ℕ) → count ≡ length (below test n) → test n ≡ true → count + 1 ≡ length (below test (n + 1))
counted test n count is passes =
    let size = ap (λ (xs : List ℕ). length xs) (below_taken test n passes) ∙ length-append (below test n) (n ∷ []) in
    omega arith

pub counted_not : (test : ℕ → Bool) (n count : ℕ) → count ≡ length (below test n) → test n ≡ false → count ≡ length (below test (n + 1))
counted_not test n count is fails = is ∙ ap (λ (xs : List ℕ). length xs) (sym (below_left test n fails))

-- and where they are gathered
pub gathered : (test : ℕ → Bool) (n : ℕ) (old new : List ℕ) → old ≡ below test n → new ≡ old ++ n ∷ [] → test n ≡ true → new ≡ below test (n + 1)
gathered test n old new is pushed passes = pushed ∙ ap (λ (xs : List ℕ). xs ++ n ∷ []) is ∙ sym (below_taken test n passes)

pub gathered_not : (test : ℕ → Bool) (n : ℕ) (list : List ℕ) → list ≡ below test n → test n ≡ false → list ≡ below test (n + 1)
gathered_not test n list is fails = is ∙ sym (below_left test n fails)

-- all are below the number
pub within : (test : ℕ → Bool) (n : ℕ) → All (λ i. i < n) (below test n)
within test n = All-filter test (λ i. i < n) (range_with_len 0 n) (All-from_get_or (λ i. i < n) (range_with_len 0 n) 0 at)
  where
    at : (i : ℕ) → i < length (range_with_len 0 n) → get_or (range_with_len 0 n) i 0 < n
    at i lt =
        let size = length-range_with_len 0 n in
        let is = get_or-range_with_len 0 n i 0 (omega arith) in
        omega arith
