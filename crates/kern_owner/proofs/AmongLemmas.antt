-- Which pages are in a list, and lists in order of their numbers.
use Rattle.std.proofs.Common.{◌≡◌, ◌⊎◌, inl, inr, ℕ, ◌+◌, ◌<◌, ◌≤◌, Bool, true, false, cond, not, List, [], ◌∷◌, ◌++◌, take, drop, filter, refl, sym, ap, ◌∙◌, arith, suc, zero, nat_eq, Less}
use Rattle.std.specs.Prelude.{◌&&◌, ◌||◌, All, ⊤}
use Rattle.std.specs.List.{range_with_len, AllByRecursion, IsDistinct}
use Rattle.std.specs.List.Sorted.{IsPermutation, IsSorted, IsStrictlySortedBy}
use Rattle.std.specs.Ordering.{nat_cmp}
use Rattle.std.proofs.lemmas.Bool.{cases_eq, cases_Bool, eq-eqb, ne_eqb, eqb-true, or_cases}
use Rattle.std.proofs.lemmas.Bool.Decides.{nat_tests}
use Rattle.std.proofs.lemmas.List.Elements.{All-head, All-tail, recursion_from_All}
use Rattle.std.proofs.lemmas.List.Folds.{list_any-append}
use Rattle.std.proofs.lemmas.List.Sorted.{IsNonDecreasingBy-from_sort, list_any-IsPermutation, All-permutation}
use Rattle.std.proofs.lemmas.Map.Keys.{IsDistinct-IsPermutation, IsStrictlyIncreasing-from_distinct, sorted_from_strictly_increasing}
use Rattle.kern_owner.specs.Owners.{is_among, in_order}

-- Filters.

-- two tests that agree on a row of numbers keep the same
pub filter_agree_in : (p q : ℕ → Bool) (a n : ℕ) → ((i : ℕ) → a ≤ i → i < a + n → p i ≡ q i) → filter p (range_with_len a n) ≡ filter q (range_with_len a n)
filter_agree_in p q a zero agree = refl
filter_agree_in p q a (suc n) agree =
    ap (λ (b : Bool). cond b (a ∷ filter p (range_with_len (a + 1) n)) (filter p (range_with_len (a + 1) n))) (agree a (omega arith) (omega arith))
    ∙ ap (λ (xs : List ℕ). cond (q a) (a ∷ xs) xs) (filter_agree_in p q (a + 1) n (λ i low high. agree i (omega arith) (omega arith)))

-- the same on a list
filter_agree_on : (p q : ℕ → Bool) (xs : List ℕ) → AllByRecursion (λ x. p x ≡ q x) xs → filter p xs ≡ filter q xs
filter_agree_on p q [] agree = refl
filter_agree_on p q (x ∷ xs) agree =
    ap (λ (b : Bool). cond b (x ∷ filter p xs) (filter p xs)) agree.0
    ∙ ap (λ (ys : List ℕ). cond (q x) (x ∷ ys) ys) (filter_agree_on p q xs agree.1)

-- a filter of what a filter left
pub filter_twice : (p q : ℕ → Bool) (xs : List ℕ) → filter q (filter p xs) ≡ filter (λ x. p x && q x) xs
filter_twice p q [] = refl
filter_twice p q (x ∷ xs) = by (p x) (filter_twice p q xs)
  where
    by : (b : Bool) → filter q (filter p xs) ≡ filter (λ x. p x && q x) xs
        → filter q (cond b (x ∷ filter p xs) (filter p xs)) ≡ cond (b && q x) (x ∷ filter (λ x. p x && q x) xs) (filter (λ x. p x && q x) xs)
    by true rest = ap (λ (ys : List ℕ). cond (q x) (x ∷ ys) ys) rest
    by false rest = rest

filter_none : (p : ℕ → Bool) (xs : List ℕ) → ((x : ℕ) → p x ≡ false) → filter p xs ≡ []
filter_none p [] none = refl
filter_none p (x ∷ xs) none = ap (λ (b : Bool). cond b (x ∷ filter p xs) (filter p xs)) (none x) ∙ filter_none p xs none

-- Members.

pub among_append : (xs ys : List ℕ) (p : ℕ) → is_among (xs ++ ys) p ≡ (is_among xs p || is_among ys p)
among_append xs ys p = list_any-append (nat_eq p) xs ys

-- one that was kept passes the test
pub among_filter : (test : ℕ → Bool) (xs : List ℕ) (p : ℕ) → is_among (filter test xs) p ≡ (is_among xs p && test p)
among_filter test [] p = refl
among_filter test (x ∷ xs) p = by (cases_eq p x) (cases_Bool (test x)) (among_filter test xs p)
  where
    rest : Bool
    rest = is_among (filter test xs) p

    here : (b : Bool) → test x ≡ b → is_among (filter test (x ∷ xs)) p ≡ is_among (cond b (x ∷ filter test xs) (filter test xs)) p
    here b is = ap (λ (t : Bool). is_among (cond t (x ∷ filter test xs) (filter test xs)) p) is

    by : (p ≡ x) ⊎ (p ≡ x → ⊥) → (test x ≡ true) ⊎ (test x ≡ false) → is_among (filter test xs) p ≡ (is_among xs p && test p)
        → is_among (filter test (x ∷ xs)) p ≡ (is_among (x ∷ xs) p && test p)
    by (inl is) (inl passes) ih =
        here true passes
        ∙ ap (λ (b : Bool). b || is_among (filter test xs) p) (eq-eqb p x is)
        ∙ sym (ap (λ (b : Bool). (b || is_among xs p) && test p) (eq-eqb p x is) ∙ ap test is ∙ passes)
    by (inl is) (inr fails) ih =
        here false fails ∙ ih
        ∙ ap (λ (b : Bool). is_among xs p && b) (ap test is ∙ fails)
        ∙ nothing (is_among xs p)
        ∙ sym (ap (λ (b : Bool). (nat_eq p x || is_among xs p) && b) (ap test is ∙ fails) ∙ nothing (nat_eq p x || is_among xs p))
      where
        nothing : (b : Bool) → (b && false) ≡ false
        nothing true = refl
        nothing false = refl
    by (inr isnt) (inl passes) ih =
        here true passes
        ∙ ap (λ (b : Bool). b || is_among (filter test xs) p) (ne_eqb p x isnt)
        ∙ ih
        ∙ sym (ap (λ (b : Bool). (b || is_among xs p) && test p) (ne_eqb p x isnt))
    by (inr isnt) (inr fails) ih =
        here false fails ∙ ih ∙ sym (ap (λ (b : Bool). (b || is_among xs p) && test p) (ne_eqb p x isnt))

among_below : (a n p : ℕ) → a ≤ p → p < a + n → is_among (range_with_len a n) p ≡ true
among_below a zero p low high = absurd (omega arith)
among_below a (suc n) p low high = by (cases_eq p a) (λ next. among_below (a + 1) n p next (omega arith))
  where
    by : (p ≡ a) ⊎ (p ≡ a → ⊥) → (a + 1 ≤ p → is_among (range_with_len (a + 1) n) p ≡ true) → is_among (range_with_len a (suc n)) p ≡ true
    by (inl is) later = ap (λ (b : Bool). b || is_among (range_with_len (a + 1) n) p) (eq-eqb p a is)
    by (inr isnt) later = ap (λ (b : Bool). b || is_among (range_with_len (a + 1) n) p) (ne_eqb p a isnt) ∙ later (omega arith)

among_past : (a n p : ℕ) → a + n ≤ p → is_among (range_with_len a n) p ≡ false
among_past a zero p high = refl
among_past a (suc n) p high =
    ap (λ (b : Bool). b || is_among (range_with_len (a + 1) n) p) (ne_eqb p a (λ is. omega arith)) ∙ among_past (a + 1) n p (omega arith)

-- the pages below a number that pass a test
pub among_kept : (test : ℕ → Bool) (n p : ℕ) → p < n → is_among (filter test (range_with_len 0 n)) p ≡ test p
among_kept test n p lt =
    among_filter test (range_with_len 0 n) p ∙ ap (λ (b : Bool). b && test p) (among_below 0 n p (omega arith) (omega arith))

-- a member of a list whose elements are below a number is below it
pub among_within : (n : ℕ) (list : List ℕ) (p : ℕ) → All (λ x. x < n) list → is_among list p ≡ true → p < n
among_within n [] p all is = absurd (cc)
among_within n (x ∷ xs) p all is = by (or_cases (nat_eq p x) (is_among xs p) is) (λ t. among_within n xs p (All-tail (λ y. y < n) x xs all) t)
  where
    by : (nat_eq p x ≡ true) ⊎ (is_among xs p ≡ true) → (is_among xs p ≡ true → p < n) → p < n
    by (inl here) later = let is = eqb-true p x here in let lt = All-head (λ y. y < n) x xs all in omega arith
    by (inr there) later = later there

-- the same pages are in a list that is put in order
pub among_in_order : (pages : ℕ) (list : List ℕ) (p : ℕ) → All (λ x. x < pages) list → is_among (in_order pages list) p ≡ is_among list p
among_in_order pages list p all = by (cases_Bool (is_among list p))
  where
    by : (is_among list p ≡ true) ⊎ (is_among list p ≡ false) → is_among (in_order pages list) p ≡ is_among list p
    by (inl is) = among_kept (is_among list) pages p (among_within pages list p all is)
    by (inr isnt) = among_filter (is_among list) (range_with_len 0 pages) p ∙ ap (λ (b : Bool). is_among (range_with_len 0 pages) p && b) isnt ∙ nothing (is_among (range_with_len 0 pages) p) ∙ sym isnt
      where
        nothing : (b : Bool) → (b && false) ≡ false
        nothing true = refl
        nothing false = refl

pub among_take : (count : ℕ) (xs : List ℕ) (p : ℕ) → is_among (take count xs) p ≡ true → is_among xs p ≡ true
among_take zero xs p is = absurd (cc)
among_take (suc count) [] p is = is
among_take (suc count) (x ∷ xs) p is = by (or_cases (nat_eq p x) (is_among (take count xs) p) is) (among_take count xs p)
  where
    by : (nat_eq p x ≡ true) ⊎ (is_among (take count xs) p ≡ true) → (is_among (take count xs) p ≡ true → is_among xs p ≡ true) → is_among (x ∷ xs) p ≡ true
    by (inl here) later = ap (λ (b : Bool). b || is_among xs p) here
    by (inr there) later = either (nat_eq p x) (later there)
      where
        either : (b : Bool) → is_among xs p ≡ true → (b || is_among xs p) ≡ true
        either true t = refl
        either false t = t

-- Lists in order.

-- each number is at least `low`, and above those before it
abbrev pub Ascends : ℕ → List ℕ → Type 0
Ascends low [] = ⊤
Ascends low (x ∷ xs) = (low ≤ x) × Ascends (x + 1) xs

lower : (low less : ℕ) (xs : List ℕ) → less ≤ low → Ascends low xs → Ascends less xs
lower low less [] le up = tt
lower low less (x ∷ xs) le up = (let first = up.0 in omega arith, up.1)

-- each is at least the least
pub least_of : (low : ℕ) (xs : List ℕ) → Ascends low xs → AllByRecursion (λ x. low ≤ x) xs
least_of low [] up = tt
least_of low (x ∷ xs) up = (up.0, least_of low xs (lower (x + 1) low xs (let first = up.0 in omega arith) up.1))

past_low : (low p : ℕ) (xs : List ℕ) → Ascends low xs → p < low → is_among xs p ≡ false
past_low low p [] up lt = refl
past_low low p (x ∷ xs) up lt =
    let first = up.0 in
    ap (λ (b : Bool). b || is_among xs p) (ne_eqb p x (λ is. omega arith)) ∙ past_low (x + 1) p xs up.1 (omega arith)

-- a list in order is the pages that are in it
members : (a n : ℕ) (xs : List ℕ) → Ascends a xs → AllByRecursion (λ x. x < a + n) xs → xs ≡ filter (is_among xs) (range_with_len a n)
members a zero [] up within = refl
members a zero (x ∷ xs) up within = let first = up.0 in let last = within.0 in absurd (omega arith)
members a (suc n) [] up within = sym (filter_none (is_among []) (range_with_len a (suc n)) (λ i. refl))
members a (suc n) (x ∷ xs) up within =
    by (cases_eq a x) (λ tail_up tail_within. members (a + 1) n xs tail_up tail_within) (λ all_up all_within. members (a + 1) n (x ∷ xs) all_up all_within)
  where
    sum : a + 1 + n ≡ a + suc n
    sum = omega arith

    further : (ys : List ℕ) → AllByRecursion (λ y. y < a + suc n) ys → AllByRecursion (λ y. y < a + 1 + n) ys
    further [] all = tt
    further (y ∷ ys) all = (let lt = all.0 in omega arith, further ys all.1)

    by : (a ≡ x) ⊎ (a ≡ x → ⊥)
        → (Ascends (a + 1) xs → AllByRecursion (λ y. y < a + 1 + n) xs → xs ≡ filter (is_among xs) (range_with_len (a + 1) n))
        → (Ascends (a + 1) (x ∷ xs) → AllByRecursion (λ y. y < a + 1 + n) (x ∷ xs) → x ∷ xs ≡ filter (is_among (x ∷ xs)) (range_with_len (a + 1) n))
        → x ∷ xs ≡ filter (is_among (x ∷ xs)) (range_with_len a (suc n))
    by (inl is) tail_is all_is =
        let tail_up = lower (x + 1) (a + 1) xs (omega arith) up.1 in
        ap (λ (ys : List ℕ). x ∷ ys) (tail_is tail_up (further xs within.1))
        ∙ ap (λ (y : ℕ). y ∷ filter (is_among xs) (range_with_len (a + 1) n)) (sym is)
        ∙ ap (λ (ys : List ℕ). a ∷ ys)
        (filter_agree_in (is_among xs) (is_among (x ∷ xs)) (a + 1) n (λ i low high. sym (ap (λ (b : Bool). b || is_among xs i) (ne_eqb i x (λ e. omega arith)))))
        ∙ sym (ap (λ (b : Bool). cond b (a ∷ filter (is_among (x ∷ xs)) (range_with_len (a + 1) n)) (filter (is_among (x ∷ xs)) (range_with_len (a + 1) n)))
        (ap (λ (b : Bool). b || is_among xs a) (eq-eqb a x is)))
    by (inr isnt) tail_is all_is =
        let first = up.0 in
        let last = within.0 in
        let above : a + 1 ≤ x = omega arith in
        all_is (above, up.1) (omega arith, further xs within.1)
        ∙ sym (ap (λ (b : Bool). cond b (a ∷ filter (is_among (x ∷ xs)) (range_with_len (a + 1) n)) (filter (is_among (x ∷ xs)) (range_with_len (a + 1) n)))
        (past_low (a + 1) a (x ∷ xs) (above, up.1) (omega arith)))

pub in_order_is : (pages : ℕ) (list : List ℕ) → Ascends 0 list → All (λ x. x < pages) list → list ≡ in_order pages list
in_order_is pages list up all = members 0 pages list up (further list (recursion_from_All (λ x. x < pages) list all))
  where
    further : (ys : List ℕ) → AllByRecursion (λ y. y < pages) ys → AllByRecursion (λ y. y < 0 + pages) ys
    further [] all = tt
    further (y ∷ ys) all = (let lt = all.0 in omega arith, further ys all.1)

-- the pages that pass a test are in order
pub ascends_kept : (test : ℕ → Bool) (a n : ℕ) → Ascends a (filter test (range_with_len a n))
ascends_kept test a zero = tt
ascends_kept test a (suc n) = by (test a) (ascends_kept test (a + 1) n)
  where
    by : (b : Bool) → Ascends (a + 1) (filter test (range_with_len (a + 1) n)) → Ascends a (cond b (a ∷ filter test (range_with_len (a + 1) n)) (filter test (range_with_len (a + 1) n)))
    by true rest = (omega arith, rest)
    by false rest = lower (a + 1) a (filter test (range_with_len (a + 1) n)) (omega arith) rest

-- what isn't among the first of a list in order is what is left
pub rest_is : (low count : ℕ) (xs : List ℕ) → Ascends low xs → filter (λ p. not (is_among (take count xs) p)) xs ≡ drop count xs
rest_is low zero xs up = keep xs
  where
    keep : (ys : List ℕ) → filter (λ p. not (is_among [] p)) ys ≡ ys
    keep [] = refl
    keep (y ∷ ys) = ap (λ (zs : List ℕ). y ∷ zs) (keep ys)
rest_is low (suc count) [] up = refl
rest_is low (suc count) (x ∷ xs) up =
    ap (λ (b : Bool). cond (not (b || is_among (take count xs) x)) (x ∷ filter (λ p. not (is_among (take (suc count) (x ∷ xs)) p)) xs) (filter (λ p. not (is_among (take (suc count) (x ∷ xs)) p)) xs)) (eq-eqb x x refl)
    ∙ filter_agree_on (λ p. not (is_among (take (suc count) (x ∷ xs)) p)) (λ p. not (is_among (take count xs) p)) xs (agree xs (least_of (x + 1) xs up.1))
    ∙ rest_is (x + 1) count xs up.1
  where
    agree : (ys : List ℕ) → AllByRecursion (λ y. x + 1 ≤ y) ys → AllByRecursion (λ p. not (is_among (take (suc count) (x ∷ xs)) p) ≡ not (is_among (take count xs) p)) ys
    agree [] all = tt
    agree (y ∷ ys) all = (let lt = all.0 in ap (λ (b : Bool). not (b || is_among (take count xs) y)) (ne_eqb y x (λ is. omega arith)), agree ys all.1)

-- A list that was sorted.

less : (x y : ℕ) → nat_cmp x y ≡ Less → x < y
less x y is = grind (arith, nat_tests)

ascends_sorted : (low : ℕ) (xs : List ℕ) → IsStrictlySortedBy nat_cmp xs → AllByRecursion (λ x. low ≤ x) xs → Ascends low xs
unfolding IsStrictlySortedBy
ascends_sorted low [] sorted all = tt
ascends_sorted low (x ∷ xs) sorted all = (all.0, ascends_sorted (x + 1) xs sorted.1 (above xs sorted.0))
  where
    above : (ys : List ℕ) → AllByRecursion (λ y. nat_cmp x y ≡ Less) ys → AllByRecursion (λ y. x + 1 ≤ y) ys
    above [] all = tt
    above (y ∷ ys) all = (let lt = less x y all.0 in omega arith, above ys all.1)

-- different pages, sorted, are the pages in order
pub sorted_is : (pages : ℕ) (list sorted : List ℕ) → All (λ x. x < pages) list → IsDistinct nat_eq list → IsPermutation list sorted → IsSorted nat_cmp sorted → sorted ≡ in_order pages list
sorted_is pages list sorted within differ moved up =
    let rising = IsStrictlyIncreasing-from_distinct sorted (IsNonDecreasingBy-from_sort (λ x. x) sorted up) (IsDistinct-IsPermutation nat_eq flips list sorted moved differ) in
    in_order_is pages sorted (ascends_sorted 0 sorted (sorted_from_strictly_increasing sorted rising) (low sorted)) (All-permutation (λ x. x < pages) list sorted moved within)
    ∙ filter_agree_in (is_among sorted) (is_among list) 0 pages (λ i from to. sym (list_any-IsPermutation (nat_eq i) list sorted moved))
  where
    flips : (x y : ℕ) → nat_eq x y ≡ nat_eq y x
    flips x y = by (cases_eq x y)
      where
        by : (x ≡ y) ⊎ (x ≡ y → ⊥) → nat_eq x y ≡ nat_eq y x
        by (inl is) = eq-eqb x y is ∙ sym (eq-eqb y x (sym is))
        by (inr isnt) = ne_eqb x y isnt ∙ sym (ne_eqb y x (λ e. isnt (sym e)))

    low : (ys : List ℕ) → AllByRecursion (λ y. 0 ≤ y) ys
    low [] = tt
    low (y ∷ ys) = (omega arith, low ys)
