-- Lists of pages: which pages are in them, and how many there are at most.
use Rattle.std.proofs.Common.{◌≡◌, ◌⊎◌, inl, inr, ℕ, ◌+◌, ◌<◌, ◌≤◌, Bool, true, false, cond, not, List, [], ◌∷◌, ◌++◌, length, filter, find, Some, None, refl, sym, ap, ◌∙◌, arith, suc, zero, nat_eq, get_or}
use Rattle.std.specs.Prelude.{All, ◌&&◌, ◌||◌}
use Rattle.std.specs.List.{list_any, AllByRecursion}
use Rattle.std.proofs.lemmas.Bool.{cases_eq, cases_Bool, eq-eqb, ne_eqb, eqb-true, eqb-false, or_cases, or_parts, not-true, true≢false}
use Rattle.std.proofs.lemmas.List.{length-append}
use Rattle.std.proofs.lemmas.List.Filters.{length-filter_both}
use Rattle.std.proofs.lemmas.List.Elements.{All-head, All-filter, filter-append, filter_agree, filter_passes}
use Rattle.kern_owner.specs.Owners.{is_among}
use Rattle.kern_owner.proofs.RangeLemmas.{filter_length}
use Rattle.kern_owner.proofs.AmongLemmas.{Ascends, least_of, filter_twice}

-- the other way round
same_flipped : (x y : ℕ) → nat_eq x y ≡ nat_eq y x
same_flipped x y = by (cases_eq x y)
  where
    by : (x ≡ y) ⊎ (x ≡ y → ⊥) → nat_eq x y ≡ nat_eq y x
    by (inl is) = eq-eqb x y is ∙ sym (eq-eqb y x (sym is))
    by (inr isnt) = ne_eqb x y isnt ∙ sym (ne_eqb y x (λ e. isnt (sym e)))

pub among_flipped : (xs : List ℕ) (page : ℕ) → list_any (λ (p : ℕ). nat_eq p page) xs ≡ is_among xs page
among_flipped [] page = refl
among_flipped (x ∷ xs) page = let here = same_flipped x page in let later = among_flipped xs page in λ i. here i || later i

-- none that a search would find is in the list
pub not_found : (test : ℕ → Bool) (xs : List ℕ) (page : ℕ) → find test xs ≡ None → is_among xs page ≡ true → test page ≡ false
not_found test [] page none is = absurd (true≢false (sym is))
not_found test (x ∷ xs) page none is = by (cases_Bool (test x)) (or_cases (nat_eq page x) (is_among xs page) is) (not_found test xs page)
  where
    by : (test x ≡ true) ⊎ (test x ≡ false) → (nat_eq page x ≡ true) ⊎ (is_among xs page ≡ true) → (find test xs ≡ None → is_among xs page ≡ true → test page ≡ false) → test page ≡ false
    by (inl passes) which later =
        let found : Some x ≡ None = sym (ap (λ (b : Bool). cond b (Some x) (find test xs)) passes) ∙ none in absurd (cc)
    by (inr fails) (inl here) later = ap test (eqb-true page x here) ∙ fails
    by (inr fails) (inr there) later = later (sym (ap (λ (b : Bool). cond b (Some x) (find test xs)) fails) ∙ none) there

-- how often a number stands in a list
abbrev pub times : ℕ → List ℕ → ℕ
times x xs = length (filter (λ (p : ℕ). nat_eq p x) xs)

pub times_append : (x : ℕ) (xs ys : List ℕ) → times x (xs ++ ys) ≡ times x xs + times x ys
times_append x xs ys =
    ap (λ (zs : List ℕ). length zs) (filter-append (λ (p : ℕ). nat_eq p x) xs ys) ∙ length-append (filter (λ (p : ℕ). nat_eq p x) xs) (filter (λ (p : ℕ). nat_eq p x) ys)

pub times_none : (x : ℕ) (xs : List ℕ) → is_among xs x ≡ false → times x xs ≡ 0
times_none x [] isnt = refl
times_none x (y ∷ ys) isnt =
    let parts = or_parts (nat_eq x y) (is_among ys x) isnt in
    ap (λ (b : Bool). length (cond b (y ∷ filter (λ (p : ℕ). nat_eq p x) ys) (filter (λ (p : ℕ). nat_eq p x) ys))) (same_flipped y x ∙ parts.0) ∙ times_none x ys parts.1

-- a filter leaves none more often
pub times_filter : (test : ℕ → Bool) (x : ℕ) (xs : List ℕ) → times x (filter test xs) ≤ times x xs
times_filter test x xs =
    let both = filter_twice test (λ (p : ℕ). nat_eq p x) xs in
    let turned = filter_agree (λ (p : ℕ). test p && nat_eq p x) (λ (p : ℕ). nat_eq p x && test p) (λ p. turn (test p) (nat_eq p x)) xs in
    let back = filter_twice (λ (p : ℕ). nat_eq p x) test xs in
    let same = ap (λ (ys : List ℕ). length ys) (both ∙ turned ∙ sym back) in
    let few = filter_length test (filter (λ (p : ℕ). nat_eq p x) xs) in
    omega arith
  where
    turn : (a b : Bool) → (a && b) ≡ (b && a)
    turn true true = refl
    turn true false = refl
    turn false true = refl
    turn false false = refl

times_above : (x : ℕ) (ys : List ℕ) → AllByRecursion (λ y. x + 1 ≤ y) ys → times x ys ≡ 0
times_above x [] all = refl
times_above x (y ∷ ys) all =
    let above = all.0 in
    ap (λ (b : Bool). length (cond b (y ∷ filter (λ (p : ℕ). nat_eq p x) ys) (filter (λ (p : ℕ). nat_eq p x) ys))) (ne_eqb y x (λ e. omega arith)) ∙ times_above x ys all.1

pub times_ascending : (low x : ℕ) (xs : List ℕ) → Ascends low xs → times x xs ≤ 1
times_ascending low x [] up = omega arith
times_ascending low x (y ∷ ys) up = by (cases_eq y x) (times_ascending (y + 1) x ys up.1)
  where
    here : (b : Bool) → nat_eq y x ≡ b → times x (y ∷ ys) ≡ length (cond b (y ∷ filter (λ (p : ℕ). nat_eq p x) ys) (filter (λ (p : ℕ). nat_eq p x) ys))
    here b is = ap (λ (t : Bool). length (cond t (y ∷ filter (λ (p : ℕ). nat_eq p x) ys) (filter (λ (p : ℕ). nat_eq p x) ys))) is

    above : y ≡ x → times x ys ≡ 0
    above is = ap (λ (z : ℕ). times z ys) (sym is) ∙ times_above y ys (least_of (y + 1) ys up.1)

    by : (y ≡ x) ⊎ (y ≡ x → ⊥) → times x ys ≤ 1 → times x (y ∷ ys) ≤ 1
    by (inl is) rest = let first = here true (eq-eqb y x is) in let none = above is in omega arith
    by (inr isnt) rest = let first = here false (ne_eqb y x isnt) in omega arith

-- of numbers below n that stand once each there are at most n
pub few : (n : ℕ) (xs : List ℕ) → All (λ x. x < n) xs → ((x : ℕ) → times x xs ≤ 1) → length xs ≤ n
few zero [] all once = omega arith
few zero (x ∷ xs) all once = let lt = All-head (λ y. y < 0) x xs all in absurd (omega arith)
few (suc n) xs all once =
    let less = few n (filter (λ (p : ℕ). not (nat_eq p n)) xs) below (λ x. let le = times_filter (λ (p : ℕ). not (nat_eq p n)) x xs in let one = once x in omega arith) in
    let split = length-filter_both (λ (p : ℕ). nat_eq p n) (λ (p : ℕ). not (nat_eq p n)) (λ _. refl) xs in
    let one = once n in
    omega arith
  where
    below : All (λ x. x < n) (filter (λ (p : ℕ). not (nat_eq p n)) xs)
    below k d lt =
        let most = All-filter (λ (p : ℕ). not (nat_eq p n)) (λ x. x < suc n) xs all k d lt in
        let other = eqb-false (get_or (filter (λ (p : ℕ). not (nat_eq p n)) xs) k d) n (not-true (nat_eq (get_or (filter (λ (p : ℕ). not (nat_eq p n)) xs) k d) n) (filter_passes (λ (p : ℕ). not (nat_eq p n)) xs k d lt)) in
        omega arith
