-- Lists of numbers: which tests all or some of them pass, and how many differ.
use Rattle.std.proofs.Common.{◌≡◌, ℕ, zero, suc, ◌+◌, ◌<◌, ◌≤◌, ◌⊎◌, List, [], ◌∷◌, filter, Bool, true, false, cond, nat_eq, refl, ap, sym, ◌∙◌, inl, inr, arith, eq-eqb, eqb-true}
use Rattle.std.specs.List.{range_with_len, list_any, list_all}
use Rattle.std.proofs.lemmas.Bool.{and_parts, and_from, or_parts, or_from, or_left, or_right, or_cases, cases_eq, cases_Bool, true≢false}
use Rattle.kern_model.specs.KernelTables.{all_ids, is_in_chain}

-- What holds of all elements of a list, and of each that is in it.

pub all_at : (p : ℕ → Bool) (xs : List ℕ) (x : ℕ) → list_all p xs ≡ true → is_in_chain x xs ≡ true → p x ≡ true
all_at p [] x all h = absurd (true≢false (sym h))
all_at p (y ∷ ys) x all h = by (or_cases (nat_eq x y) (is_in_chain x ys) h) (all_at p ys x (and_parts (p y) (list_all p ys) all).1)
  where
    by : (nat_eq x y ≡ true) ⊎ (is_in_chain x ys ≡ true) → (is_in_chain x ys ≡ true → p x ≡ true) → p x ≡ true
    by (inl e) more = ap p (eqb-true x y e) ∙ (and_parts (p y) (list_all p ys) all).0
    by (inr e) more = more e

pub in_first : (x : ℕ) (xs : List ℕ) → is_in_chain x (x ∷ xs) ≡ true
in_first x xs = or_left (nat_eq x x) (is_in_chain x xs) (eq-eqb x x refl)

pub in_rest : (x y : ℕ) (xs : List ℕ) → is_in_chain x xs ≡ true → is_in_chain x (y ∷ xs) ≡ true
in_rest x y xs h = or_right (nat_eq x y) (is_in_chain x xs) h

pub in_cases : (x y : ℕ) (xs : List ℕ) → is_in_chain x (y ∷ xs) ≡ true → (x ≡ y) ⊎ (is_in_chain x xs ≡ true)
in_cases x y xs h = by (or_cases (nat_eq x y) (is_in_chain x xs) h)
  where
    by : (nat_eq x y ≡ true) ⊎ (is_in_chain x xs ≡ true) → (x ≡ y) ⊎ (is_in_chain x xs ≡ true)
    by (inl e) = inl (eqb-true x y e)
    by (inr e) = inr e

pub all_from : (p : ℕ → Bool) (xs : List ℕ) → ((x : ℕ) → is_in_chain x xs ≡ true → p x ≡ true) → list_all p xs ≡ true
all_from p [] each = refl
all_from p (y ∷ ys) each = and_from (p y) (list_all p ys) (each y (in_first y ys)) (all_from p ys (λ x h. each x (in_rest x y ys h)))

-- The numbers 1 to 256.

range_has : (n a x : ℕ) → a ≤ x → x < a + n → is_in_chain x (range_with_len a n) ≡ true
range_has zero a x l h = absurd (omega arith)
range_has (suc n) a x l h = by (cases_eq x a) (λ ne. range_has n (a + 1) x (omega arith) (omega arith))
  where
    by : (x ≡ a) ⊎ (x ≡ a → ⊥) → ((x ≡ a → ⊥) → is_in_chain x (range_with_len (a + 1) n) ≡ true) → is_in_chain x (a ∷ range_with_len (a + 1) n) ≡ true
    by (inl e) more = or_left (nat_eq x a) (is_in_chain x (range_with_len (a + 1) n)) (eq-eqb x a e)
    by (inr ne) more = in_rest x a (range_with_len (a + 1) n) (more ne)

range_only : (n a x : ℕ) → is_in_chain x (range_with_len a n) ≡ true → (a ≤ x) × (x < a + n)
range_only zero a x h = absurd (true≢false (sym h))
range_only (suc n) a x h = by (in_cases x a (range_with_len (a + 1) n) h) (range_only n (a + 1) x)
  where
    by : (x ≡ a) ⊎ (is_in_chain x (range_with_len (a + 1) n) ≡ true) → (is_in_chain x (range_with_len (a + 1) n) ≡ true → (a + 1 ≤ x) × (x < a + 1 + n)) → (a ≤ x) × (x < a + suc n)
    by (inl e) more = (omega arith, omega arith)
    by (inr e) more = let m = more e in (omega arith, omega arith)

ids_range : all_ids ≡ range_with_len 1 256
unfolding all_ids
ids_range = refl

pub id_in_all : (id : ℕ) → 1 ≤ id → id ≤ 256 → is_in_chain id all_ids ≡ true
id_in_all id l m = ap (is_in_chain id) ids_range ∙ range_has 256 1 id l (omega arith)

pub all_are_ids : (id : ℕ) → is_in_chain id all_ids ≡ true → (1 ≤ id) × (id ≤ 256)
all_are_ids id h = let r = range_only 256 1 id (sym (ap (is_in_chain id) ids_range) ∙ h) in (r.0, omega arith)

-- What stays where a test picks some.

pub in_filter : (p : ℕ → Bool) (xs : List ℕ) (x : ℕ) → is_in_chain x xs ≡ true → p x ≡ true → is_in_chain x (filter p xs) ≡ true
in_filter p [] x h e = h
in_filter p (y ∷ ys) x h e = by (in_cases x y ys h) (cases_Bool (p y)) (λ r. in_filter p ys x r e)
  where
    by : (x ≡ y) ⊎ (is_in_chain x ys ≡ true) → (p y ≡ true) ⊎ (p y ≡ false) → (is_in_chain x ys ≡ true → is_in_chain x (filter p ys) ≡ true)
        → is_in_chain x (cond (p y) (y ∷ filter p ys) (filter p ys)) ≡ true
    by (inl f) (inl t) more = ap (λ (b : Bool). is_in_chain x (cond b (y ∷ filter p ys) (filter p ys))) t ∙ or_left (nat_eq x y) _ (eq-eqb x y f)
    by (inl f) (inr t) more = absurd (true≢false (sym e ∙ ap p f ∙ t))
    by (inr r) (inl t) more = ap (λ (b : Bool). is_in_chain x (cond b (y ∷ filter p ys) (filter p ys))) t ∙ in_rest x y (filter p ys) (more r)
    by (inr r) (inr t) more = ap (λ (b : Bool). is_in_chain x (cond b (y ∷ filter p ys) (filter p ys))) t ∙ more r

pub from_filter : (p : ℕ → Bool) (xs : List ℕ) (x : ℕ) → is_in_chain x (filter p xs) ≡ true → (is_in_chain x xs ≡ true) × (p x ≡ true)
from_filter p [] x h = absurd (true≢false (sym h))
from_filter p (y ∷ ys) x h = by (cases_Bool (p y)) (from_filter p ys x)
  where
    by : (p y ≡ true) ⊎ (p y ≡ false) → (is_in_chain x (filter p ys) ≡ true → (is_in_chain x ys ≡ true) × (p x ≡ true)) → (is_in_chain x (y ∷ ys) ≡ true) × (p x ≡ true)
    by (inl t) more =
        part (in_cases x y (filter p ys) (sym (ap (λ (b : Bool). is_in_chain x (cond b (y ∷ filter p ys) (filter p ys))) t) ∙ h))
      where
        part : (x ≡ y) ⊎ (is_in_chain x (filter p ys) ≡ true) → (is_in_chain x (y ∷ ys) ≡ true) × (p x ≡ true)
        part (inl e) = (or_left (nat_eq x y) (is_in_chain x ys) (eq-eqb x y e), ap p e ∙ t)
        part (inr e) = (in_rest x y ys (more e).0, (more e).1)
    by (inr t) more =
        let m = more (sym (ap (λ (b : Bool). is_in_chain x (cond b (y ∷ filter p ys) (filter p ys))) t) ∙ h) in
        (in_rest x y ys m.0, m.1)

-- No element of a list passes a test.

pub none_passes : (p : ℕ → Bool) (xs : List ℕ) → ((x : ℕ) → is_in_chain x xs ≡ true → p x ≡ false) → list_any p xs ≡ false
none_passes p [] each = refl
none_passes p (y ∷ ys) each = or_from (p y) (list_any p ys) (each y (in_first y ys)) (none_passes p ys (λ x h. each x (in_rest x y ys h)))

pub not_passed : (p : ℕ → Bool) (xs : List ℕ) (x : ℕ) → list_any p xs ≡ false → is_in_chain x xs ≡ true → p x ≡ false
not_passed p [] x none h = absurd (true≢false (sym h))
not_passed p (y ∷ ys) x none h = by (in_cases x y ys h) (not_passed p ys x (or_parts (p y) (list_any p ys) none).1)
  where
    by : (x ≡ y) ⊎ (is_in_chain x ys ≡ true) → (is_in_chain x ys ≡ true → p x ≡ false) → p x ≡ false
    by (inl e) more = ap p e ∙ (or_parts (p y) (list_any p ys) none).0
    by (inr e) more = more e

pub passes_one : (p : ℕ → Bool) (xs : List ℕ) (x : ℕ) → is_in_chain x xs ≡ true → p x ≡ true → list_any p xs ≡ true
passes_one p xs x i t = by (cases_Bool (list_any p xs))
  where
    by : (list_any p xs ≡ true) ⊎ (list_any p xs ≡ false) → list_any p xs ≡ true
    by (inl e) = e
    by (inr e) = absurd (true≢false (sym t ∙ not_passed p xs x e i))
