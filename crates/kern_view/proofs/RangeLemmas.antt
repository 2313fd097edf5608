use Rattle.std.proofs.Common.{◌≡◌, ◌⊎◌, inl, inr, ℕ, zero, suc, ◌+◌, ◌<◌, ◌≤◌, List, [], ◌∷◌, Bool, true, false, cond, not, ◌&&◌, ◌||◌, ◌==◌, refl, ap, sym, ◌∙◌, arith, subst}
use Rattle.std.specs.List.{range_with_len, filter, list_any, list_all}
use Rattle.std.proofs.lemmas.Bool.{and_parts, and_from, or_from, or_left, or_right, cases_eq, both_ways}
use Rattle.kern_model.specs.KernelTables.{all_ids, stands_in, path_in, path_stands_twice}
use Rattle.tr_types.specs.Paths.{same_text}
use Rattle.kern_view.specs.RuleParts.{has_path}

-- none of those that pass one test passes the other, where none of the range passes both
pub none_passes : (p g : ℕ → Bool) (a n : ℕ) → ((k : ℕ) → a ≤ k → k < a + n → p k && g k ≡ false) → list_any g (filter p (range_with_len a n)) ≡ false
none_passes p g a zero none = refl
none_passes p g a (suc n) none =
    by (p a) refl (none_passes p g (a + 1) n (λ k low high. none k (omega arith) (omega arith)))
  where
    by : (b : Bool) → p a ≡ b → list_any g (filter p (range_with_len (a + 1) n)) ≡ false
        → list_any g (cond b (a ∷ filter p (range_with_len (a + 1) n)) (filter p (range_with_len (a + 1) n))) ≡ false
    by true e rest = or_from (g a) _ (sym (ap (λ (b : Bool). b && g a) e) ∙ none a (omega arith) (omega arith)) rest
    by false e rest = rest

-- one that passes both is among those that pass the one
pub some_passes : (p g : ℕ → Bool) (a n k : ℕ) → a ≤ k → k < a + n → p k ≡ true → g k ≡ true → list_any g (filter p (range_with_len a n)) ≡ true
some_passes p g a zero k low high pk gk = absurd (omega arith)
some_passes p g a (suc n) k low high pk gk =
    by (p a) refl (cases_eq a k) (λ ne. some_passes p g (a + 1) n k (omega arith) (omega arith) pk gk)
  where
    by : (b : Bool) → p a ≡ b → (a ≡ k) ⊎ (a ≡ k → ⊥) → ((a ≡ k → ⊥) → list_any g (filter p (range_with_len (a + 1) n)) ≡ true)
        → list_any g (cond b (a ∷ filter p (range_with_len (a + 1) n)) (filter p (range_with_len (a + 1) n))) ≡ true
    by true e (inl is) rest = or_left (g a) _ (ap g is ∙ gk)
    by true e (inr ne) rest = or_right (g a) _ (rest ne)
    by false e (inl is) rest = absurd (both_ways (p a) e (ap p is ∙ pk))
    by false e (inr ne) rest = rest ne

-- what holds below a number and at it holds below the next
pub one_more : (P : ℕ → Type 0) (low i : ℕ) → ((k : ℕ) → low ≤ k → k < i → P k) → P i → (k : ℕ) → low ≤ k → k < i + 1 → P k
one_more P low i below here k from to = by (cases_eq k i)
  where
    by : (k ≡ i) ⊎ (k ≡ i → ⊥) → P k
    by (inl is) = subst P (sym is) here
    by (inr ne) = below k from (omega arith)

pub stands_once : (pages : ℕ) (at : ℕ → ℕ) (id : ℕ)
    → ((k : ℕ) → 1 ≤ k → k < 257 → not (k == id) && has_path pages at (path_in pages at id) k ≡ false) → path_stands_twice pages at id ≡ false
unfolding all_ids
stands_once pages at id none =
    none_passes (stands_in pages at) (λ other. not (other == id) && same_text (path_in pages at other) (path_in pages at id)) 1 256
    (λ k low high. turned (stands_in pages at k) (not (k == id)) (same_text (path_in pages at k) (path_in pages at id)) ∙ none k low high)
  where
    turned : (x y z : Bool) → x && (y && z) ≡ y && (x && z)
    turned true y z = refl
    turned false true z = refl
    turned false false z = refl

pub stands_twice : (pages : ℕ) (at : ℕ → ℕ) (id k : ℕ)
    → 1 ≤ k → k < 257 → not (k == id) ≡ true → has_path pages at (path_in pages at id) k ≡ true → path_stands_twice pages at id ≡ true
unfolding all_ids
stands_twice pages at id k low high other has =
    let parts = and_parts (stands_in pages at k) (same_text (path_in pages at k) (path_in pages at id)) has in
    some_passes (stands_in pages at) (λ other. not (other == id) && same_text (path_in pages at other) (path_in pages at id)) 1 256 k low high
    parts.0 (and_from (not (k == id)) (same_text (path_in pages at k) (path_in pages at id)) other parts.1)

-- ---- all of those that pass a test

-- not all do where one doesn't
pub one_lacks : (h : ℕ → Bool) (ks : List ℕ) → not (list_all h ks) ≡ list_any (λ k. not (h k)) ks
one_lacks h [] = refl
one_lacks h (k ∷ ks) = by (h k) (one_lacks h ks)
  where
    by : (b : Bool) → not (list_all h ks) ≡ list_any (λ k. not (h k)) ks → not (b && list_all h ks) ≡ not b || list_any (λ k. not (h k)) ks
    by true rest = rest
    by false rest = refl

pub lacks_none : (p h : ℕ → Bool) → ((k : ℕ) → 1 ≤ k → k < 257 → p k && not (h k) ≡ false) → not (list_all h (filter p all_ids)) ≡ false
unfolding all_ids
lacks_none p h none = one_lacks h (filter p (range_with_len 1 256)) ∙ none_passes p (λ k. not (h k)) 1 256 none

pub lacks_some : (p h : ℕ → Bool) (k : ℕ) → 1 ≤ k → k < 257 → p k ≡ true → h k ≡ false → not (list_all h (filter p all_ids)) ≡ true
unfolding all_ids
lacks_some p h k low high pk hk =
    one_lacks h (filter p (range_with_len 1 256)) ∙ some_passes p (λ k. not (h k)) 1 256 k low high pk (ap not hk)

same_of_range : (p g h : ℕ → Bool) (a n : ℕ) → ((k : ℕ) → a ≤ k → k < a + n → g k ≡ h k)
    → list_all g (filter p (range_with_len a n)) ≡ list_all h (filter p (range_with_len a n))
same_of_range p g h a zero same = refl
same_of_range p g h a (suc n) same = by (p a) (same_of_range p g h (a + 1) n (λ k low high. same k (omega arith) (omega arith)))
  where
    by : (b : Bool) → list_all g (filter p (range_with_len (a + 1) n)) ≡ list_all h (filter p (range_with_len (a + 1) n))
        → list_all g (cond b (a ∷ filter p (range_with_len (a + 1) n)) (filter p (range_with_len (a + 1) n)))
        ≡ list_all h (cond b (a ∷ filter p (range_with_len (a + 1) n)) (filter p (range_with_len (a + 1) n)))
    by true rest = ap (λ (b : Bool). b && list_all g (filter p (range_with_len (a + 1) n))) (same a (omega arith) (omega arith)) ∙ ap (λ (b : Bool). h a && b) rest
    by false rest = rest

-- two tests that agree at each number agree of those that pass another
pub same_of_all : (p g h : ℕ → Bool) → ((k : ℕ) → k ≤ 256 → g k ≡ h k) → list_all g (filter p all_ids) ≡ list_all h (filter p all_ids)
unfolding all_ids
same_of_all p g h same = same_of_range p g h 1 256 (λ k low high. same k (omega arith))
