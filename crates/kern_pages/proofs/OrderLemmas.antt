-- A page more or less in the list of those that pass a test, the least first.
use Rattle.std.proofs.Common.{◌≡◌, ◌≢◌, ◌⊎◌, inl, inr, ◌∙◌, ℕ, zero, suc, ◌+◌, ◌<◌, ◌≤◌, Bool, true, false, cond, List, [], ◌∷◌, ◌++◌, filter, nat_eq, refl, sym, ap, arith, Ordering, Less, Equal, Greater}
use Rattle.std.specs.List.{range_with_len}
use Rattle.std.specs.Ordering.{nat_cmp, match_ordering, is_eq}
use Rattle.std.specs.BTreeMap.{is_at}
use Rattle.std.specs.BTreeSet.{insert_key}
use Rattle.std.specs.Set.{remove_key}
use Rattle.std.proofs.lemmas.Bool.{lt-ltb, le-ltb, eq-eqb, ne_eqb, cases_eq}
use Rattle.kern_owner.proofs.AmongLemmas.{filter_agree_in}

less : (x y : ℕ) → x < y → nat_cmp x y ≡ Less
less x y lt = ap (λ (b : Bool). cond b Less (cond (nat_eq x y) Equal Greater)) (lt-ltb x y lt)

greater : (x y : ℕ) → y < x → nat_cmp x y ≡ Greater
greater x y lt =
    let apart : x ≡ y → ⊥ = λ same. omega arith in
    ap (λ (b : Bool). cond b Less (cond (nat_eq x y) Equal Greater)) (le-ltb x y (omega arith)) ∙ ap (λ (b : Bool). cond b Equal Greater) (ne_eqb x y apart)

equal : (x y : ℕ) → x ≡ y → nat_cmp x y ≡ Equal
equal x y same =
    ap (λ (b : Bool). cond b Less (cond (nat_eq x y) Equal Greater)) (le-ltb x y (omega arith)) ∙ ap (λ (b : Bool). cond b Equal Greater) (eq-eqb x y same)

-- where the first of them is a, or isn't there
insert_first : (page a : ℕ) (rest : List ℕ) → page < a → (b : Bool) → insert_key nat_cmp rest page ≡ page ∷ rest → insert_key nat_cmp (cond b (a ∷ rest) rest) page ≡ page ∷ cond b (a ∷ rest) rest
insert_first page a rest lt true more = ap (λ (o : Ordering). match_ordering o (page ∷ a ∷ rest) (a ∷ rest) (a ∷ insert_key nat_cmp rest page)) (less page a lt)
insert_first page a rest lt false more = more

insert_later : (page a : ℕ) (rest after : List ℕ) → a < page → (b : Bool) → insert_key nat_cmp rest page ≡ after → insert_key nat_cmp (cond b (a ∷ rest) rest) page ≡ cond b (a ∷ after) after
insert_later page a rest after lt true more =
    ap (λ (o : Ordering). match_ordering o (page ∷ a ∷ rest) (a ∷ rest) (a ∷ insert_key nat_cmp rest page)) (greater page a lt)
    ∙ ap (λ (xs : List ℕ). a ∷ xs) more
insert_later page a rest after lt false more = more

remove_later : (page a : ℕ) (rest after : List ℕ) → a < page → (b : Bool) → remove_key (is_at (nat_cmp page)) rest ≡ after → remove_key (is_at (nat_cmp page)) (cond b (a ∷ rest) rest) ≡ cond b (a ∷ after) after
remove_later page a rest after lt true more =
    ap (λ (o : Ordering). cond (is_eq o) rest (a ∷ remove_key (is_at (nat_cmp page)) rest)) (greater page a lt)
    ∙ ap (λ (xs : List ℕ). a ∷ xs) more
remove_later page a rest after lt false more = more

-- before all of them
insert_front : (p : ℕ → Bool) (page a n : ℕ) → page < a → insert_key nat_cmp (filter p (range_with_len a n)) page ≡ page ∷ filter p (range_with_len a n)
insert_front p page a zero lt = refl
insert_front p page a (suc n) lt = insert_first page a (filter p (range_with_len (a + 1) n)) lt (p a) (insert_front p page (a + 1) n (omega arith))

cond_push : (b : Bool) (a page : ℕ) (rest : List ℕ) → cond b (a ∷ (rest ++ page ∷ [])) (rest ++ page ∷ []) ≡ cond b (a ∷ rest) rest ++ page ∷ []
cond_push true a page rest = refl
cond_push false a page rest = refl

-- behind all of them
pub insert_back : (p : ℕ → Bool) (page a n : ℕ) → a + n ≤ page → insert_key nat_cmp (filter p (range_with_len a n)) page ≡ filter p (range_with_len a n) ++ page ∷ []
insert_back p page a zero le = refl
insert_back p page a (suc n) le =
    insert_later page a (filter p (range_with_len (a + 1) n)) (filter p (range_with_len (a + 1) n) ++ page ∷ []) (omega arith) (p a) (insert_back p page (a + 1) n (omega arith))
    ∙ cond_push (p a) a page (filter p (range_with_len (a + 1) n))

-- q is p, but for one page
module _ (p q : ℕ → Bool) (page : ℕ) (others : (i : ℕ) → i ≢ page → p i ≡ q i) where
  -- where that page comes first, the others are the same
  rest_same : (a n : ℕ) → a ≡ page → filter p (range_with_len (a + 1) n) ≡ filter q (range_with_len (a + 1) n)
  rest_same a n here = filter_agree_in p q (a + 1) n (λ i low high. others i (λ (same : i ≡ page). omega arith))

  insert_here : p page ≡ false → q page ≡ true → (a n : ℕ) → a ≡ page → insert_key nat_cmp (filter p (range_with_len a (suc n))) page ≡ filter q (range_with_len a (suc n))
  insert_here was is a n here =
      ap (λ (b : Bool). insert_key nat_cmp (cond b (a ∷ filter p (range_with_len (a + 1) n)) (filter p (range_with_len (a + 1) n))) page) (ap p here ∙ was)
      ∙ insert_front p page (a + 1) n (omega arith)
      ∙ ap (λ (xs : List ℕ). page ∷ xs) (rest_same a n here)
      ∙ ap (λ (k : ℕ). k ∷ filter q (range_with_len (a + 1) n)) (sym here)
      ∙ ap (λ (b : Bool). cond b (a ∷ filter q (range_with_len (a + 1) n)) (filter q (range_with_len (a + 1) n))) (sym (ap q here ∙ is))

  remove_here : p page ≡ true → q page ≡ false → (a n : ℕ) → a ≡ page → remove_key (is_at (nat_cmp page)) (filter p (range_with_len a (suc n))) ≡ filter q (range_with_len a (suc n))
  remove_here was is a n here =
      ap (λ (b : Bool). remove_key (is_at (nat_cmp page)) (cond b (a ∷ filter p (range_with_len (a + 1) n)) (filter p (range_with_len (a + 1) n)))) (ap p here ∙ was)
      ∙ ap (λ (o : Ordering). cond (is_eq o) (filter p (range_with_len (a + 1) n)) (a ∷ remove_key (is_at (nat_cmp page)) (filter p (range_with_len (a + 1) n)))) (equal page a (sym here))
      ∙ rest_same a n here
      ∙ ap (λ (b : Bool). cond b (a ∷ filter q (range_with_len (a + 1) n)) (filter q (range_with_len (a + 1) n))) (sym (ap q here ∙ is))

  pub insert_along : p page ≡ false → q page ≡ true → (a n : ℕ) → a ≤ page → page < a + n → insert_key nat_cmp (filter p (range_with_len a n)) page ≡ filter q (range_with_len a n)
  insert_along was is a zero low high = absurd (omega arith)
  insert_along was is a (suc n) low high = at (cases_eq a page) (λ le. insert_along was is (a + 1) n le (omega arith))
    where
      at : (a ≡ page) ⊎ (a ≡ page → ⊥) → (a + 1 ≤ page → insert_key nat_cmp (filter p (range_with_len (a + 1) n)) page ≡ filter q (range_with_len (a + 1) n)) → insert_key nat_cmp (filter p (range_with_len a (suc n))) page ≡ filter q (range_with_len a (suc n))
      at (inl here) more = insert_here was is a n here
      at (inr apart) more =
          insert_later page a (filter p (range_with_len (a + 1) n)) (filter q (range_with_len (a + 1) n)) (omega arith) (p a) (more (omega arith))
          ∙ ap (λ (b : Bool). cond b (a ∷ filter q (range_with_len (a + 1) n)) (filter q (range_with_len (a + 1) n))) (others a apart)

  pub remove_along : p page ≡ true → q page ≡ false → (a n : ℕ) → a ≤ page → page < a + n → remove_key (is_at (nat_cmp page)) (filter p (range_with_len a n)) ≡ filter q (range_with_len a n)
  remove_along was is a zero low high = absurd (omega arith)
  remove_along was is a (suc n) low high = at (cases_eq a page) (λ le. remove_along was is (a + 1) n le (omega arith))
    where
      at : (a ≡ page) ⊎ (a ≡ page → ⊥) → (a + 1 ≤ page → remove_key (is_at (nat_cmp page)) (filter p (range_with_len (a + 1) n)) ≡ filter q (range_with_len (a + 1) n)) → remove_key (is_at (nat_cmp page)) (filter p (range_with_len a (suc n))) ≡ filter q (range_with_len a (suc n))
      at (inl here) more = remove_here was is a n here
      at (inr apart) more =
          remove_later page a (filter p (range_with_len (a + 1) n)) (filter q (range_with_len (a + 1) n)) (omega arith) (p a) (more (omega arith))
          ∙ ap (λ (b : Bool). cond b (a ∷ filter q (range_with_len (a + 1) n)) (filter q (range_with_len (a + 1) n))) (others a apart)
