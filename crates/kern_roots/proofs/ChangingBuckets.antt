-- Chains of coffers, and when the rule of a bucket holds of them.
use Rattle.std.proofs.Common.{◌≡◌, ℕ, zero, suc, ◌<◌, ◌≤◌, ◌⊎◌, List, [], ◌∷◌, length, filter, Bool, true, false, not, ◌&&◌, cond, ◌==◌, refl, ap, sym, ◌∙◌, inl, inr, arith, eq-eqb, ne_eqb, eqb-true}
use Rattle.std.specs.List.{list_all}
use Rattle.std.proofs.lemmas.Bool.{cases_Bool, cases_eq, and_parts, and_from, not-true, not-false, not_from_false, eqb-false, false_from_ne_true, true≢false, le-leb}
use Rattle.zo_layout.specs.Layout.{bucket_of}
use Rattle.kern_model.specs.KernelTables.{chain_from, chain_in, all_ids, is_id, is_in_chain, none_twice, stands_in, path_in, belongs, bucket_fails}
use Rattle.kern_roots.proofs.ChangingChain.{is_id_most}
use Rattle.kern_roots.proofs.ChangingLists.{all_at, all_from, in_first, in_rest, in_filter, from_filter, id_in_all}

-- A list with no number twice, of numbers from 1 to n, has at most n of them.

pub not_in_rest : (x : ℕ) (xs : List ℕ) → none_twice (x ∷ xs) ≡ true → is_in_chain x xs ≡ false
not_in_rest x xs h = not-true (is_in_chain x xs) (and_parts (not (is_in_chain x xs)) (none_twice xs) h).0

pub rest_once : (x : ℕ) (xs : List ℕ) → none_twice (x ∷ xs) ≡ true → none_twice xs ≡ true
rest_once x xs h = (and_parts (not (is_in_chain x xs)) (none_twice xs) h).1

pub differs : (x y : ℕ) (xs : List ℕ) → none_twice (x ∷ xs) ≡ true → is_in_chain y xs ≡ true → y ≡ x → ⊥
differs x y xs once h e = true≢false (sym h ∙ ap (λ (k : ℕ). is_in_chain k xs) e ∙ not_in_rest x xs once)

pub once_in_part : (p : ℕ → Bool) (xs : List ℕ) → none_twice xs ≡ true → none_twice (filter p xs) ≡ true
once_in_part p [] h = refl
once_in_part p (x ∷ xs) h = by (cases_Bool (p x)) (once_in_part p xs (rest_once x xs h))
  where
    absent : is_in_chain x (filter p xs) ≡ false
    absent = false_from_ne_true (is_in_chain x (filter p xs)) (λ i. true≢false (sym (from_filter p xs x i).0 ∙ not_in_rest x xs h))

    by : (p x ≡ true) ⊎ (p x ≡ false) → none_twice (filter p xs) ≡ true → none_twice (cond (p x) (x ∷ filter p xs) (filter p xs)) ≡ true
    by (inl t) more =
        ap (λ (b : Bool). none_twice (cond b (x ∷ filter p xs) (filter p xs))) t
        ∙ and_from (not (is_in_chain x (filter p xs))) (none_twice (filter p xs)) (not_from_false (is_in_chain x (filter p xs)) absent) more
    by (inr t) more = ap (λ (b : Bool). none_twice (cond b (x ∷ filter p xs) (filter p xs))) t ∙ more

-- a list without a number
abbrev pub without : ℕ → List ℕ → List ℕ
without id xs = filter (λ x. not (x == id)) xs

pub without_absent : (id : ℕ) (xs : List ℕ) → is_in_chain id xs ≡ false → without id xs ≡ xs
without_absent id [] h = refl
without_absent id (x ∷ xs) h =
    ap (λ (b : Bool). cond (not b) (x ∷ without id xs) (without id xs)) (ne_eqb x id other)
    ∙ ap (λ (ys : List ℕ). x ∷ ys) (without_absent id xs rest)
  where
    other : x ≡ id → ⊥
    other e = true≢false (sym (ap (λ (k : ℕ). is_in_chain k (x ∷ xs)) (sym e) ∙ in_first x xs) ∙ h)

    rest : is_in_chain id xs ≡ false
    rest = false_from_ne_true (is_in_chain id xs) (λ i. true≢false (sym (in_rest id x xs i) ∙ h))

long_without : (id : ℕ) (xs : List ℕ) → none_twice xs ≡ true → length xs ≤ suc (length (without id xs))
long_without id [] h = omega arith
long_without id (x ∷ xs) h = by (cases_eq x id) (long_without id xs (rest_once x xs h))
  where
    by : (x ≡ id) ⊎ (x ≡ id → ⊥) → length xs ≤ suc (length (without id xs)) → suc (length xs) ≤ suc (length (cond (not (x == id)) (x ∷ without id xs) (without id xs)))
    by (inl e) more =
        let same = without_absent id xs (ap (λ (k : ℕ). is_in_chain k xs) (sym e) ∙ not_in_rest x xs h) in
        let kept = ap (λ (b : Bool). length (cond (not b) (x ∷ without id xs) (without id xs))) (eq-eqb x id e) ∙ ap (λ (ys : List ℕ). length ys) same in
        omega (arith, kept)
    by (inr ne) more =
        let kept = ap (λ (b : Bool). length (cond (not b) (x ∷ without id xs) (without id xs))) (ne_eqb x id ne) in
        omega (arith, kept)

pub few_numbers : (n : ℕ) (xs : List ℕ) → none_twice xs ≡ true → ((x : ℕ) → is_in_chain x xs ≡ true → (1 ≤ x) × (x ≤ n)) → length xs ≤ n
few_numbers zero [] h each = omega arith
few_numbers zero (x ∷ xs) h each = let e = each x (in_first x xs) in absurd (omega arith)
few_numbers (suc n) xs h each =
    let less = few_numbers n (without (suc n) xs) (once_in_part (λ x. not (x == suc n)) xs h) below in
    omega (arith, long_without (suc n) xs h)
  where
    below : (x : ℕ) → is_in_chain x (without (suc n) xs) ≡ true → (1 ≤ x) × (x ≤ n)
    below x i =
        let parts = from_filter (λ y. not (y == suc n)) xs x i in
        let most = each x parts.0 in
        let other = eqb-false x (suc n) (not-true (x == suc n) parts.1) in
        (most.0, omega arith)

-- The rule of a bucket, of its chain.
pub record Holds (pages : ℕ) (at : ℕ → ℕ) (bucket : ℕ) (chain : List ℕ) : Type 0 where
  pub each : (x : ℕ) → is_in_chain x chain ≡ true → belongs pages at bucket x ≡ true
  pub once : none_twice chain ≡ true
  pub whole : (x : ℕ) → belongs pages at bucket x ≡ true → is_in_chain x chain ≡ true

pub record Belongs (pages : ℕ) (at : ℕ → ℕ) (bucket x : ℕ) : Type 0 where
  pub least : 1 ≤ x
  pub most : x ≤ 256
  pub there : stands_in pages at x ≡ true
  pub hashed : bucket_of (path_in pages at x) ≡ bucket

pub belongs_parts : (pages : ℕ) (at : ℕ → ℕ) (bucket x : ℕ) → belongs pages at bucket x ≡ true → Belongs pages at bucket x
belongs_parts pages at bucket x h =
    let both = and_parts (is_id x && stands_in pages at x) (bucket_of (path_in pages at x) == bucket) h in
    let two = and_parts (is_id x) (stands_in pages at x) both.0 in
    let r = is_id_most x two.0 in
    record { least = r.0; most = r.1; there = two.1; hashed = eqb-true (bucket_of (path_in pages at x)) bucket both.1 }

pub belongs_from : (pages : ℕ) (at : ℕ → ℕ) (bucket x : ℕ) → Belongs pages at bucket x → belongs pages at bucket x ≡ true
belongs_from pages at bucket x b =
    and_from (is_id x && stands_in pages at x) (bucket_of (path_in pages at x) == bucket)
    (and_from (is_id x) (stands_in pages at x) (and_from _ _ (le-leb 1 x b.least) (le-leb x 256 b.most)) b.there)
    (eq-eqb (bucket_of (path_in pages at x)) bucket b.hashed)

pub holds_at : (pages : ℕ) (at : ℕ → ℕ) (bucket : ℕ) → bucket_fails pages at bucket ≡ false → Holds pages at bucket (chain_in pages at bucket)
holds_at pages at bucket passes =
    let chain = chain_in pages at bucket in
    let all = list_all (belongs pages at bucket) chain in
    let lacks = list_all (λ id. is_in_chain id chain) (filter (belongs pages at bucket) all_ids) in
    let three = and_parts (all && none_twice chain) lacks (not-false _ passes) in
    let two = and_parts all (none_twice chain) three.0 in
    record {
      each = λ x i. all_at (belongs pages at bucket) chain x two.0 i;
      once = two.1;
      whole = λ x b.
          let r = belongs_parts pages at bucket x b in
          all_at (λ id. is_in_chain id chain) (filter (belongs pages at bucket) all_ids) x three.1 (in_filter (belongs pages at bucket) all_ids x (id_in_all x r.least r.most) b);
    }

pub holds_from : (pages : ℕ) (at : ℕ → ℕ) (bucket : ℕ) → Holds pages at bucket (chain_in pages at bucket) → bucket_fails pages at bucket ≡ false
holds_from pages at bucket h =
    let chain = chain_in pages at bucket in
    let all = list_all (belongs pages at bucket) chain in
    let lacks = list_all (λ id. is_in_chain id chain) (filter (belongs pages at bucket) all_ids) in
    ap not (and_from (all && none_twice chain) lacks
    (and_from all (none_twice chain) (all_from (belongs pages at bucket) chain h.each) h.once)
    (all_from (λ id. is_in_chain id chain) (filter (belongs pages at bucket) all_ids) (λ x i. h.whole x (from_filter (belongs pages at bucket) all_ids x i).1)))

pub chain_short : (pages : ℕ) (at : ℕ → ℕ) (bucket : ℕ) (chain : List ℕ) → Holds pages at bucket chain → length chain ≤ 256
chain_short pages at bucket chain h = few_numbers 256 chain h.once (λ x i. let b = belongs_parts pages at bucket x (h.each x i) in (b.least, b.most))

-- Chains along the same words.

pub step_is : (f : ℕ → ℕ) (n head : ℕ) → (head ≡ 0 → ⊥) → chain_from f (suc n) head ≡ head ∷ chain_from f n (f head)
step_is f n head ne = ap (λ (b : Bool). cond b [] (head ∷ chain_from f n (f head))) (ne_eqb head 0 ne)

pub stop_is : (f : ℕ → ℕ) (n head : ℕ) → head ≡ 0 → chain_from f (suc n) head ≡ []
stop_is f n head z = ap (λ (b : Bool). cond b [] (head ∷ chain_from f n (f head))) (eq-eqb head 0 z)

pub same_chain : (f g : ℕ → ℕ) (n head : ℕ) → ((x : ℕ) → is_in_chain x (chain_from f n head) ≡ true → g x ≡ f x) → chain_from g n head ≡ chain_from f n head
same_chain f g zero head same = refl
same_chain f g (suc n) head same = by (cases_eq head 0) (same_chain f g n (f head))
  where
    by : (head ≡ 0) ⊎ (head ≡ 0 → ⊥) → (((x : ℕ) → is_in_chain x (chain_from f n (f head)) ≡ true → g x ≡ f x) → chain_from g n (f head) ≡ chain_from f n (f head))
        → chain_from g (suc n) head ≡ chain_from f (suc n) head
    by (inl z) more = stop_is g n head z ∙ sym (stop_is f n head z)
    by (inr ne) more =
        let e = step_is f n head ne in
        let here = same head (ap (is_in_chain head) e ∙ in_first head (chain_from f n (f head))) in
        let rest = more (λ x i. same x (ap (is_in_chain x) e ∙ in_rest x head (chain_from f n (f head)) i)) in
        step_is g n head ne ∙ ap (λ (k : ℕ). head ∷ chain_from g n k) here ∙ ap (λ (xs : List ℕ). head ∷ xs) rest ∙ sym e

-- a chain that has ended says the same with more steps
pub more_steps : (f : ℕ → ℕ) (n head : ℕ) → length (chain_from f n head) < n → chain_from f (suc n) head ≡ chain_from f n head
more_steps f zero head h = absurd (omega arith)
more_steps f (suc n) head h = by (cases_eq head 0) (more_steps f n (f head))
  where
    by : (head ≡ 0) ⊎ (head ≡ 0 → ⊥) → (length (chain_from f n (f head)) < n → chain_from f (suc n) (f head) ≡ chain_from f n (f head)) → chain_from f (suc (suc n)) head ≡ chain_from f (suc n) head
    by (inl z) more = stop_is f (suc n) head z ∙ sym (stop_is f n head z)
    by (inr ne) more =
        let e = step_is f n head ne in
        let long = ap (λ (xs : List ℕ). length xs) e in
        step_is f (suc n) head ne ∙ ap (λ (xs : List ℕ). head ∷ xs) (more (omega arith)) ∙ sym e

-- and with fewer, as long as it ends
pub fewer_steps : (f : ℕ → ℕ) (n head : ℕ) → length (chain_from f (suc n) head) ≤ n → chain_from f n head ≡ chain_from f (suc n) head
fewer_steps f zero head h = by (cases_eq head 0)
  where
    by : (head ≡ 0) ⊎ (head ≡ 0 → ⊥) → chain_from f zero head ≡ chain_from f (suc zero) head
    by (inl z) = sym (stop_is f zero head z)
    by (inr ne) = let long = ap (λ (xs : List ℕ). length xs) (step_is f zero head ne) in absurd (omega arith)
fewer_steps f (suc n) head h = by (cases_eq head 0) (fewer_steps f n (f head))
  where
    by : (head ≡ 0) ⊎ (head ≡ 0 → ⊥) → (length (chain_from f (suc n) (f head)) ≤ n → chain_from f n (f head) ≡ chain_from f (suc n) (f head)) → chain_from f (suc n) head ≡ chain_from f (suc (suc n)) head
    by (inl z) more = stop_is f n head z ∙ sym (stop_is f (suc n) head z)
    by (inr ne) more =
        let e = step_is f (suc n) head ne in
        let long = ap (λ (xs : List ℕ). length xs) e in
        step_is f n head ne ∙ ap (λ (xs : List ℕ). head ∷ xs) (more (omega arith)) ∙ sym e
