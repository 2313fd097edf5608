use Rattle.std.proofs.Common.{◌≡◌, ◌⊎◌, inl, inr, ℕ, zero, suc, ◌<◌, ◌≤◌, List, [], ◌∷◌, length, Bool, true, false, not, ◌&&◌, ◌||◌, ◌==◌, refl, ap, sym, ◌∙◌, arith, subst, nat_eq, nat_le, replicate, get_or, set, get_or-set_same, get_or-set_other, length-set}
use Rattle.std.specs.List.{list_all}
use Rattle.std.proofs.lemmas.Bool.{and_parts, cases_eq, eq-eqb, ne_eqb, cond-true, cond-false, leb-true}
use Rattle.kern_model.specs.KernelTables.{belongs, chain_from, is_id, is_in_chain, longest_chain, none_twice, path_in, stands_in}
use Rattle.zo_layout.specs.Layout.{bucket_of}

abbrev unseen : List Bool → ℕ → Bool
unseen seen id = not (get_or seen id false)

-- none is marked, and none will be once those before it are
abbrev fresh : List Bool → List ℕ → Bool
fresh seen [] = true
fresh seen (id ∷ ids) = unseen seen id && fresh (set seen id true) ids

-- how far a chain is followed: its numbers up to `id` are marked and good, and what follows tells the rest
pub record IsFollowed (good : ℕ → Bool) (next : ℕ → ℕ) (chain : List ℕ) (fuel id : ℕ) (seen : List Bool) : Type 0 where
  pub len : length seen ≡ 257
  pub answer : list_all good chain && none_twice chain ≡ list_all good (chain_from next fuel id) && fresh seen (chain_from next fuel id)
  pub marked : (k : ℕ) → k ≤ 256 → is_in_chain k chain ≡ get_or seen k false || is_in_chain k (chain_from next fuel id)

pub longest_is : longest_chain ≡ 257
unfolding longest_chain
longest_is = refl

and_true : (b : Bool) → b && true ≡ b
and_true true = refl
and_true false = refl

and_false : (b : Bool) → b && false ≡ false
and_false true = refl
and_false false = refl

or_true : (b : Bool) → b || true ≡ true
or_true true = refl
or_true false = refl

or_false : (b : Bool) → b || false ≡ b
or_false true = refl
or_false false = refl

-- ---- what is fresh

unseen_behind : (seen : List Bool) (id : ℕ) (ids : List ℕ) → id < length seen
    → list_all (unseen (set seen id true)) ids ≡ not (is_in_chain id ids) && list_all (unseen seen) ids
unseen_behind seen id [] lt = refl
unseen_behind seen id (x ∷ xs) lt = by (cases_eq id x) (unseen_behind seen id xs lt)
  where
    turned : (a b c : Bool) → a && (b && c) ≡ b && (a && c)
    turned true b c = refl
    turned false true c = refl
    turned false false c = refl

    by : (id ≡ x) ⊎ (id ≡ x → ⊥) → list_all (unseen (set seen id true)) xs ≡ not (is_in_chain id xs) && list_all (unseen seen) xs
        → list_all (unseen (set seen id true)) (x ∷ xs) ≡ not (is_in_chain id (x ∷ xs)) && list_all (unseen seen) (x ∷ xs)
    by (inl is) rest =
        ap (λ (b : Bool). not b && list_all (unseen (set seen id true)) xs)
        (ap (λ (k : ℕ). get_or (set seen id true) k false) (sym is) ∙ get_or-set_same seen id true false lt)
        ∙ ap (λ (b : Bool). not (b || is_in_chain id xs) && list_all (unseen seen) (x ∷ xs)) (sym (eq-eqb id x is))
    by (inr ne) rest =
        ap (λ (b : Bool). not b && list_all (unseen (set seen id true)) xs) (get_or-set_other seen id x true false (λ e. ne (sym e)))
        ∙ ap (λ (b : Bool). unseen seen x && b) rest
        ∙ turned (unseen seen x) (not (is_in_chain id xs)) (list_all (unseen seen) xs)
        ∙ ap (λ (b : Bool). not (b || is_in_chain id xs) && list_all (unseen seen) (x ∷ xs)) (sym (ne_eqb id x ne))

fresh_is : (good : ℕ → Bool) → ((k : ℕ) → good k ≡ true → k ≤ 256) → (seen : List Bool) (ids : List ℕ) → length seen ≡ 257 → list_all good ids ≡ true
    → fresh seen ids ≡ none_twice ids && list_all (unseen seen) ids
fresh_is good bound seen [] len all = refl
fresh_is good bound seen (id ∷ ids) len all =
    let parts = and_parts (good id) (list_all good ids) all in
    let lt : id < length seen = let most = bound id parts.0 in omega arith in
    ap (λ (b : Bool). unseen seen id && b)
    (fresh_is good bound (set seen id true) ids (length-set seen id true ∙ len) parts.1
    ∙ ap (λ (b : Bool). none_twice ids && b) (unseen_behind seen id ids lt))
    ∙ turned (unseen seen id) (none_twice ids) (not (is_in_chain id ids)) (list_all (unseen seen) ids)
  where
    turned : (a b c d : Bool) → a && (b && (c && d)) ≡ (c && b) && (a && d)
    turned true true true d = refl
    turned true true false d = refl
    turned true false true d = refl
    turned true false false d = refl
    turned false true true d = refl
    turned false true false d = refl
    turned false false true d = refl
    turned false false false d = refl

all_unseen : (seen : List Bool) → ((k : ℕ) → get_or seen k false ≡ false) → (ids : List ℕ) → list_all (unseen seen) ids ≡ true
all_unseen seen blank [] = refl
all_unseen seen blank (id ∷ ids) = ap (λ (b : Bool). not b && list_all (unseen seen) ids) (blank id) ∙ all_unseen seen blank ids

-- ---- the chain, from its beginning to its end

pub follow_from : (good : ℕ → Bool) → ((k : ℕ) → good k ≡ true → k ≤ 256) → (next : ℕ → ℕ) (fuel rest id : ℕ) (seen : List Bool)
    → length seen ≡ 257 → ((k : ℕ) → get_or seen k false ≡ false) → rest ≡ fuel → IsFollowed good next (chain_from next fuel id) rest id seen
follow_from good bound next fuel rest id seen len blank is =
    subst (λ (n : ℕ). IsFollowed good next (chain_from next fuel id) n id seen) (sym is) (record {
      len = len;
      answer = by (list_all good chain) refl;
      marked = λ k _. ap (λ (b : Bool). b || is_in_chain k chain) (sym (blank k));
    })
  where
    chain : List ℕ
    chain = chain_from next fuel id

    by : (b : Bool) → list_all good chain ≡ b → b && none_twice chain ≡ b && fresh seen chain
    by true all =
        sym (fresh_is good bound seen chain len all ∙ ap (λ (b : Bool). none_twice chain && b) (all_unseen seen blank chain) ∙ and_true (none_twice chain))
    by false all = refl

-- a chain goes on from a number that isn't 0
goes_on : (next : ℕ → ℕ) (fuel less id : ℕ) → fuel ≡ suc less → (id ≡ 0 → ⊥) → chain_from next fuel id ≡ id ∷ chain_from next less (next id)
goes_on next fuel less id is some =
    ap (λ (n : ℕ). chain_from next n id) is ∙ cond-false (id == 0) [] (id ∷ chain_from next less (next id)) (ne_eqb id 0 some)

pub follow_more : (good : ℕ → Bool) (next : ℕ → ℕ) (chain : List ℕ) (fuel less id new : ℕ) (seen : List Bool)
    → IsFollowed good next chain fuel id seen → fuel ≡ suc less → (id ≡ 0 → ⊥) → good id ≡ true → id ≤ 256 → get_or seen id false ≡ false → new ≡ next id
    → IsFollowed good next chain less new (set seen id true)
follow_more good next chain fuel less id new seen before is some fits most unmarked to =
    subst (λ (n : ℕ). IsFollowed good next chain less n (set seen id true)) (sym to) (record {
      len = length-set seen id true ∙ before.len;
      answer = before.answer
          ∙ ap (λ (ids : List ℕ). list_all good ids && fresh seen ids) (goes_on next fuel less id is some)
          ∙ ap (λ (b : Bool). (b && list_all good rest) && fresh seen (id ∷ rest)) fits
          ∙ ap (λ (b : Bool). list_all good rest && (not b && fresh (set seen id true) rest)) unmarked;
      marked = λ k le. before.marked k le
          ∙ ap (λ (ids : List ℕ). get_or seen k false || is_in_chain k ids) (goes_on next fuel less id is some)
          ∙ at k (cases_eq k id);
    })
  where
    rest : List ℕ
    rest = chain_from next less (next id)

    lt : id < length seen
    lt = let len = before.len in omega arith

    at : (k : ℕ) → (k ≡ id) ⊎ (k ≡ id → ⊥) → get_or seen k false || (nat_eq k id || is_in_chain k rest) ≡ get_or (set seen id true) k false || is_in_chain k rest
    at k (inl e) =
        ap (λ (b : Bool). get_or seen k false || (b || is_in_chain k rest)) (eq-eqb k id e)
        ∙ or_true (get_or seen k false)
        ∙ ap (λ (b : Bool). b || is_in_chain k rest) (sym (ap (λ (n : ℕ). get_or (set seen id true) n false) e ∙ get_or-set_same seen id true false lt))
    at k (inr ne) =
        ap (λ (b : Bool). get_or seen k false || (b || is_in_chain k rest)) (ne_eqb k id ne)
        ∙ ap (λ (b : Bool). b || is_in_chain k rest) (sym (get_or-set_other seen id k true false ne))

-- a chain ends at 0, or where nothing more is looked at
ends : (next : ℕ → ℕ) (fuel id : ℕ) → (id ≡ 0) ⊎ (fuel ≡ 0) → chain_from next fuel id ≡ []
ends next zero id end = refl
ends next (suc fuel) id (inl is) = cond-true (id == 0) [] (id ∷ chain_from next fuel (next id)) (eq-eqb id 0 is)
ends next (suc fuel) id (inr none) = absurd (omega arith)

pub good_at_end : (good : ℕ → Bool) (next : ℕ → ℕ) (chain : List ℕ) (fuel id : ℕ) (seen : List Bool)
    → IsFollowed good next chain fuel id seen → (id ≡ 0) ⊎ (fuel ≡ 0) → true ≡ list_all good chain && none_twice chain
good_at_end good next chain fuel id seen followed end =
    sym (followed.answer ∙ ap (λ (ids : List ℕ). list_all good ids && fresh seen ids) (ends next fuel id end))

pub marked_at_end : (good : ℕ → Bool) (next : ℕ → ℕ) (chain : List ℕ) (fuel id : ℕ) (seen : List Bool)
    → IsFollowed good next chain fuel id seen → (id ≡ 0) ⊎ (fuel ≡ 0) → (k : ℕ) → k ≤ 256 → get_or seen k false ≡ is_in_chain k chain
marked_at_end good next chain fuel id seen followed end k le =
    sym (followed.marked k le ∙ ap (λ (ids : List ℕ). get_or seen k false || is_in_chain k ids) (ends next fuel id end) ∙ or_false (get_or seen k false))

-- a number that is none of the bucket's, or stands twice
pub bad_here : (good : ℕ → Bool) (next : ℕ → ℕ) (chain : List ℕ) (fuel less id : ℕ) (seen : List Bool)
    → IsFollowed good next chain fuel id seen → fuel ≡ suc less → (id ≡ 0 → ⊥) → (good id ≡ false) ⊎ (get_or seen id false ≡ true)
    → false ≡ list_all good chain && none_twice chain
bad_here good next chain fuel less id seen followed is some bad =
    sym (followed.answer ∙ ap (λ (ids : List ℕ). list_all good ids && fresh seen ids) (goes_on next fuel less id is some) ∙ by bad)
  where
    rest : List ℕ
    rest = chain_from next less (next id)

    by : (good id ≡ false) ⊎ (get_or seen id false ≡ true) → list_all good (id ∷ rest) && fresh seen (id ∷ rest) ≡ false
    by (inl other) = ap (λ (b : Bool). (b && list_all good rest) && fresh seen (id ∷ rest)) other
    by (inr twice) =
        ap (λ (b : Bool). list_all good (id ∷ rest) && (not b && fresh (set seen id true) rest)) twice ∙ and_false (list_all good (id ∷ rest))

-- a coffer of a bucket has a number of the table
pub belongs_bound : (pages : ℕ) (at : ℕ → ℕ) (bucket id : ℕ) → belongs pages at bucket id ≡ true → id ≤ 256
belongs_bound pages at bucket id is =
    let there = and_parts (is_id id && stands_in pages at id) (bucket_of (path_in pages at id) == bucket) is in
    let number = and_parts (is_id id) (stands_in pages at id) there.0 in
    leb-true id 256 (and_parts (nat_le 1 id) (nat_le id 256) number.0).1

pub none_marked : (n k : ℕ) → get_or (replicate n false) k false ≡ false
none_marked zero k = refl
none_marked (suc n) zero = refl
none_marked (suc n) (suc k) = none_marked n k
