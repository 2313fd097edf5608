-- A path bucket's chain has each coffer whose path belongs to it, so that a path that isn't met there is no coffer's.
use Rattle.std.proofs.Common.{◌≡◌, ◌≢◌, ◌⊎◌, inl, inr, ℕ, zero, suc, ◌+◌, Bool, true, false, cond, not, List, [], ◌∷◌, filter, Some, None, refl, sym, ap, ◌∙◌, arith}
use Rattle.std.specs.Prelude.{nat_eq, ◌&&◌, find}
use Rattle.std.specs.List.{range_with_len, list_all, list_any}
use Rattle.std.proofs.lemmas.Bool.{and_parts, and_from, or_parts, or_cases, not-false, cases_eq, cond-true, cond-false, eqb-true, eq-eqb, ne_eqb}
use Rattle.zo_layout.specs.Layout.{bucket_of, coffer_entry, coffer_next, path_bucket}
use Rattle.tr_types.specs.Paths.{same_text}
use Rattle.kern_model.specs.KernelTables.{all_ids, is_id, stands_in, path_in, path_stands_twice, chain_from, chain_in, longest_chain, is_in_chain, none_twice, belongs, bucket_fails}
use Rattle.kern_roots.specs.Entries.{has_id}
use Rattle.kern_roots.proofs.ReadingLists.{IsListed}
use Rattle.kern_roots.proofs.ReadingPaths.{same_when}
use Rattle.kern_roots.proofs.ReadingCoffers.{has_listed}

-- a test that holds of all that is listed
all_listed : (t p : ℕ → Bool) (start count : ℕ) → list_all t (filter p (range_with_len start count)) ≡ true → (j : ℕ) → IsListed p start count j → t j ≡ true
all_listed t p start zero all j in_row = let from = in_row.from in let below = in_row.below in absurd (omega arith)
all_listed t p start (suc count) all j in_row = by (p start) refl (cases_eq start j) (λ rest other. all_listed t p (start + 1) count rest j (narrow other))
  where
    narrow : (start ≡ j → ⊥) → IsListed p (start + 1) count j
    narrow other = let from = in_row.from in let below = in_row.below in record { from = omega arith; below = omega arith; passes = in_row.passes }

    tail : List ℕ
    tail = filter p (range_with_len (start + 1) count)

    whole : (b : Bool) → p start ≡ b → list_all t (cond b (start ∷ filter p (range_with_len (start + 1) count)) (filter p (range_with_len (start + 1) count))) ≡ true
    whole b is = sym (ap (λ (a : Bool). list_all t (cond a (start ∷ filter p (range_with_len (start + 1) count)) (filter p (range_with_len (start + 1) count)))) is) ∙ all

    by : (b : Bool) → p start ≡ b → (start ≡ j) ⊎ (start ≡ j → ⊥) → (list_all t (filter p (range_with_len (start + 1) count)) ≡ true → (start ≡ j → ⊥) → t j ≡ true) → t j ≡ true
    by true is (inl same) later = sym (ap t same) ∙ (and_parts (t start) (list_all t tail) (whole true is)).0
    by true is (inr other) later = later (and_parts (t start) (list_all t tail) (whole true is)).1 other
    by false is (inl same) later = let both : true ≡ false = sym in_row.passes ∙ sym (ap p same) ∙ is in cc
    by false is (inr other) later = later (whole false is) other

-- a test that holds of none
none_listed : (t p : ℕ → Bool) (start count : ℕ) → list_any t (filter p (range_with_len start count)) ≡ false → (j : ℕ) → IsListed p start count j → t j ≡ false
none_listed t p start zero none j in_row = let from = in_row.from in let below = in_row.below in absurd (omega arith)
none_listed t p start (suc count) none j in_row = by (p start) refl (cases_eq start j) (λ rest other. none_listed t p (start + 1) count rest j (narrow other))
  where
    narrow : (start ≡ j → ⊥) → IsListed p (start + 1) count j
    narrow other = let from = in_row.from in let below = in_row.below in record { from = omega arith; below = omega arith; passes = in_row.passes }

    tail : List ℕ
    tail = filter p (range_with_len (start + 1) count)

    whole : (b : Bool) → p start ≡ b → list_any t (cond b (start ∷ filter p (range_with_len (start + 1) count)) (filter p (range_with_len (start + 1) count))) ≡ false
    whole b is = sym (ap (λ (a : Bool). list_any t (cond a (start ∷ filter p (range_with_len (start + 1) count)) (filter p (range_with_len (start + 1) count)))) is) ∙ none

    by : (b : Bool) → p start ≡ b → (start ≡ j) ⊎ (start ≡ j → ⊥) → (list_any t (filter p (range_with_len (start + 1) count)) ≡ false → (start ≡ j → ⊥) → t j ≡ false) → t j ≡ false
    by true is (inl same) later = sym (ap t same) ∙ (or_parts (t start) (list_any t tail) (whole true is)).0
    by true is (inr other) later = later (or_parts (t start) (list_any t tail) (whole true is)).1 other
    by false is (inl same) later = let both : true ≡ false = sym in_row.passes ∙ sym (ap p same) ∙ is in cc
    by false is (inr other) later = later (whole false is) other

-- no other coffer has a coffer's path
pub path_is_its : (pages : ℕ) (at : ℕ → ℕ) (id j : ℕ) → path_stands_twice pages at id ≡ false → has_id pages at j ≡ true → path_in pages at j ≡ path_in pages at id → j ≡ id
unfolding all_ids
path_is_its pages at id j alone there same =
    let here = none_listed (λ other. not (nat_eq other id) && same_text (path_in pages at other) (path_in pages at id)) (stands_in pages at) 1 256 alone j (has_listed pages at j there) in
    by (nat_eq j id) refl here
  where
    by : (b : Bool) → nat_eq j id ≡ b → (not b && same_text (path_in pages at j) (path_in pages at id)) ≡ false → j ≡ id
    by true is here = eqb-true j id is
    by false is here = let both : true ≡ false = sym (same_when (path_in pages at j) (path_in pages at id) same) ∙ here in cc

-- what the rule of a bucket gives
pub record IsBucket (pages : ℕ) (at : ℕ → ℕ) (bucket : ℕ) : Type 0 where
  pub belong : list_all (belongs pages at bucket) (chain_in pages at bucket) ≡ true
  pub covers : (id : ℕ) → has_id pages at id ≡ true → bucket_of (path_in pages at id) ≡ bucket → is_in_chain id (chain_in pages at bucket) ≡ true

three : (a b c : Bool) → (a && b && c) ≡ true → (a ≡ true) × (b ≡ true) × (c ≡ true)
three true true true is = (refl, refl, refl)
three true true false is = cc
three true false c is = cc
three false b c is = cc

three_from : (a b c : Bool) → a ≡ true → b ≡ true → c ≡ true → (a && b && c) ≡ true
three_from true true true x y z = refl
three_from true true false x y z = cc
three_from true false c x y z = cc
three_from false b c x y z = cc

-- one that belongs is a coffer whose path belongs
pub belongs_is : (pages : ℕ) (at : ℕ → ℕ) (bucket id : ℕ) → belongs pages at bucket id ≡ true → (has_id pages at id ≡ true) × (bucket_of (path_in pages at id) ≡ bucket)
belongs_is pages at bucket id is =
    let parts = three (is_id id) (stands_in pages at id) (nat_eq (bucket_of (path_in pages at id)) bucket) is in
    (and_from (is_id id) (stands_in pages at id) parts.0 parts.1, eqb-true (bucket_of (path_in pages at id)) bucket parts.2)

is_belonging : (pages : ℕ) (at : ℕ → ℕ) (bucket id : ℕ) → has_id pages at id ≡ true → bucket_of (path_in pages at id) ≡ bucket → belongs pages at bucket id ≡ true
is_belonging pages at bucket id there is =
    let parts = and_parts (is_id id) (stands_in pages at id) there in
    three_from (is_id id) (stands_in pages at id) (nat_eq (bucket_of (path_in pages at id)) bucket) parts.0 parts.1 (eq-eqb (bucket_of (path_in pages at id)) bucket is)

pub bucket_is_sound : (pages : ℕ) (at : ℕ → ℕ) (bucket : ℕ) → bucket_fails pages at bucket ≡ false → IsBucket pages at bucket
unfolding all_ids
bucket_is_sound pages at bucket passes =
    let chain = chain_in pages at bucket in
    let p = three (list_all (belongs pages at bucket) chain) (none_twice chain) (list_all (λ id. is_in_chain id chain) (filter (belongs pages at bucket) all_ids))
    (not-false (list_all (belongs pages at bucket) chain && none_twice chain && list_all (λ id. is_in_chain id chain) (filter (belongs pages at bucket) all_ids)) passes) in
    record {
      belong = p.0;
      covers = λ id there is.
          let in_row = has_listed pages at id there in
          let from = in_row.from in
          let below = in_row.below in
          all_listed (λ j. is_in_chain j chain) (belongs pages at bucket) 1 256 p.2 id (record { from = from; below = below; passes = is_belonging pages at bucket id there is });
    }

-- a chain is met where one of its numbers passes
found_in_chain : (want : ℕ → Bool) (chain : List ℕ) (id : ℕ) → is_in_chain id chain ≡ true → want id ≡ true → find want chain ≡ None → ⊥
found_in_chain want [] id in_chain wanted none = let both : true ≡ false = sym in_chain in cc
found_in_chain want (x ∷ chain) id in_chain wanted none = by (want x) refl (or_cases (nat_eq id x) (is_in_chain id chain) in_chain) (λ later rest. found_in_chain want chain id later wanted rest)
  where
    by : (b : Bool) → want x ≡ b → (nat_eq id x ≡ true) ⊎ (is_in_chain id chain ≡ true) → (is_in_chain id chain ≡ true → find want chain ≡ None → ⊥) → ⊥
    by true is either rest = let some : Some x ≡ None = sym (cond-true (want x) (Some x) (find want chain) is) ∙ none in cc
    by false is (inl same) rest = let both : true ≡ false = sym wanted ∙ ap want (eqb-true id x same) ∙ is in cc
    by false is (inr later) rest = rest later (sym (cond-false (want x) (Some x) (find want chain) is) ∙ none)

-- a path that no number of its bucket's chain has is no coffer's
pub chain_tells : (pages : ℕ) (at : ℕ → ℕ) (path : List ℕ) → IsBucket pages at (bucket_of path) → find (λ id. same_text (path_in pages at id) path) (chain_in pages at (bucket_of path)) ≡ None
    → (id : ℕ) → has_id pages at id ≡ true → path_in pages at id ≢ path
chain_tells pages at path bucket none id there same =
    found_in_chain (λ j. same_text (path_in pages at j) path) (chain_in pages at (bucket_of path)) id (bucket.covers id there (ap bucket_of same)) (same_when (path_in pages at id) path same) none

-- The walk along a chain: `left` numbers of it may still come, from `next` on.
pub record IsWalk (pages : ℕ) (at : ℕ → ℕ) (path : List ℕ) (left next : ℕ) : Type 0 where
  pub belong : list_all (belongs pages at (bucket_of path)) (chain_from (λ id. at (coffer_next (coffer_entry pages id))) left next) ≡ true
  pub rest : find (λ id. same_text (path_in pages at id) path) (chain_in pages at (bucket_of path))
      ≡ find (λ id. same_text (path_in pages at id) path) (chain_from (λ id. at (coffer_next (coffer_entry pages id))) left next)

pub walk_begins : (pages : ℕ) (at : ℕ → ℕ) (path : List ℕ) → IsBucket pages at (bucket_of path) → IsWalk pages at path 257 (at (path_bucket pages (bucket_of path)))
unfolding longest_chain
walk_begins pages at path bucket = record { belong = bucket.belong; rest = refl }

pub walk_ends : (pages : ℕ) (at : ℕ → ℕ) (path : List ℕ) (left next : ℕ) → IsWalk pages at path left next → (left ≡ 0) ⊎ (next ≡ 0)
    → find (λ id. same_text (path_in pages at id) path) (chain_in pages at (bucket_of path)) ≡ None
walk_ends pages at path left next walk (inl none) =
    walk.rest ∙ ap (λ (n : ℕ). find (λ id. same_text (path_in pages at id) path) (chain_from (λ id. at (coffer_next (coffer_entry pages id))) n next)) none
walk_ends pages at path zero next walk (inr end) = walk.rest
walk_ends pages at path (suc left) next walk (inr end) =
    walk.rest
    ∙ ap (λ (ids : List ℕ). find (λ id. same_text (path_in pages at id) path) ids) (cond-true (nat_eq next 0) [] _ (eq-eqb next 0 end))

-- the chain at hand
chain_is : (f : ℕ → ℕ) (left next : ℕ) → (next ≡ 0 → ⊥) → chain_from f (suc left) next ≡ next ∷ chain_from f left (f next)
chain_is f left next some = cond-false (nat_eq next 0) [] (next ∷ chain_from f left (f next)) (ne_eqb next 0 some)

pub walk_at : (pages : ℕ) (at : ℕ → ℕ) (path : List ℕ) (left next : ℕ) → IsWalk pages at path (suc left) next → (next ≡ 0 → ⊥) → has_id pages at next ≡ true
walk_at pages at path left next walk some =
    let f = λ (id : ℕ). at (coffer_next (coffer_entry pages id)) in
    let all = sym (ap (λ (ids : List ℕ). list_all (belongs pages at (bucket_of path)) ids) (chain_is f left next some)) ∙ walk.belong in
    (belongs_is pages at (bucket_of path) next (and_parts (belongs pages at (bucket_of path) next) _ all).0).0

pub walk_goes_on : (pages : ℕ) (at : ℕ → ℕ) (path : List ℕ) (left next : ℕ) → IsWalk pages at path (suc left) next → (next ≡ 0 → ⊥) → same_text (path_in pages at next) path ≡ false
    → IsWalk pages at path left (at (coffer_next (coffer_entry pages next)))
walk_goes_on pages at path left next walk some differs =
    let f = λ (id : ℕ). at (coffer_next (coffer_entry pages id)) in
    let want = λ (id : ℕ). same_text (path_in pages at id) path in
    let all = sym (ap (λ (ids : List ℕ). list_all (belongs pages at (bucket_of path)) ids) (chain_is f left next some)) ∙ walk.belong in
    record {
      belong = (and_parts (belongs pages at (bucket_of path) next) _ all).1;
      rest = walk.rest ∙ ap (λ (ids : List ℕ). find want ids) (chain_is f left next some) ∙ cond-false (want next) (Some next) (find want (chain_from f left (f next))) differs;
    }
