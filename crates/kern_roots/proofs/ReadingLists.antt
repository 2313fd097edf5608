-- Searches in a list that has something for each number of a row that passes a test.
use Rattle.std.proofs.Common.{◌≡◌, ◌⊎◌, inl, inr, ℕ, zero, suc, ◌+◌, ◌<◌, ◌≤◌, Bool, true, false, cond, List, ◌∷◌, length, map, filter, Option, Some, None, refl, sym, ap, ◌∙◌, arith}
use Rattle.std.specs.Prelude.{fold, find, nat_lt}
use Rattle.std.specs.List.{range_with_len}
use Rattle.std.proofs.lemmas.Bool.{cases_eq, cond-true, cond-false, lt-ltb, le-ltb}
use Rattle.kern_model.specs.KernelTables.{Coffer}
use Rattle.kern_model.specs.PathMap.{longer}

-- what `make` gives of the numbers from `start` on, `count` of them, that pass the test
abbrev pub listed : {X : Type 0} → (ℕ → X) → (ℕ → Bool) → ℕ → ℕ → List X
listed make test start count = map make (filter test (range_with_len start count))

-- a number of the row that passes the test
pub record IsListed (test : ℕ → Bool) (start count k : ℕ) : Type 0 where
  pub from : start ≤ k
  pub below : k < start + count
  pub passes : test k ≡ true

-- of the row from the next number on, one of the whole row
wider : (test : ℕ → Bool) (start count k : ℕ) → IsListed test (start + 1) count k → IsListed test start (suc count) k
wider test start count k in_rest = let from = in_rest.from in let below = in_rest.below in record { from = omega arith; below = omega arith; passes = in_rest.passes }

-- of the whole row, one from the next number on
narrower : (test : ℕ → Bool) (start count k : ℕ) → IsListed test start (suc count) k → (start ≡ k → ⊥) → IsListed test (start + 1) count k
narrower test start count k in_row other = let from = in_row.from in let below = in_row.below in record { from = omega arith; below = omega arith; passes = in_row.passes }

first_listed : (test : ℕ → Bool) (start count : ℕ) → test start ≡ true → IsListed test start (suc count) start
first_listed test start count passes = record { from = omega arith; below = omega arith; passes = passes }

pub find_listed : {X : Type 0} (make : ℕ → X) (test : ℕ → Bool) (want : X → Bool) (start count k : ℕ) → IsListed test start count k → want (make k) ≡ true
    → ((j : ℕ) → IsListed test start count j → want (make j) ≡ true → j ≡ k) → find want (listed make test start count) ≡ Some (make k)
find_listed make test want start zero k in_row wanted alone = let from = in_row.from in let below = in_row.below in absurd (omega arith)
find_listed {X} make test want start (suc count) k in_row wanted alone =
    by (test start) refl (λ other. find_listed make test want (start + 1) count k (narrower test start count k in_row other) wanted (λ j in_rest w. alone j (wider test start count j in_rest) w))
  where
    rest : List X
    rest = listed make test (start + 1) count

    head : (b : Bool) → want (make start) ≡ b → test start ≡ true → ((start ≡ k → ⊥) → find want (listed make test (start + 1) count) ≡ Some (make k))
        → cond b (Some (make start)) (find want (listed make test (start + 1) count)) ≡ Some (make k)
    head true is passes later = ap (λ (j : ℕ). Some (make j)) (alone start (first_listed test start count passes) is)
    head false is passes later = later (λ same. let both : true ≡ false = sym wanted ∙ ap (λ (j : ℕ). want (make j)) (sym same) ∙ is in cc)

    by : (b : Bool) → test start ≡ b → ((start ≡ k → ⊥) → find want (listed make test (start + 1) count) ≡ Some (make k))
        → find want (map make (cond b (start ∷ filter test (range_with_len (start + 1) count)) (filter test (range_with_len (start + 1) count)))) ≡ Some (make k)
    by true is later = head (want (make start)) refl is later
    by false is later = later (λ same. let both : true ≡ false = sym in_row.passes ∙ ap test (sym same) ∙ is in cc)

pub find_none : {X : Type 0} (make : ℕ → X) (test : ℕ → Bool) (want : X → Bool) (start count : ℕ)
    → ((j : ℕ) → IsListed test start count j → want (make j) ≡ false) → find want (listed make test start count) ≡ None
find_none make test want start zero nowhere = refl
find_none make test want start (suc count) nowhere =
    by (test start) refl (find_none make test want (start + 1) count (λ j in_rest. nowhere j (wider test start count j in_rest)))
  where
    by : (b : Bool) → test start ≡ b → find want (listed make test (start + 1) count) ≡ None
        → find want (map make (cond b (start ∷ filter test (range_with_len (start + 1) count)) (filter test (range_with_len (start + 1) count)))) ≡ None
    by true is later = cond-false (want (make start)) (Some (make start)) _ (nowhere start (first_listed test start count is)) ∙ later
    by false is later = later

-- The longest path of those that are wanted.

abbrev pub longest_from : (ℕ → Coffer) → (ℕ → Bool) → (Coffer → Bool) → Option Coffer → ℕ → ℕ → Option Coffer
longest_from make test want best start count = fold longer best (filter want (listed make test start count))

-- one that is at least as long as all stays
pub longest_stays : (make : ℕ → Coffer) (test : ℕ → Bool) (want : Coffer → Bool) (best : Coffer) (start count : ℕ)
    → ((j : ℕ) → IsListed test start count j → want (make j) ≡ true → length (make j).path ≤ length best.path) → longest_from make test want (Some best) start count ≡ Some best
longest_stays make test want best start zero none_longer = refl
longest_stays make test want best start (suc count) none_longer =
    by (test start) refl (longest_stays make test want best (start + 1) count (λ j in_rest w. none_longer j (wider test start count j in_rest) w))
  where
    head : (b : Bool) → want (make start) ≡ b → test start ≡ true → longest_from make test want (Some best) (start + 1) count ≡ Some best
        → fold longer (Some best) (cond b (make start ∷ filter want (listed make test (start + 1) count)) (filter want (listed make test (start + 1) count))) ≡ Some best
    head true is passes later =
        ap (λ (first : Option Coffer). longest_from make test want first (start + 1) count)
        (cond-false (nat_lt (length best.path) (length (make start).path)) (Some (make start)) (Some best) (le-ltb (length best.path) (length (make start).path) (none_longer start (first_listed test start count passes) is)))
        ∙ later
    head false is passes later = later

    by : (b : Bool) → test start ≡ b → longest_from make test want (Some best) (start + 1) count ≡ Some best
        → fold longer (Some best) (filter want (map make (cond b (start ∷ filter test (range_with_len (start + 1) count)) (filter test (range_with_len (start + 1) count))))) ≡ Some best
    by true is later = head (want (make start)) refl is later
    by false is later = later

-- what was the longest so far has a shorter path
abbrev pub IsBelow : Option Coffer → Coffer → Type 0
IsBelow None c = Unit {0}
IsBelow (Some best) c = length best.path < length c.path

taken : (best : Option Coffer) (c : Coffer) → IsBelow best c → longer best c ≡ Some c
taken None c below = refl
taken (Some best) c below = cond-true (nat_lt (length best.path) (length c.path)) (Some c) (Some best) (lt-ltb (length best.path) (length c.path) below)

-- the longer of two that are shorter than a third is so too
longer_below : (best : Option Coffer) (c d : Coffer) → IsBelow best d → length c.path < length d.path → IsBelow (longer best c) d
longer_below None c d below less = less
longer_below (Some best) c d below less = by (nat_lt (length best.path) (length c.path))
  where
    by : (b : Bool) → IsBelow (cond b (Some c) (Some best)) d
    by true = less
    by false = below

pub longest_listed : (make : ℕ → Coffer) (test : ℕ → Bool) (want : Coffer → Bool) (best : Option Coffer) (start count k : ℕ) → IsBelow best (make k)
    → IsListed test start count k → want (make k) ≡ true
    → ((j : ℕ) → IsListed test start count j → want (make j) ≡ true → (j ≡ k) ⊎ (length (make j).path < length (make k).path))
    → longest_from make test want best start count ≡ Some (make k)
longest_listed make test want best start zero k below in_row wanted others = let from = in_row.from in let under = in_row.below in absurd (omega arith)
longest_listed make test want best start (suc count) k below in_row wanted others =
    by (test start) refl
    (λ next next_below other. longest_listed make test want next (start + 1) count k next_below (narrower test start count k in_row other) wanted (λ j in_rest w. others j (wider test start count j in_rest) w))
  where
    rest_shorter : (j : ℕ) → IsListed test (start + 1) count j → want (make j) ≡ true → length (make j).path ≤ length (make k).path
    rest_shorter j in_rest w = at (others j (wider test start count j in_rest) w)
      where
        at : (j ≡ k) ⊎ (length (make j).path < length (make k).path) → length (make j).path ≤ length (make k).path
        at (inl same) = let equal = ap (λ (i : ℕ). length (make i).path) same in omega arith
        at (inr less) = omega arith

    taken_first : start ≡ k → longest_from make test want (longer best (make start)) (start + 1) count ≡ Some (make k)
    taken_first same =
        ap (λ (first : Option Coffer). longest_from make test want first (start + 1) count) (ap (λ (j : ℕ). longer best (make j)) same ∙ taken best (make k) below)
        ∙ longest_stays make test want (make k) (start + 1) count rest_shorter

    head_case : (start ≡ k) ⊎ (start ≡ k → ⊥) → want (make start) ≡ true → test start ≡ true
        → ((next : Option Coffer) → IsBelow next (make k) → (start ≡ k → ⊥) → longest_from make test want next (start + 1) count ≡ Some (make k))
        → longest_from make test want (longer best (make start)) (start + 1) count ≡ Some (make k)
    head_case (inl same) is passes later = taken_first same
    head_case (inr other) is passes later = at (others start (first_listed test start count passes) is)
      where
        at : (start ≡ k) ⊎ (length (make start).path < length (make k).path) → longest_from make test want (longer best (make start)) (start + 1) count ≡ Some (make k)
        at (inl same) = absurd (other same)
        at (inr less) = later (longer best (make start)) (longer_below best (make start) (make k) below less) other

    head : (b : Bool) → want (make start) ≡ b → test start ≡ true
        → ((next : Option Coffer) → IsBelow next (make k) → (start ≡ k → ⊥) → longest_from make test want next (start + 1) count ≡ Some (make k))
        → fold longer best (cond b (make start ∷ filter want (listed make test (start + 1) count)) (filter want (listed make test (start + 1) count))) ≡ Some (make k)
    head true is passes later = head_case (cases_eq start k) is passes later
    head false is passes later = later best below (λ same. let both : true ≡ false = sym wanted ∙ ap (λ (j : ℕ). want (make j)) (sym same) ∙ is in cc)

    by : (b : Bool) → test start ≡ b
        → ((next : Option Coffer) → IsBelow next (make k) → (start ≡ k → ⊥) → longest_from make test want next (start + 1) count ≡ Some (make k))
        → fold longer best (filter want (map make (cond b (start ∷ filter test (range_with_len (start + 1) count)) (filter test (range_with_len (start + 1) count))))) ≡ Some (make k)
    by true is later = head (want (make start)) refl is later
    by false is later = later best below (λ same. let both : true ≡ false = sym in_row.passes ∙ ap test (sym same) ∙ is in cc)

-- the first of the row, where none is longer
pub longest_first : (make : ℕ → Coffer) (test : ℕ → Bool) (want : Coffer → Bool) (start count : ℕ) → test start ≡ true → want (make start) ≡ true
    → ((j : ℕ) → IsListed test start (suc count) j → want (make j) ≡ true → length (make j).path ≤ length (make start).path)
    → longest_from make test want None start (suc count) ≡ Some (make start)
longest_first make test want start count passes wanted none_longer =
    ap (λ (xs : List ℕ). fold longer None (filter want (map make xs))) (cond-true (test start) _ _ passes)
    ∙ ap (λ (cs : List Coffer). fold longer None cs) (cond-true (want (make start)) _ _ wanted)
    ∙ longest_stays make test want (make start) (start + 1) count (λ j in_rest w. none_longer j (wider test start count j in_rest) w)

pub longest_none : (make : ℕ → Coffer) (test : ℕ → Bool) (want : Coffer → Bool) (start count : ℕ) → ((j : ℕ) → IsListed test start count j → want (make j) ≡ false)
    → longest_from make test want None start count ≡ None
longest_none make test want start zero nowhere = refl
longest_none make test want start (suc count) nowhere =
    by (test start) refl (longest_none make test want (start + 1) count (λ j in_rest. nowhere j (wider test start count j in_rest)))
  where
    by : (b : Bool) → test start ≡ b → longest_from make test want None (start + 1) count ≡ None
        → fold longer None (filter want (map make (cond b (start ∷ filter test (range_with_len (start + 1) count)) (filter test (range_with_len (start + 1) count))))) ≡ None
    by true is later = ap (λ (cs : List Coffer). fold longer None cs) (cond-false (want (make start)) _ _ (nowhere start (first_listed test start count is))) ∙ later
    by false is later = later
