-- What it is to be among what is left of a list.
use Rattle.std.proofs.Common.{◌≡◌, ◌⊎◌, inl, inr, Bool, true, false, cond, List, [], ◌∷◌, filter, Contains, zero, suc, refl, sym, ap, subst, ◌∙◌, arith}
use Rattle.std.proofs.lemmas.List.Elements.{All-contains, All-contains_itself, All-filter, filter_passes}

pub contains_here : {X : Type 0} (x : X) (xs : List X) → Contains (x ∷ xs) x
contains_here x xs = (0, omega arith, refl)

pub contains_there : {X : Type 0} (x : X) (xs : List X) (y : X) → Contains xs y → Contains (x ∷ xs) y
contains_there x xs y (k, lt, at) = (suc k, omega arith, at)

pub contains_cases : {X : Type 0} (x : X) (xs : List X) (y : X) → Contains (x ∷ xs) y → (x ≡ y) ⊎ Contains xs y
contains_cases x xs y (zero, lt, at) = inl at
contains_cases x xs y (suc k, lt, at) = inr (k, omega arith, at)

pub contains_none : {X : Type 0} (y : X) → Contains [] y → ⊥
contains_none y (k, lt, at) = omega arith

-- what a filter leaves was there, and passes
pub left_was : {X : Type 0} (test : X → Bool) (xs : List X) (x : X) → Contains (filter test xs) x → Contains xs x
left_was test xs x c = All-contains (Contains xs) (filter test xs) x (All-filter test (Contains xs) xs (All-contains_itself xs)) c

pub left_passes : {X : Type 0} (test : X → Bool) (xs : List X) (x : X) → Contains (filter test xs) x → test x ≡ true
left_passes test xs x c = All-contains (λ y. test y ≡ true) (filter test xs) x (filter_passes test xs) c

-- and what passes is left
pub is_left : {X : Type 0} (test : X → Bool) (xs : List X) (x : X) → Contains xs x → test x ≡ true → Contains (filter test xs) x
is_left test [] x c passes = absurd (contains_none x c)
is_left test (y ∷ ys) x c passes = by (test y) refl (contains_cases y ys x c) (λ rest. is_left test ys x rest passes)
  where
    by : (b : Bool) → test y ≡ b → (y ≡ x) ⊎ Contains ys x → (Contains ys x → Contains (filter test ys) x) → Contains (cond b (y ∷ filter test ys) (filter test ys)) x
    by true is (inl same) later = subst (λ z. Contains (y ∷ filter test ys) z) same (contains_here y (filter test ys))
    by true is (inr rest) later = contains_there y (filter test ys) x (later rest)
    by false is (inl same) later = let clash : true ≡ false = sym passes ∙ ap test (sym same) ∙ is in cc
    by false is (inr rest) later = later rest
