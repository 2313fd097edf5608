-- The coffer of a path, found from the front on, and what it has to do with the path.
use Rattle.std.proofs.Common.{◌≡◌, ◌⊎◌, inl, inr, ℕ, ◌+◌, ◌<◌, ◌≤◌, leb, List, [], ◌∷◌, length, get_or, drop, Bool, true, false, cond, Option, Some, None, refl, sym, ap, ◌∙◌, arith}
use Rattle.std.proofs.lemmas.Bool.{cond-true, cond-false, ltb-true, ltb-false, leb-true, leb-false, le-leb, lt-leb}
use Rattle.std.proofs.lemmas.List.{at_drop_more}
use Rattle.std.proofs.lemmas.Option.{slice_get_read}
use Rattle.zo_model.specs.Coffers.{Coffer, deeper, lies_in, coffer_of}
use Rattle.tr_answer.specs.Contents.{coffer_at, is_deeper_than}

-- the longest of what comes before and what comes after; the earlier one where they are as long
abbrev pub deepest_of : Option Coffer → Option Coffer → Option Coffer
deepest_of None after = after
deepest_of (Some coffer) after = deeper coffer after

-- nothing comes after
pub deepest_of_all : (before : Option Coffer) → deepest_of before None ≡ before
deepest_of_all None = refl
deepest_of_all (Some coffer) = refl

deeper_kept : (a b : Coffer) → length b.path ≤ length a.path → deeper a (Some b) ≡ Some a
deeper_kept a b le = cond-true (leb (length b.path) (length a.path)) (Some a) (Some b) (le-leb _ _ le)

deeper_taken : (a b : Coffer) → length a.path < length b.path → deeper a (Some b) ≡ Some b
deeper_taken a b lt = cond-false (leb (length b.path) (length a.path)) (Some a) (Some b) (lt-leb _ _ lt)

-- a coffer that is longer than the one before counts in its place
taken : (before coffer : Coffer) (after : Option Coffer) → length before.path < length coffer.path → deeper before (deeper coffer after) ≡ deeper coffer after
taken before coffer None lt = deeper_taken before coffer lt
taken before coffer (Some other) lt = by (leb (length other.path) (length coffer.path)) refl
  where
    by : (b : Bool) → leb (length other.path) (length coffer.path) ≡ b → deeper before (cond b (Some coffer) (Some other)) ≡ cond b (Some coffer) (Some other)
    by true is = deeper_taken before coffer lt
    by false is = deeper_taken before other (let longer = leb-false (length other.path) (length coffer.path) is in omega arith)

-- one that isn't longer doesn't count
kept : (before coffer : Coffer) (after : Option Coffer) → length coffer.path ≤ length before.path → deeper before (deeper coffer after) ≡ deeper before after
kept before coffer None le = deeper_kept before coffer le
kept before coffer (Some other) le = by (leb (length other.path) (length coffer.path)) refl
  where
    by : (b : Bool) → leb (length other.path) (length coffer.path) ≡ b → deeper before (cond b (Some coffer) (Some other)) ≡ deeper before (Some other)
    by true is = deeper_kept before coffer le ∙ sym (deeper_kept before other (let shorter = leb-true (length other.path) (length coffer.path) is in omega arith))
    by false is = refl

pub deepest_taken : (before : Option Coffer) (coffer : Coffer) (after : Option Coffer) → is_deeper_than coffer before ≡ true → deepest_of before (deeper coffer after) ≡ deeper coffer after
deepest_taken None coffer after is = refl
deepest_taken (Some before) coffer after is = taken before coffer after (ltb-true _ _ is)

pub deepest_kept : (before : Option Coffer) (coffer : Coffer) (after : Option Coffer) → is_deeper_than coffer before ≡ false → deepest_of before (deeper coffer after) ≡ deepest_of before after
deepest_kept None coffer after is = cc
deepest_kept (Some before) coffer after is = kept before coffer after (ltb-false _ _ is)

-- the coffers from the place `i` on, by whether the path begins with that there
pub coffer_of_here : (coffers : List Coffer) (names : List (List ℕ)) (i : ℕ) (coffer : Coffer) (inside : Bool) → i < length coffers → coffer ≡ get_or coffers i coffer → lies_in names coffer.path ≡ inside
    → coffer_of (drop i coffers) names ≡ cond inside (deeper coffer (coffer_of (drop (i + 1) coffers) names)) (coffer_of (drop (i + 1) coffers) names)
coffer_of_here coffers names i coffer inside lt read is =
    let after = coffer_of (drop (i + 1) coffers) names in
    at_drop_more (λ (l : List Coffer). coffer_of l names) coffers i coffer lt
    ∙ (ap (λ (c : Coffer). cond (lies_in names c.path) (deeper c after) after) (sym read)
    ∙ ap (λ (b : Bool). cond b (deeper coffer after) after) is)

-- ---- a step of the search, at a coffer that counts in the place of those before, at one that doesn't, and at one that the path doesn't begin with

pub step_taken : (coffers : List Coffer) (names : List (List ℕ)) (i : ℕ) (coffer : Coffer) (deepest : Option ℕ) (found : Option Coffer)
    → i < length coffers → coffer ≡ get_or coffers i coffer → lies_in names coffer.path ≡ true → is_deeper_than coffer (coffer_at coffers deepest) ≡ true
    → deepest_of (coffer_at coffers deepest) (coffer_of (drop i coffers) names) ≡ found
    → deepest_of (coffer_at coffers (Some i)) (coffer_of (drop (i + 1) coffers) names) ≡ found
step_taken coffers names i coffer deepest found lt read inside longer so_far =
    let after = coffer_of (drop (i + 1) coffers) names in
    ap (λ (c : Option Coffer). deepest_of c after) (slice_get_read coffers (length coffers) i coffer refl lt read)
    ∙ (sym (deepest_taken (coffer_at coffers deepest) coffer after longer)
    ∙ (sym (ap (deepest_of (coffer_at coffers deepest)) (coffer_of_here coffers names i coffer true lt read inside)) ∙ so_far))

pub step_kept : (coffers : List Coffer) (names : List (List ℕ)) (i : ℕ) (coffer : Coffer) (deepest : Option ℕ) (found : Option Coffer)
    → i < length coffers → coffer ≡ get_or coffers i coffer → lies_in names coffer.path ≡ true → is_deeper_than coffer (coffer_at coffers deepest) ≡ false
    → deepest_of (coffer_at coffers deepest) (coffer_of (drop i coffers) names) ≡ found
    → deepest_of (coffer_at coffers deepest) (coffer_of (drop (i + 1) coffers) names) ≡ found
step_kept coffers names i coffer deepest found lt read inside shorter so_far =
    let after = coffer_of (drop (i + 1) coffers) names in
    sym (deepest_kept (coffer_at coffers deepest) coffer after shorter)
    ∙ (sym (ap (deepest_of (coffer_at coffers deepest)) (coffer_of_here coffers names i coffer true lt read inside)) ∙ so_far)

pub step_past : (coffers : List Coffer) (names : List (List ℕ)) (i : ℕ) (coffer : Coffer) (deepest : Option ℕ) (found : Option Coffer)
    → i < length coffers → coffer ≡ get_or coffers i coffer → lies_in names coffer.path ≡ false
    → deepest_of (coffer_at coffers deepest) (coffer_of (drop i coffers) names) ≡ found
    → deepest_of (coffer_at coffers deepest) (coffer_of (drop (i + 1) coffers) names) ≡ found
step_past coffers names i coffer deepest found lt read outside so_far =
    sym (ap (deepest_of (coffer_at coffers deepest)) (coffer_of_here coffers names i coffer false lt read outside)) ∙ so_far

-- ---- the path begins with that of its coffer

deeper_is : (coffer : Coffer) (after : Option Coffer) (one : Coffer) → deeper coffer after ≡ Some one → (coffer ≡ one) ⊎ (after ≡ Some one)
deeper_is coffer None one is = inl cc
deeper_is coffer (Some other) one is = by (leb (length other.path) (length coffer.path)) is
  where
    by : (b : Bool) → cond b (Some coffer) (Some other) ≡ Some one → (coffer ≡ one) ⊎ (Some other ≡ Some one)
    by true e = inl cc
    by false e = inr e

pub path_inside : (coffers : List Coffer) (names : List (List ℕ)) (one : Coffer) → coffer_of coffers names ≡ Some one → lies_in names one.path ≡ true
path_inside [] names one is = cc
path_inside (coffer ∷ coffers) names one is = by (lies_in names coffer.path) refl is (path_inside coffers names one)
  where
    either : (coffer ≡ one) ⊎ (coffer_of coffers names ≡ Some one) → lies_in names coffer.path ≡ true → (coffer_of coffers names ≡ Some one → lies_in names one.path ≡ true) → lies_in names one.path ≡ true
    either (inl same) inside later = sym (ap (λ (c : Coffer). lies_in names c.path) same) ∙ inside
    either (inr e) inside later = later e

    by : (b : Bool) → lies_in names coffer.path ≡ b → cond b (deeper coffer (coffer_of coffers names)) (coffer_of coffers names) ≡ Some one → (coffer_of coffers names ≡ Some one → lies_in names one.path ≡ true) → lies_in names one.path ≡ true
    by true inside e later = either (deeper_is coffer (coffer_of coffers names) one e) inside later
    by false inside e later = later e

-- the place that was found, and a coffer that was read there
pub found_at : (coffers : List Coffer) (names : List (List ℕ)) (at : ℕ) (coffer : Coffer) → at < length coffers → coffer ≡ get_or coffers at coffer → coffer_at coffers (Some at) ≡ coffer_of coffers names
    → coffer_of coffers names ≡ Some coffer
found_at coffers names at coffer lt read found = sym found ∙ slice_get_read coffers (length coffers) at coffer refl lt read
