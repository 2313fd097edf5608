-- The lines of pairs: in order of address, each once.
use Rattle.std.proofs.Common.{◌≡◌, ℕ, ◌+◌, ◌<◌, ◌≤◌, zero, suc, Bool, if◌then◌else◌, List, [], ◌∷◌, ◌++◌, take, drop, length, get_or, refl, sym, ap, subst, ◌∙◌, inl, inr, ◌⊎◌, arith, Ok, Err}
use Rattle.std.specs.Prelude.{nat_lt, fold}
use Rattle.std.specs.List.Sorted.{IsBinarySearchResult}
use Rattle.std.specs.Ordering.{nat_cmp}
use Rattle.std.proofs.lemmas.Bool.{cases_lt, cases_eq, eq-eqb, ne_eqb, lt-ltb, le-ltb}
use Rattle.std.proofs.lemmas.List.Sorted.{searched}
use Rattle.kern_model.specs.Inner.{line_of, with_line, lines_of, RisesFrom, IsAscending}

-- what stands where a line is, before the first of others and past it
with_same : (line l : ℕ) (ls : List ℕ) → line ≡ l → with_line line (l ∷ ls) ≡ l ∷ ls
with_same line l ls e = ap (λ (b : Bool). if b then l ∷ ls else (if nat_lt line l then line ∷ l ∷ ls else l ∷ with_line line ls)) (eq-eqb line l e)

with_less : (line l : ℕ) (ls : List ℕ) → line < l → with_line line (l ∷ ls) ≡ line ∷ l ∷ ls
with_less line l ls lt =
    ap (λ (b : Bool). if b then l ∷ ls else (if nat_lt line l then line ∷ l ∷ ls else l ∷ with_line line ls)) (ne_eqb line l (λ e. omega arith))
    ∙ ap (λ (b : Bool). if b then line ∷ l ∷ ls else l ∷ with_line line ls) (lt-ltb line l lt)

with_more : (line l : ℕ) (ls : List ℕ) → l < line → with_line line (l ∷ ls) ≡ l ∷ with_line line ls
with_more line l ls lt =
    ap (λ (b : Bool). if b then l ∷ ls else (if nat_lt line l then line ∷ l ∷ ls else l ∷ with_line line ls)) (ne_eqb line l (λ e. omega arith))
    ∙ ap (λ (b : Bool). if b then line ∷ l ∷ ls else l ∷ with_line line ls) (le-ltb line l (omega arith))

-- lines in order stay in order
rises_with : (line bound : ℕ) (ls : List ℕ) → bound ≤ line → RisesFrom bound ls → RisesFrom bound (with_line line ls)
rises_with line bound [] past rises = (past, tt)
rises_with line bound (l ∷ ls) past rises = by (cases_eq line l) (cases_lt line l) (λ more. rises_with line (l + 1) ls more rises.1)
  where
    by : (line ≡ l) ⊎ (line ≡ l → ⊥) → (line < l) ⊎ (l ≤ line) → (l + 1 ≤ line → RisesFrom (l + 1) (with_line line ls)) → RisesFrom bound (with_line line (l ∷ ls))
    by (inl e) order rest = subst (RisesFrom bound) (sym (with_same line l ls e)) rises
    by (inr ne) (inl lt) rest = subst (RisesFrom bound) (sym (with_less line l ls lt)) (past, (let h : line + 1 ≤ l = omega arith in h, rises.1))
    by (inr ne) (inr ge) rest =
        let lt : l < line = lt_of ge ne in
        subst (RisesFrom bound) (sym (with_more line l ls lt)) (rises.0, rest (let h : l + 1 ≤ line = omega arith in h))
      where
        lt_of : l ≤ line → (line ≡ l → ⊥) → l < line
        lt_of ge ne = omega (arith, ge, ne)

rises_fold : (lines : List ℕ) (pairs : List (ℕ × ℕ)) → IsAscending lines → IsAscending (fold (λ (ls : List ℕ) (p : ℕ × ℕ). with_line (line_of p.0) ls) lines pairs)
rises_fold lines [] rises = rises
rises_fold lines (p ∷ ps) rises = rises_fold (with_line (line_of p.0) lines) ps (rises_with (line_of p.0) 0 lines (omega arith) rises)

pub ascending_lines : (pairs : List (ℕ × ℕ)) → IsAscending (lines_of pairs)
ascending_lines pairs = rises_fold [] pairs tt

-- what follows is past the bound, and what follows that past it
past_bound : (bound : ℕ) (ls : List ℕ) (k : ℕ) → RisesFrom bound ls → k < length ls → bound ≤ get_or ls k 0
past_bound bound [] k rises lt = absurd (omega arith)
past_bound bound (l ∷ ls) zero rises lt = rises.0
past_bound bound (l ∷ ls) (suc k) rises lt = let more = past_bound (l + 1) ls k rises.1 (omega arith) in let least = rises.0 in omega (arith, more, least)

never_falls : (bound : ℕ) (ls : List ℕ) → RisesFrom bound ls → (i j : ℕ) → i ≤ j → j < length ls → get_or ls i 0 ≤ get_or ls j 0
never_falls bound [] rises i j le lt = absurd (omega arith)
never_falls bound (l ∷ ls) rises zero zero le lt = omega arith
never_falls bound (l ∷ ls) rises zero (suc j) le lt = let more = past_bound (l + 1) ls j rises.1 (omega arith) in omega (arith, more)
never_falls bound (l ∷ ls) rises (suc i) zero le lt = absurd (omega arith)
never_falls bound (l ∷ ls) rises (suc i) (suc j) le lt = never_falls (l + 1) ls rises.1 i j (omega arith) (omega arith)

-- a line that is there changes nothing
found_is : (line bound : ℕ) (ls : List ℕ) (place : ℕ) → RisesFrom bound ls → place < length ls → get_or ls place 0 ≡ line → ls ≡ with_line line ls
found_is line bound [] place rises lt at = absurd (omega arith)
found_is line bound (l ∷ ls) zero rises lt at = sym (with_same line l ls (sym at))
found_is line bound (l ∷ ls) (suc place) rises lt at =
    let past = past_bound (l + 1) ls place rises.1 (omega arith) in
    let more : l < line = omega (arith, past, at) in
    ap (λ (t : List ℕ). l ∷ t) (found_is line (l + 1) ls place rises.1 (omega arith) at) ∙ sym (with_more line l ls more)

-- a line that isn't goes in between
between_is : (line : ℕ) (ls : List ℕ) (place : ℕ) → place ≤ length ls → ((k : ℕ) → k < place → get_or ls k 0 < line) → ((k : ℕ) → place ≤ k → k < length ls → line < get_or ls k 0)
    → take place ls ++ line ∷ drop place ls ≡ with_line line ls
between_is line [] zero le below above = refl
between_is line [] (suc place) le below above = absurd (omega arith)
between_is line (l ∷ ls) zero le below above = sym (with_less line l ls (above 0 (omega arith) (omega arith)))
between_is line (l ∷ ls) (suc place) le below above =
    ap (λ (t : List ℕ). l ∷ t) (between_is line ls place (omega arith) (λ k lt. below (suc k) (omega arith)) (λ k ge lt. above (suc k) (omega arith) (omega arith)))
    ∙ sym (with_more line l ls (below 0 (omega arith)))

-- what a search in the lines in order shows
pub where_found : (line : ℕ) (ls xs : List ℕ) (place : ℕ) → IsAscending ls → xs ≡ ls → IsBinarySearchResult (λ y. nat_cmp y line) xs (Ok place) → ls ≡ with_line line ls
where_found line ls xs place rises same search =
    let found : IsBinarySearchResult (λ y. nat_cmp y line) ls (Ok place) = subst (λ (l : List ℕ). IsBinarySearchResult (λ y. nat_cmp y line) l (Ok place)) same search in
    let there = searched ls line (Ok place) found (never_falls 0 ls rises) in
    found_is line 0 ls place rises there.0 there.1

pub where_missing : (line : ℕ) (ls xs : List ℕ) (place : ℕ) → IsAscending ls → xs ≡ ls → IsBinarySearchResult (λ y. nat_cmp y line) xs (Err place) → take place ls ++ line ∷ drop place ls ≡ with_line line ls
where_missing line ls xs place rises same search =
    let missing : IsBinarySearchResult (λ y. nat_cmp y line) ls (Err place) = subst (λ (l : List ℕ). IsBinarySearchResult (λ y. nat_cmp y line) l (Err place)) same search in
    let there = searched ls line (Err place) missing (never_falls 0 ls rises) in
    between_is line ls place there.0 there.1 there.2
