-- What is read once pairs are laid over what was read before.
use Rattle.std.proofs.Common.{◌≡◌, ℕ, zero, suc, ◌+◌, ◌<◌, ◌≤◌, List, [], ◌∷◌, ◌++◌, length, get_or, cond, Bool, nat_eq, refl, ap, ◌∙◌, arith, eq-eqb, ne_eqb}
use Rattle.zo_layout.specs.Layout.{word_of}
use Rattle.kern_model.specs.Journal.{laid_over}
use Rattle.kern_model.specs.PathMap.{from_address}
use Rattle.kern_roots.proofs.ChangingPairs.{placed}

pub laid_first : (a w : ℕ) (ps : List (ℕ × ℕ)) (addr d : ℕ) → a ≡ addr → laid_over ((a, w) ∷ ps) addr d ≡ laid_over ps addr w
laid_first a w ps addr d e = ap (λ (b : Bool). laid_over ps addr (cond b w d)) (eq-eqb a addr e)

pub laid_past : (a w : ℕ) (ps : List (ℕ × ℕ)) (addr d : ℕ) → (a ≡ addr → ⊥) → laid_over ((a, w) ∷ ps) addr d ≡ laid_over ps addr d
laid_past a w ps addr d ne = ap (λ (b : Bool). laid_over ps addr (cond b w d)) (ne_eqb a addr ne)

pub laid_one : (a w addr d : ℕ) → a ≡ addr → laid_over ((a, w) ∷ []) addr d ≡ w
laid_one a w addr d e = laid_first a w [] addr d e

pub laid_append : (ps qs : List (ℕ × ℕ)) (addr d : ℕ) → laid_over (ps ++ qs) addr d ≡ laid_over qs addr (laid_over ps addr d)
laid_append [] qs addr d = refl
laid_append (p ∷ ps) qs addr d = laid_append ps qs addr (cond (nat_eq p.0 addr) p.1 d)

-- Words in their places from an address on: none of the others changes, and each is read in its place.

pub miss_from : (start n : ℕ) (ws : List ℕ) (addr d : ℕ) → ((k : ℕ) → n ≤ k → k < n + length ws → word_of start k ≡ addr → ⊥) → laid_over (placed start n ws) addr d ≡ d
miss_from start n [] addr d apart = refl
miss_from start n (w ∷ ws) addr d apart =
    laid_past (word_of start n) w (placed start (n + 1) ws) addr d (apart n (omega arith) (omega arith))
    ∙ miss_from start (n + 1) ws addr d (λ k l h. apart k (omega arith) (omega arith))

hit_from : (start n : ℕ) (ws : List ℕ) (k d e : ℕ) → k < length ws → laid_over (placed start n ws) (word_of start (n + k)) d ≡ get_or ws k e
hit_from start n [] k d e h = absurd (omega arith)
hit_from start n (w ∷ ws) zero d e h =
    laid_first (word_of start n) w (placed start (n + 1) ws) (word_of start (n + 0)) d (omega arith)
    ∙ miss_from start (n + 1) ws (word_of start (n + 0)) w (λ k l m f. omega arith)
hit_from start n (w ∷ ws) (suc k) d e h =
    let step : n + suc k ≡ n + 1 + k = omega arith in
    laid_past (word_of start n) w (placed start (n + 1) ws) (word_of start (n + suc k)) d (λ f. omega arith)
    ∙ ap (λ (j : ℕ). laid_over (placed start (n + 1) ws) (word_of start j) d) step
    ∙ hit_from start (n + 1) ws k d e (omega arith)

pub laid_miss : (start : ℕ) (ws : List ℕ) (addr d : ℕ) → ((k : ℕ) → k < length ws → word_of start k ≡ addr → ⊥) → laid_over (from_address start ws) addr d ≡ d
laid_miss start ws addr d apart = miss_from start 0 ws addr d (λ k l h. apart k (omega arith))

pub laid_hit : (start : ℕ) (ws : List ℕ) (k d e : ℕ) → k < length ws → laid_over (from_address start ws) (word_of start k) d ≡ get_or ws k e
laid_hit start ws k d e h =
    let at : k ≡ 0 + k = omega arith in
    ap (λ (j : ℕ). laid_over (from_address start ws) (word_of start j) d) at ∙ hit_from start 0 ws k d e h
