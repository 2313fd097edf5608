-- The words after stores: each address that none goes to keeps its word.
use Rattle.std.proofs.Common.{◌≡◌, ◌≢◌, ℕ, zero, suc, ◌/◌, List, [], ◌∷◌, ◌++◌, take, refl, ap, ◌∙◌, eq-eqb, ne_eqb}
use Rattle.std.proofs.lemmas.Bool.{cond-true, cond-false}
use Rattle.zo_model.specs.Steps.{put as put_at}
use Rattle.zo_laws.specs.Stores.{after_stores}

pub put_here : (at : ℕ → ℕ) (addr word a : ℕ) → a ≡ addr → put_at at addr word a ≡ word
put_here at addr word a same = cond-true _ word (at a) (eq-eqb (a / 8) (addr / 8) (ap (λ (n : ℕ). n / 8) same))

pub put_other : (at : ℕ → ℕ) (addr word a : ℕ) → a / 8 ≢ addr / 8 → put_at at addr word a ≡ at a
put_other at addr word a other = cond-false _ word (at a) (ne_eqb (a / 8) (addr / 8) other)

-- each of these stores goes to an address of this kind
abbrev pub Within : (ℕ → Type 0) → List (ℕ × ℕ) → Type 0
Within S [] = Unit {0}
Within S (pair ∷ pairs) = S pair.0 × Within S pairs

pub within-append : (S : ℕ → Type 0) (front behind : List (ℕ × ℕ)) → Within S front → Within S behind → Within S (front ++ behind)
within-append S [] behind first second = second
within-append S (pair ∷ front) behind (one, rest) second = (one, within-append S front behind rest second)

pub within-take : (S : ℕ → Type 0) (made : ℕ) (pairs : List (ℕ × ℕ)) → Within S pairs → Within S (take made pairs)
within-take S zero pairs all = tt
within-take S (suc made) [] all = tt
within-take S (suc made) (pair ∷ pairs) (one, rest) = (one, within-take S made pairs rest)

pub within-weaker : (S T : ℕ → Type 0) → ((a : ℕ) → S a → T a) → (pairs : List (ℕ × ℕ)) → Within S pairs → Within T pairs
within-weaker S T weaker [] all = tt
within-weaker S T weaker (pair ∷ pairs) (one, rest) = (weaker pair.0 one, within-weaker S T weaker pairs rest)

-- stores that make no store to this word leave it
abbrev pub Aside : ℕ → ℕ → Type 0
Aside a addr = a / 8 ≢ addr / 8

pub after_aside : (at : ℕ → ℕ) (pairs : List (ℕ × ℕ)) (a : ℕ) → Within (Aside a) pairs → after_stores at pairs a ≡ at a
after_aside at [] a all = refl
after_aside at (pair ∷ pairs) a (other, rest) = after_aside (put_at at pair.0 pair.1) pairs a rest ∙ put_other at pair.0 pair.1 a other

pub after-append : (at : ℕ → ℕ) (front behind : List (ℕ × ℕ)) → after_stores at (front ++ behind) ≡ after_stores (after_stores at front) behind
after-append at [] behind = refl
after-append at (pair ∷ front) behind = after-append (put_at at pair.0 pair.1) front behind

-- the word that is stored there last
pub after_last : (at : ℕ → ℕ) (front behind : List (ℕ × ℕ)) (a word : ℕ) → Within (Aside a) behind → after_stores at (front ++ (a, word) ∷ behind) a ≡ word
after_last at [] behind a word aside = after_aside (put_at at a word) behind a aside ∙ put_here at a word a refl
after_last at (pair ∷ front) behind a word aside = after_last (put_at at pair.0 pair.1) front behind a word aside
