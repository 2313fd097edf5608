-- Laws of the marks of a word.
use Rattle.std.proofs.Common.{◌≡◌, ◌≢◌, ℕ, zero, suc, ◌-◌, Bool, cond, if◌then◌else◌, List, [], ◌∷◌, map, nat_eq, refl, sym, ap, ◌∙◌, inl, inr, ◌⊎◌, arith}
use Rattle.std.proofs.lemmas.Bool.{cases_eq, eq-eqb, ne_eqb}
use Rattle.pm_words.specs.Marks.{with_first, trimmed, mark_at, written, put_mark, less_marks}

mark_with_first : (x : ℕ) (xs : List ℕ) (t : ℕ) → mark_at (with_first x xs) t ≡ mark_at (x ∷ xs) t
mark_with_first zero [] zero = refl
mark_with_first zero [] (suc t) = refl
mark_with_first (suc x) [] t = ap (λ (b : Bool). mark_at (if b then [] else suc x ∷ []) t) (ne_eqb (suc x) 0 (λ e. omega arith))
mark_with_first x (y ∷ ys) t = refl

mark_trimmed : (xs : List ℕ) (t : ℕ) → mark_at (trimmed xs) t ≡ mark_at xs t
mark_trimmed [] t = refl
mark_trimmed (x ∷ xs) zero = mark_with_first x (trimmed xs) zero
mark_trimmed (x ∷ xs) (suc t) = mark_with_first x (trimmed xs) (suc t) ∙ mark_trimmed xs t

-- two lists that show the same are the same without the zeros at their ends
same_trimmed : (xs ys : List ℕ) → ((t : ℕ) → mark_at xs t ≡ mark_at ys t) → trimmed xs ≡ trimmed ys
same_trimmed [] [] same = refl
same_trimmed [] (y ∷ ys) same =
    let rest = same_trimmed [] ys (λ t. same (suc t)) in
    ap (λ (l : List ℕ). with_first 0 l) rest ∙ ap (λ (n : ℕ). with_first n (trimmed ys)) (same 0)
same_trimmed (x ∷ xs) [] same =
    let rest = same_trimmed xs [] (λ t. same (suc t)) in
    ap (λ (l : List ℕ). with_first x l) rest ∙ ap (λ (n : ℕ). with_first n []) (same 0)
same_trimmed (x ∷ xs) (y ∷ ys) same =
    let rest = same_trimmed xs ys (λ t. same (suc t)) in
    ap (λ (l : List ℕ). with_first x l) rest ∙ ap (λ (n : ℕ). with_first n (trimmed ys)) (same 0)

-- a list with no zero at its end
abbrev pub IsTrimmed : List ℕ → Type 0
IsTrimmed xs = trimmed xs ≡ xs

trimmed_twice : (xs : List ℕ) → IsTrimmed (trimmed xs)
trimmed_twice xs = same_trimmed (trimmed xs) xs (mark_trimmed xs)

pub equal_marks : (xs ys : List ℕ) → IsTrimmed xs → IsTrimmed ys → ((t : ℕ) → mark_at xs t ≡ mark_at ys t) → xs ≡ ys
equal_marks xs ys one two same = sym one ∙ same_trimmed xs ys same ∙ two

pub trimmed_none : IsTrimmed []
trimmed_none = refl

pub trimmed_put : (marks : List ℕ) (thread gone : ℕ) → IsTrimmed (put_mark marks thread gone)
unfolding put_mark
trimmed_put marks thread gone = trimmed_twice (written marks thread gone)

pub trimmed_less : (gone : ℕ) (marks : List ℕ) → IsTrimmed (less_marks gone marks)
unfolding less_marks
trimmed_less gone marks = trimmed_twice (map (λ mark. mark - gone) marks)

eqb_suc : (t thread : ℕ) → nat_eq t thread ≡ nat_eq (suc t) (suc thread)
eqb_suc t thread = by (cases_eq t thread)
  where
    by : (t ≡ thread) ⊎ (t ≡ thread → ⊥) → nat_eq t thread ≡ nat_eq (suc t) (suc thread)
    by (inl e) = eq-eqb t thread e ∙ sym (eq-eqb (suc t) (suc thread) (ap suc e))
    by (inr ne) = ne_eqb t thread ne ∙ sym (ne_eqb (suc t) (suc thread) (λ e. ne (omega arith)))

mark_written : (xs : List ℕ) (thread gone t : ℕ) → mark_at (written xs thread gone) t ≡ cond (nat_eq t thread) gone (mark_at xs t)
mark_written [] zero gone zero = refl
mark_written [] zero gone (suc t) = sym (ap (λ (b : Bool). cond b gone 0) (ne_eqb (suc t) 0 (λ e. omega arith)))
mark_written [] (suc thread) gone zero = sym (ap (λ (b : Bool). cond b gone 0) (ne_eqb 0 (suc thread) (λ e. omega arith)))
mark_written [] (suc thread) gone (suc t) = mark_written [] thread gone t ∙ ap (λ (b : Bool). cond b gone 0) (eqb_suc t thread)
mark_written (x ∷ xs) zero gone zero = refl
mark_written (x ∷ xs) zero gone (suc t) = sym (ap (λ (b : Bool). cond b gone (mark_at xs t)) (ne_eqb (suc t) 0 (λ e. omega arith)))
mark_written (x ∷ xs) (suc thread) gone zero = sym (ap (λ (b : Bool). cond b gone x) (ne_eqb 0 (suc thread) (λ e. omega arith)))
mark_written (x ∷ xs) (suc thread) gone (suc t) = mark_written xs thread gone t ∙ ap (λ (b : Bool). cond b gone (mark_at xs t)) (eqb_suc t thread)

pub mark_put : (marks : List ℕ) (thread gone t : ℕ) → mark_at (put_mark marks thread gone) t ≡ cond (nat_eq t thread) gone (mark_at marks t)
unfolding put_mark
mark_put marks thread gone t = mark_trimmed (written marks thread gone) t ∙ mark_written marks thread gone t

mark_lowered : (gone : ℕ) (xs : List ℕ) (t : ℕ) → mark_at (map (λ mark. mark - gone) xs) t ≡ mark_at xs t - gone
mark_lowered gone [] t = let none : 0 ≡ 0 - gone = omega arith in none
mark_lowered gone (x ∷ xs) zero = refl
mark_lowered gone (x ∷ xs) (suc t) = mark_lowered gone xs t

pub mark_less : (gone : ℕ) (marks : List ℕ) (t : ℕ) → mark_at (less_marks gone marks) t ≡ mark_at marks t - gone
unfolding less_marks
mark_less gone marks t = mark_trimmed (map (λ mark. mark - gone) marks) t ∙ mark_lowered gone marks t

pub mark_put_same : (marks : List ℕ) (thread gone : ℕ) → mark_at (put_mark marks thread gone) thread ≡ gone
mark_put_same marks thread gone = mark_put marks thread gone thread ∙ ap (λ (b : Bool). cond b gone (mark_at marks thread)) (eq-eqb thread thread refl)

pub mark_put_other : (marks : List ℕ) (thread gone t : ℕ) → t ≢ thread → mark_at (put_mark marks thread gone) t ≡ mark_at marks t
mark_put_other marks thread gone t ne = mark_put marks thread gone t ∙ ap (λ (b : Bool). cond b gone (mark_at marks t)) (ne_eqb t thread ne)
