-- Which words pairs name, and which values they give.
use Rattle.std.proofs.Common.{◌≡◌, ◌≢◌, ℕ, ◌+◌, ◌/◌, ◌<◌, zero, suc, Bool, true, false, if◌then◌else◌, List, [], ◌∷◌, length, get_or, map, nat_eq, refl, sym, ap, subst, ◌∙◌, inl, inr, ◌⊎◌, arith}
use Rattle.std.specs.Prelude.{nat_lt, fold}
use Rattle.std.specs.List.{list_any, AllByRecursion, IsDistinct}
use Rattle.std.proofs.lemmas.Bool.{cases_eq, cond_both, eq-eqb, ne_eqb, eqb-true, eqb-false, or_cases, or_left, or_right, false≢true}
use Rattle.std.proofs.lemmas.List.Elements.{All-nil, All-cons, All-head, All-tail}
use Rattle.std.proofs.lemmas.Map.Keys.{IsDistinct-head, IsDistinct-tail}
use Rattle.zo_layout.specs.Layout.{pair_address, pair_value}
use Rattle.kern_model.specs.Inner.{line_of, with_line, lines_of}
use Rattle.kern_model.specs.Inner.{laid_over, journal_words}
use Rattle.kern_model.specs.JournalLaws.{IsUnnamed}
use Rattle.kern_model.proofs.WordSteps.{HasLine}

-- some pair is for the word at an address
abbrev pub IsNamed : List (ℕ × ℕ) → ℕ → Type 0
IsNamed pairs addr = list_any (λ (p : ℕ × ℕ). nat_eq p.0 addr) pairs ≡ true

pub named_at : (pairs : List (ℕ × ℕ)) (k : ℕ) (d : ℕ × ℕ) → k < length pairs → IsNamed pairs (get_or pairs k d).0
named_at [] k d lt = absurd (omega arith)
named_at (p ∷ ps) zero d lt = or_left (nat_eq p.0 p.0) (list_any (λ (q : ℕ × ℕ). nat_eq q.0 p.0) ps) (eq-eqb p.0 p.0 refl)
named_at (p ∷ ps) (suc k) d lt =
    or_right (nat_eq p.0 (get_or ps k d).0) (list_any (λ (q : ℕ × ℕ). nat_eq q.0 (get_or ps k d).0) ps) (named_at ps k d (omega arith))

pub named_cases : (pairs : List (ℕ × ℕ)) (addr : ℕ) → IsUnnamed pairs addr ⊎ IsNamed pairs addr
named_cases [] addr = inl (All-nil (λ (p : ℕ × ℕ). p.0 ≢ addr))
named_cases (p ∷ ps) addr = by (cases_eq p.0 addr) (named_cases ps addr)
  where
    by : (p.0 ≡ addr) ⊎ (p.0 ≡ addr → ⊥) → IsUnnamed ps addr ⊎ IsNamed ps addr → IsUnnamed (p ∷ ps) addr ⊎ IsNamed (p ∷ ps) addr
    by (inl e) rest = inr (or_left (nat_eq p.0 addr) (list_any (λ (q : ℕ × ℕ). nat_eq q.0 addr) ps) (eq-eqb p.0 addr e))
    by (inr ne) (inl none) = inl (All-cons (λ (q : ℕ × ℕ). q.0 ≢ addr) p ps ne none)
    by (inr ne) (inr some) = inr (or_right (nat_eq p.0 addr) (list_any (λ (q : ℕ × ℕ). nat_eq q.0 addr) ps) some)

-- the line of each pair is among the lines
with_own : (t : ℕ → Bool) (line : ℕ) (ls : List ℕ) → t line ≡ true → list_any t (with_line line ls) ≡ true
with_own t line [] own = or_left (t line) false own
with_own t line (l ∷ ls) own =
    cond_both (nat_eq line l) (l ∷ ls) (if nat_lt line l then line ∷ l ∷ ls else l ∷ with_line line ls) (λ (lines : List ℕ). list_any t lines ≡ true)
    (λ e. or_left (t l) (list_any t ls) (subst (λ (n : ℕ). t n ≡ true) (eqb-true line l e) own))
    (λ ne. cond_both (nat_lt line l) (line ∷ l ∷ ls) (l ∷ with_line line ls) (λ (lines : List ℕ). list_any t lines ≡ true)
    (λ lt. or_left (t line) (list_any t (l ∷ ls)) own) (λ ge. or_right (t l) (list_any t (with_line line ls)) (with_own t line ls own)))

with_kept : (t : ℕ → Bool) (line : ℕ) (ls : List ℕ) → list_any t ls ≡ true → list_any t (with_line line ls) ≡ true
with_kept t line [] has = absurd (false≢true has)
with_kept t line (l ∷ ls) has =
    cond_both (nat_eq line l) (l ∷ ls) (if nat_lt line l then line ∷ l ∷ ls else l ∷ with_line line ls) (λ (lines : List ℕ). list_any t lines ≡ true) (λ e. has)
    (λ ne. cond_both (nat_lt line l) (line ∷ l ∷ ls) (l ∷ with_line line ls) (λ (lines : List ℕ). list_any t lines ≡ true)
    (λ lt. or_right (t line) (list_any t (l ∷ ls)) has) (λ ge. by (or_cases (t l) (list_any t ls) has) (with_kept t line ls)))
  where
    by : (t l ≡ true) ⊎ (list_any t ls ≡ true) → (list_any t ls ≡ true → list_any t (with_line line ls) ≡ true) → list_any t (l ∷ with_line line ls) ≡ true
    by (inl own) rest = or_left (t l) (list_any t (with_line line ls)) own
    by (inr more) rest = or_right (t l) (list_any t (with_line line ls)) (rest more)

lines_any : (t : ℕ → Bool) (lines : List ℕ) (pairs : List (ℕ × ℕ)) → (list_any t lines ≡ true) ⊎ (list_any (λ (p : ℕ × ℕ). t (line_of p.0)) pairs ≡ true)
    → list_any t (fold (λ (ls : List ℕ) (p : ℕ × ℕ). with_line (line_of p.0) ls) lines pairs) ≡ true
lines_any t lines [] (inl has) = has
lines_any t lines [] (inr has) = absurd (false≢true has)
lines_any t lines (p ∷ ps) (inl has) = lines_any t (with_line (line_of p.0) lines) ps (inl (with_kept t (line_of p.0) lines has))
lines_any t lines (p ∷ ps) (inr has) = lines_any t (with_line (line_of p.0) lines) ps (by (or_cases (t (line_of p.0)) (list_any (λ (q : ℕ × ℕ). t (line_of q.0)) ps) has))
  where
    by : (t (line_of p.0) ≡ true) ⊎ (list_any (λ (q : ℕ × ℕ). t (line_of q.0)) ps ≡ true)
        → (list_any t (with_line (line_of p.0) lines) ≡ true) ⊎ (list_any (λ (q : ℕ × ℕ). t (line_of q.0)) ps ≡ true)
    by (inl own) = inl (with_own t (line_of p.0) lines own)
    by (inr more) = inr more

named_line : (pairs : List (ℕ × ℕ)) (addr : ℕ) → IsNamed pairs addr → list_any (λ (p : ℕ × ℕ). nat_eq (addr / 8 / 8) (line_of p.0 / 64)) pairs ≡ true
named_line [] addr has = absurd (false≢true has)
named_line (p ∷ ps) addr has = by (or_cases (nat_eq p.0 addr) (list_any (λ (q : ℕ × ℕ). nat_eq q.0 addr) ps) has) (named_line ps addr)
  where
    by : (nat_eq p.0 addr ≡ true) ⊎ IsNamed ps addr → (IsNamed ps addr → list_any (λ (q : ℕ × ℕ). nat_eq (addr / 8 / 8) (line_of q.0 / 64)) ps ≡ true)
        → list_any (λ (q : ℕ × ℕ). nat_eq (addr / 8 / 8) (line_of q.0 / 64)) (p ∷ ps) ≡ true
    by (inl e) rest =
        let same : p.0 ≡ addr = eqb-true p.0 addr e in
        let line : addr / 8 / 8 ≡ line_of p.0 / 64 = omega (arith, same) in
        or_left (nat_eq (addr / 8 / 8) (line_of p.0 / 64)) (list_any (λ (q : ℕ × ℕ). nat_eq (addr / 8 / 8) (line_of q.0 / 64)) ps) (eq-eqb (addr / 8 / 8) (line_of p.0 / 64) line)
    by (inr more) rest = or_right (nat_eq (addr / 8 / 8) (line_of p.0 / 64)) (list_any (λ (q : ℕ × ℕ). nat_eq (addr / 8 / 8) (line_of q.0 / 64)) ps) (rest more)

pub has_line : (pairs : List (ℕ × ℕ)) (addr : ℕ) → IsNamed pairs addr → HasLine addr (lines_of pairs)
has_line pairs addr named = lines_any (λ (line : ℕ). nat_eq (addr / 8 / 8) (line / 64)) [] pairs (inr (named_line pairs addr named))

-- what is laid over a word that no pair names, and over one that some pair names
pub laid_unnamed : (pairs : List (ℕ × ℕ)) (addr default : ℕ) → IsUnnamed pairs addr → laid_over pairs addr default ≡ default
laid_unnamed [] addr default none = refl
laid_unnamed (p ∷ ps) addr default none =
    ap (λ (b : Bool). laid_over ps addr (if b then p.1 else default)) (ne_eqb p.0 addr (All-head (λ (q : ℕ × ℕ). q.0 ≢ addr) p ps none))
    ∙ laid_unnamed ps addr default (All-tail (λ (q : ℕ × ℕ). q.0 ≢ addr) p ps none)

pub laid_named : (pairs : List (ℕ × ℕ)) (addr one two : ℕ) → IsNamed pairs addr → laid_over pairs addr one ≡ laid_over pairs addr two
laid_named [] addr one two has = absurd (false≢true has)
laid_named (p ∷ ps) addr one two has = by (or_cases (nat_eq p.0 addr) (list_any (λ (q : ℕ × ℕ). nat_eq q.0 addr) ps) has) (laid_named ps addr)
  where
    by : (nat_eq p.0 addr ≡ true) ⊎ IsNamed ps addr → ((a b : ℕ) → IsNamed ps addr → laid_over ps addr a ≡ laid_over ps addr b) → laid_over (p ∷ ps) addr one ≡ laid_over (p ∷ ps) addr two
    by (inl e) rest =
        ap (λ (b : Bool). laid_over ps addr (if b then p.1 else one)) e ∙ sym (ap (λ (b : Bool). laid_over ps addr (if b then p.1 else two)) e)
    by (inr more) rest = rest (if nat_eq p.0 addr then p.1 else one) (if nat_eq p.0 addr then p.1 else two) more

-- pairs for different words: each gives its own value
unnamed_rest : (addr : ℕ) (ps : List (ℕ × ℕ)) → AllByRecursion (λ (y : ℕ). nat_eq addr y ≡ false) (map (λ (p : ℕ × ℕ). p.0) ps) → IsUnnamed ps addr
unnamed_rest addr [] none = All-nil (λ (p : ℕ × ℕ). p.0 ≢ addr)
unnamed_rest addr (p ∷ ps) none = All-cons (λ (q : ℕ × ℕ). q.0 ≢ addr) p ps (λ e. eqb-false addr p.0 none.0 (sym e)) (unnamed_rest addr ps none.1)

pub laid_own : (pairs : List (ℕ × ℕ)) (k : ℕ) (d : ℕ × ℕ) (default : ℕ) → k < length pairs → IsDistinct nat_eq (map (λ (p : ℕ × ℕ). p.0) pairs)
    → laid_over pairs (get_or pairs k d).0 default ≡ (get_or pairs k d).1
laid_own [] k d default lt apart = absurd (omega arith)
laid_own (p ∷ ps) zero d default lt apart =
    ap (λ (b : Bool). laid_over ps p.0 (if b then p.1 else default)) (eq-eqb p.0 p.0 refl)
    ∙ laid_unnamed ps p.0 p.1 (unnamed_rest p.0 ps (IsDistinct-head nat_eq p.0 (map (λ (q : ℕ × ℕ). q.0) ps) apart))
laid_own (p ∷ ps) (suc k) d default lt apart =
    laid_own ps k d (if nat_eq p.0 (get_or ps k d).0 then p.1 else default) (omega arith) (IsDistinct-tail nat_eq p.0 (map (λ (q : ℕ × ℕ). q.0) ps) apart)

-- the words of the journal are different ones
words_past : (bound i : ℕ) (pairs : List (ℕ × ℕ)) → bound < pair_address i → AllByRecursion (λ (y : ℕ). nat_eq bound y ≡ false) (map (λ (p : ℕ × ℕ). p.0) (journal_words i pairs))
words_past bound i [] lt = tt
words_past bound i (p ∷ ps) lt =
    (ne_eqb bound (pair_address i) (λ e. omega (arith, lt, e)), (ne_eqb bound (pair_value i) (λ e. omega (arith, lt, e)), words_past bound (i + 1) ps (omega (arith, lt))))

pub words_apart : (i : ℕ) (pairs : List (ℕ × ℕ)) → IsDistinct nat_eq (map (λ (p : ℕ × ℕ). p.0) (journal_words i pairs))
unfolding IsDistinct
words_apart i [] = tt
words_apart i (p ∷ ps) =
    let next : pair_value i < pair_address (i + 1) = omega arith in
    let first : pair_address i < pair_address (i + 1) = omega arith in
    ((ne_eqb (pair_address i) (pair_value i) (λ e. omega (arith, e)), words_past (pair_address i) (i + 1) ps first), (words_past (pair_value i) (i + 1) ps next, words_apart (i + 1) ps))
