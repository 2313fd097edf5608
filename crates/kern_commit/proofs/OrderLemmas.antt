-- Pairs in order of address, of two for one word the later one alone.
use Rattle.std.proofs.Common.{◌≡◌, ◌≢◌, ◌⊎◌, inl, inr, ℕ, ◌+◌, ◌<◌, ◌≤◌, zero, suc, Bool, true, false, cond, List, [], ◌∷◌, length, take, get_or, nat_eq, refl, sym, ap, subst, ◌∙◌, arith, All, eq-eqb, ne_eqb}
use Rattle.std.specs.Prelude.{fold, nat_lt}
use Rattle.std.specs.List.{list_any}
use Rattle.std.specs.declared.cmp.Ordering.TheVariants.{Less, Equal, Greater}
use Rattle.std.specs.Ordering.{match_ordering, nat_cmp}
use Rattle.std.specs.BTreeMap.{insert_entry}
use Rattle.std.proofs.lemmas.Bool.{cases_eq, cases_lt, cond_both, lt-ltb, le-ltb, eqb-true, or_cases, false≢true}
use Rattle.std.proofs.lemmas.List.{take_more}
use Rattle.std.proofs.lemmas.List.Elements.{All-nil, All-cons, All-head, All-tail}
use Rattle.std.proofs.lemmas.List.Sums.{fold-append}
use Rattle.kern_model.specs.Inner.{laid_over}
use Rattle.kern_model.specs.JournalLaws.{IsUnnamed}
use Rattle.kern_model.specs.KernelCalls.{put_pair, in_order}
use Rattle.kern_model.proofs.LaidLemmas.{IsNamed, named_cases, laid_unnamed, laid_named}
use Rattle.kern_model.proofs.GivenSteps.{Rises}

-- a map in order of address takes a pair in the same way
insert_is : (es : List (ℕ × ℕ)) (p : ℕ × ℕ) → insert_entry nat_cmp es p.0 p.1 ≡ put_pair es p
insert_is [] p = refl
insert_is (e ∷ es) p = by (cases_eq p.0 e.0) (cases_lt p.0 e.0) (insert_is es p)
  where
    inserted : Bool → Bool → List (ℕ × ℕ)
    inserted less same = match_ordering (cond less Less (cond same Equal Greater)) (p ∷ e ∷ es) ((e.0, p.1) ∷ es) (e ∷ insert_entry nat_cmp es p.0 p.1)

    put : Bool → Bool → List (ℕ × ℕ)
    put less same = cond same (p ∷ es) (cond less (p ∷ e ∷ es) (e ∷ put_pair es p))

    by : (p.0 ≡ e.0) ⊎ (p.0 ≡ e.0 → ⊥) → (p.0 < e.0) ⊎ (e.0 ≤ p.0) → insert_entry nat_cmp es p.0 p.1 ≡ put_pair es p → insert_entry nat_cmp (e ∷ es) p.0 p.1 ≡ put_pair (e ∷ es) p
    by (inl same) less rest =
        ap (λ (b : Bool). inserted b (nat_eq p.0 e.0)) (le-ltb p.0 e.0 (omega (arith, same)))
        ∙ ap (inserted false) (eq-eqb p.0 e.0 same)
        ∙ ap (λ (at : ℕ). (at, p.1) ∷ es) (sym same)
        ∙ sym (ap (put (nat_lt p.0 e.0)) (eq-eqb p.0 e.0 same))
    by (inr ne) (inl less) rest =
        ap (λ (b : Bool). inserted b (nat_eq p.0 e.0)) (lt-ltb p.0 e.0 less)
        ∙ sym (ap (λ (b : Bool). put b false) (lt-ltb p.0 e.0 less))
        ∙ sym (ap (put (nat_lt p.0 e.0)) (ne_eqb p.0 e.0 ne))
    by (inr ne) (inr ge) rest =
        ap (λ (b : Bool). inserted b (nat_eq p.0 e.0)) (le-ltb p.0 e.0 ge)
        ∙ ap (inserted false) (ne_eqb p.0 e.0 ne)
        ∙ ap (λ (r : List (ℕ × ℕ)). e ∷ r) rest
        ∙ sym (ap (λ (b : Bool). put b false) (le-ltb p.0 e.0 ge))
        ∙ sym (ap (put (nat_lt p.0 e.0)) (ne_eqb p.0 e.0 ne))

pub one_inserted_more : (pairs : List (ℕ × ℕ)) (i : ℕ) (d : ℕ × ℕ) (old new : List (ℕ × ℕ)) → i < length pairs → old ≡ in_order (take i pairs)
    → new ≡ insert_entry nat_cmp old (get_or pairs i d).0 (get_or pairs i d).1 → new ≡ in_order (take (i + 1) pairs)
one_inserted_more pairs i d old new lt so_far is =
    is ∙ insert_is old (get_or pairs i d) ∙ ap (λ (es : List (ℕ × ℕ)). put_pair es (get_or pairs i d)) so_far
    ∙ sym (fold-append put_pair [] (take i pairs) (get_or pairs i d ∷ []))
    ∙ ap in_order (sym (take_more pairs i d lt))

-- Each address once.

-- what holds of the pairs holds of those in order
put_all : (P : ℕ × ℕ → Type 0) (qs : List (ℕ × ℕ)) (p : ℕ × ℕ) → P p → All P qs → All P (put_pair qs p)
put_all P [] p here all = All-cons P p [] here (All-nil P)
put_all P (q ∷ qs) p here all =
    cond_both (nat_eq p.0 q.0) (p ∷ qs) (cond (nat_lt p.0 q.0) (p ∷ q ∷ qs) (q ∷ put_pair qs p)) (All P) (λ same. All-cons P p qs here (All-tail P q qs all))
    (λ ne. cond_both (nat_lt p.0 q.0) (p ∷ q ∷ qs) (q ∷ put_pair qs p) (All P) (λ less. All-cons P p (q ∷ qs) here all)
    (λ ge. All-cons P q (put_pair qs p) (All-head P q qs all) (put_all P qs p here (All-tail P q qs all))))

fold_all : (P : ℕ × ℕ → Type 0) (acc ps : List (ℕ × ℕ)) → All P acc → All P ps → All P (fold put_pair acc ps)
fold_all P acc [] there all = there
fold_all P acc (p ∷ ps) there all = fold_all P (put_pair acc p) ps (put_all P acc p (All-head P p ps all) there) (All-tail P p ps all)

pub in_order_all : (P : ℕ × ℕ → Type 0) (pairs : List (ℕ × ℕ)) → All P pairs → All P (in_order pairs)
in_order_all P pairs all = fold_all P [] pairs (All-nil P) all

-- the addresses rise
put_rises : (bound : ℕ) (qs : List (ℕ × ℕ)) (p : ℕ × ℕ) → bound ≤ p.0 → Rises bound qs → Rises bound (put_pair qs p)
put_rises bound [] p le rises = (le, tt)
put_rises bound (q ∷ qs) p le (least, rises) = by (cases_eq p.0 q.0) (cases_lt p.0 q.0) (put_rises (q.0 + 1) qs p)
  where
    by : (p.0 ≡ q.0) ⊎ (p.0 ≡ q.0 → ⊥) → (p.0 < q.0) ⊎ (q.0 ≤ p.0) → (q.0 + 1 ≤ p.0 → Rises (q.0 + 1) qs → Rises (q.0 + 1) (put_pair qs p)) → Rises bound (put_pair (q ∷ qs) p)
    by (inl same) less rest =
        subst (λ (b : Bool). Rises bound (cond b (p ∷ qs) (cond (nat_lt p.0 q.0) (p ∷ q ∷ qs) (q ∷ put_pair qs p)))) (sym (eq-eqb p.0 q.0 same)) (le, subst (λ (at : ℕ). Rises (at + 1) qs) (sym same) rises)
    by (inr ne) (inl less) rest =
        subst (λ (b : Bool). Rises bound (cond b (p ∷ qs) (cond (nat_lt p.0 q.0) (p ∷ q ∷ qs) (q ∷ put_pair qs p)))) (sym (ne_eqb p.0 q.0 ne))
        (subst (λ (b : Bool). Rises bound (cond b (p ∷ q ∷ qs) (q ∷ put_pair qs p))) (sym (lt-ltb p.0 q.0 less)) (le, (omega (arith, less), rises)))
    by (inr ne) (inr ge) rest =
        subst (λ (b : Bool). Rises bound (cond b (p ∷ qs) (cond (nat_lt p.0 q.0) (p ∷ q ∷ qs) (q ∷ put_pair qs p)))) (sym (ne_eqb p.0 q.0 ne))
        (subst (λ (b : Bool). Rises bound (cond b (p ∷ q ∷ qs) (q ∷ put_pair qs p))) (sym (le-ltb p.0 q.0 ge)) (least, rest (omega (arith, ge, ne)) rises))

fold_rises : (acc ps : List (ℕ × ℕ)) → Rises 0 acc → Rises 0 (fold put_pair acc ps)
fold_rises acc [] rises = rises
fold_rises acc (p ∷ ps) rises = fold_rises (put_pair acc p) ps (put_rises 0 acc p (omega arith) rises)

pub in_order_rises : (pairs : List (ℕ × ℕ)) → Rises 0 (in_order pairs)
in_order_rises pairs = fold_rises [] pairs tt

-- What is laid over a word.

unnamed_below : (addr bound : ℕ) (ps : List (ℕ × ℕ)) → addr < bound → Rises bound ps → IsUnnamed ps addr
unnamed_below addr bound [] less rises = All-nil (λ (p : ℕ × ℕ). p.0 ≢ addr)
unnamed_below addr bound (p ∷ ps) less (least, rises) =
    All-cons (λ (q : ℕ × ℕ). q.0 ≢ addr) p ps (λ e. omega (arith, e, less, least)) (unnamed_below addr (p.0 + 1) ps (omega (arith, less, least)) rises)

-- the value of a pair that is the last one for its word
abbrev over : ℕ × ℕ → ℕ → ℕ → ℕ
over p addr under = cond (nat_eq p.0 addr) p.1 under

over_own : (p : ℕ × ℕ) (addr under : ℕ) → p.0 ≡ addr → over p addr under ≡ p.1
over_own p addr under same = ap (λ (b : Bool). cond b p.1 under) (eq-eqb p.0 addr same)

over_other : (p : ℕ × ℕ) (addr under : ℕ) → (p.0 ≡ addr → ⊥) → over p addr under ≡ under
over_other p addr under ne = ap (λ (b : Bool). cond b p.1 under) (ne_eqb p.0 addr ne)

-- pairs past a pair change nothing of its own value
laid_first : (p : ℕ × ℕ) (addr default : ℕ) (ps : List (ℕ × ℕ)) → Rises (p.0 + 1) ps → laid_over ps addr (over p addr default) ≡ over p addr (laid_over ps addr default)
laid_first p addr default ps rises = by (cases_eq p.0 addr)
  where
    by : (p.0 ≡ addr) ⊎ (p.0 ≡ addr → ⊥) → laid_over ps addr (over p addr default) ≡ over p addr (laid_over ps addr default)
    by (inl same) = ap (laid_over ps addr) (over_own p addr default same) ∙ laid_unnamed ps addr p.1 (unnamed_below addr (p.0 + 1) ps (omega (arith, same)) rises) ∙ sym (over_own p addr (laid_over ps addr default) same)
    by (inr ne) = ap (laid_over ps addr) (over_other p addr default ne) ∙ sym (over_other p addr (laid_over ps addr default) ne)

laid_put : (bound : ℕ) (qs : List (ℕ × ℕ)) (p : ℕ × ℕ) (addr default : ℕ) → Rises bound qs → laid_over (put_pair qs p) addr default ≡ over p addr (laid_over qs addr default)
laid_put bound [] p addr default rises = refl
laid_put bound (q ∷ qs) p addr default (least, rises) = by (cases_eq p.0 q.0) (cases_lt p.0 q.0) (laid_put (q.0 + 1) qs p addr (over q addr default) rises)
  where
    put : Bool → Bool → List (ℕ × ℕ)
    put same less = cond same (p ∷ qs) (cond less (p ∷ q ∷ qs) (q ∷ put_pair qs p))

    -- a pair for the same word is under the new one
    under : p.0 ≡ q.0 → over p addr (laid_over qs addr default) ≡ over p addr (laid_over qs addr (over q addr default))
    under same = by_place (cases_eq p.0 addr)
      where
        by_place : (p.0 ≡ addr) ⊎ (p.0 ≡ addr → ⊥) → over p addr (laid_over qs addr default) ≡ over p addr (laid_over qs addr (over q addr default))
        by_place (inl own) = over_own p addr (laid_over qs addr default) own ∙ sym (over_own p addr (laid_over qs addr (over q addr default)) own)
        by_place (inr other) = ap (λ (d : ℕ). over p addr (laid_over qs addr d)) (sym (over_other q addr default (λ e. other (same ∙ e))))

    by : (p.0 ≡ q.0) ⊎ (p.0 ≡ q.0 → ⊥) → (p.0 < q.0) ⊎ (q.0 ≤ p.0) → laid_over (put_pair qs p) addr (over q addr default) ≡ over p addr (laid_over qs addr (over q addr default))
        → laid_over (put_pair (q ∷ qs) p) addr default ≡ over p addr (laid_over (q ∷ qs) addr default)
    by (inl same) less rest =
        ap (λ (b : Bool). laid_over (put b (nat_lt p.0 q.0)) addr default) (eq-eqb p.0 q.0 same)
        ∙ laid_first p addr default qs (subst (λ (at : ℕ). Rises (at + 1) qs) (sym same) rises) ∙ under same
    by (inr ne) (inl less) rest =
        ap (λ (b : Bool). laid_over (put b (nat_lt p.0 q.0)) addr default) (ne_eqb p.0 q.0 ne) ∙ ap (λ (b : Bool). laid_over (put false b) addr default) (lt-ltb p.0 q.0 less)
        ∙ laid_first p addr default (q ∷ qs) (omega (arith, less), rises)
    by (inr ne) (inr ge) rest =
        ap (λ (b : Bool). laid_over (put b (nat_lt p.0 q.0)) addr default) (ne_eqb p.0 q.0 ne) ∙ ap (λ (b : Bool). laid_over (put false b) addr default) (le-ltb p.0 q.0 ge) ∙ rest

fold_laid : (acc ps : List (ℕ × ℕ)) (addr default : ℕ) → Rises 0 acc → laid_over (fold put_pair acc ps) addr default ≡ laid_over ps addr (laid_over acc addr default)
fold_laid acc [] addr default rises = refl
fold_laid acc (p ∷ ps) addr default rises =
    fold_laid (put_pair acc p) ps addr default (put_rises 0 acc p (omega arith) rises) ∙ ap (laid_over ps addr) (laid_put 0 acc p addr default rises)

pub laid_in_order : (pairs : List (ℕ × ℕ)) (addr default : ℕ) → laid_over (in_order pairs) addr default ≡ laid_over pairs addr default
laid_in_order pairs addr default = fold_laid [] pairs addr default tt

-- a word that some pair names is named by one in order
pub named_in_order : (pairs : List (ℕ × ℕ)) (addr : ℕ) → IsNamed pairs addr → IsNamed (in_order pairs) addr
named_in_order pairs addr named = by (named_cases (in_order pairs) addr)
  where
    by : IsUnnamed (in_order pairs) addr ⊎ IsNamed (in_order pairs) addr → IsNamed (in_order pairs) addr
    by (inl none) =
        let same : 0 ≡ 1 = sym (laid_unnamed (in_order pairs) addr 0 none) ∙ laid_in_order pairs addr 0 ∙ laid_named pairs addr 0 1 named ∙ sym (laid_in_order pairs addr 1) ∙ laid_unnamed (in_order pairs) addr 1 none in
        absurd (omega (arith, same))
    by (inr there) = there

-- the pair that names a word
pub named_place : (pairs : List (ℕ × ℕ)) (addr : ℕ) → IsNamed pairs addr → (k : ℕ) × (k < length pairs) × ((get_or pairs k (0, 0)).0 ≡ addr)
named_place [] addr named = absurd (false≢true named)
named_place (p ∷ ps) addr named = by (or_cases (nat_eq p.0 addr) (list_any (λ (q : ℕ × ℕ). nat_eq q.0 addr) ps) named) (named_place ps addr)
  where
    by : (nat_eq p.0 addr ≡ true) ⊎ IsNamed ps addr → (IsNamed ps addr → (k : ℕ) × (k < length ps) × ((get_or ps k (0, 0)).0 ≡ addr)) → (k : ℕ) × (k < length (p ∷ ps)) × ((get_or (p ∷ ps) k (0, 0)).0 ≡ addr)
    by (inl own) rest = (zero, (omega arith), eqb-true p.0 addr own)
    by (inr more) rest = let (k, lt, at) = rest more in (suc k, omega (arith, lt), at)
