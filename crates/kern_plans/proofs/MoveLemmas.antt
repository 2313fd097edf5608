-- Rows of calls by which a coffer comes or goes.
use Rattle.std.proofs.Common.{◌≡◌, ℕ, zero, suc, ◌+◌, ◌<◌, ◌≤◌, Bool, true, false, cond, not, List, [], ◌∷◌, ◌++◌, length, take, filter, find, get_or, Option, Some, None, is_some, Result, Ok, Err, IfOk, OnOk, refl, sym, ap, subst, ◌∙◌, arith, append-nil}
use Rattle.std.specs.Prelude.{nat_eq, nat_lt, nat_le, count_by, All, ◌||◌}
use Rattle.std.specs.List.{list_any}
use Rattle.std.proofs.lemmas.Bool.{and_parts, or_parts, not-false, ltb-true, leb-true, eq-eqb, ne_eqb}
use Rattle.std.proofs.lemmas.List.Elements.{filter_more}
use Rattle.std.proofs.lemmas.List.Recursion.{is_count_by}
use Rattle.pm_words.specs.Word.{Word}
use Rattle.kern_model.specs.KernelView.{pages_of}
use Rattle.kern_model.specs.Kernel.{kernel_owner}
use Rattle.kern_model.specs.KernelTables.{is_id, stands_in, coffers_in}
use Rattle.kern_model.specs.PathMap.{coffer_with}
use Rattle.kern_model.specs.KernelCalls.{Row, first_due, owns_page, is_bad_page, is_listed_twice, bad_address_page, not_yours, pages_refused, unlisted}
use Rattle.tr_types.specs.declared.kernel_call.KernAnswer.{KernAnswer}
use Rattle.kern_roots.specs.Entries.{has_id}
use Rattle.kern_roots.proofs.ReadingCoffers.{coffer_isnt}
use Rattle.kern_plans.specs.Plans.{Plan, Plans}
use Rattle.kern_plans.specs.Refusals.{TellsFirstDue}
use Rattle.kern_plans.specs.Stored.{plan_of}
use Rattle.kern_plans.proofs.CheckLemmas.{passed_on, refused_first, refused_later, refused_plan}

-- Rows.

-- refused by some in the middle, at the exit of a `?`
pub plan_stopped : (X : Type 0) (row : Row) (before part after : List (Option KernAnswer)) (refusal given : KernAnswer) (result : Result Plan KernAnswer)
    → row.refusals ≡ before ++ (part ++ after) → result ≡ Err given → given ≡ refusal → first_due before ≡ None → TellsFirstDue {X = X} part (Err refusal) → Plans row result
plan_stopped X row before part after refusal given result is err same none refused =
    subst (λ (r : Result Plan KernAnswer). Plans row r) (sym (err ∙ ap (λ (r : KernAnswer). Err r) same))
    (refused_plan X row refusal
    (subst (λ (rs : List (Option KernAnswer)). TellsFirstDue {X = X} rs (Err refusal)) (sym is) (refused_later X before (part ++ after) (Err refusal) none (refused_first X X part after refusal refused))))

-- the last part of a row's refusals, and its plan
pub plan_from : (row : Row) (before part : List (Option KernAnswer)) (plan : Plan) (result : Result Plan KernAnswer) → row.refusals ≡ before ++ part → first_due before ≡ None
    → TellsFirstDue part result → IfOk result (λ p. p ≡ plan) → plan ≡ plan_of row → length plan.granted ≤ 1024 → Plans row result
plan_from row before part plan (Ok p) is none passes same plan_is few = record {
  due = ap first_due is ∙ passed_on before part none ∙ passes;
  answer = ap (λ (q : Plan). q.answer) (same ∙ plan_is);
  granted = ap (λ (q : Plan). q.granted) (same ∙ plan_is);
  pairs = ap (λ (q : Plan). q.pairs) (same ∙ plan_is);
  few = let size = ap (λ (q : Plan). length q.granted) same in omega arith;
}
plan_from row before part plan (Err refusal) is none passes same plan_is few =
    refused_plan Plan row refusal (subst (λ (rs : List (Option KernAnswer)). TellsFirstDue {X = Plan} rs (Err refusal)) (sym is) (refused_later Plan before part (Err refusal) none passes))

-- one of two rows
pub plan_of_two : (test : Bool) (row other : Row) (result : Result Plan KernAnswer) → (test ≡ true → Plans row result) → (test ≡ false → Plans other result) → Plans (cond test row other) result
plan_of_two test row other result holds isnt = by test refl
  where
    by : (b : Bool) → test ≡ b → Plans (cond b row other) result
    by true is = holds is
    by false is = isnt is

pub few_first : (xs : List ℕ) → length (take 1 xs) ≤ 1024
few_first [] = omega arith
few_first (x ∷ xs) = omega arith

-- Pages that are listed.

pub two_due : (first : Option KernAnswer) (rest : List (Option KernAnswer)) → first_due (first ∷ rest) ≡ None → (first ≡ None) × (first_due rest ≡ None)
two_due None rest none = (refl, none)
two_due (Some refusal) rest none = cc

all_yours : (address page : Option ℕ) → not_yours address page ≡ None → page ≡ None
all_yours None None none = refl
all_yours (Some a) page none = cc
all_yours None (Some p) none = cc

found_none : (test : ℕ → Bool) (xs : List ℕ) → find test xs ≡ None → (k d : ℕ) → k < length xs → test (get_or xs k d) ≡ false
found_none test [] none k d lt = absurd (omega arith)
found_none test (x ∷ xs) none k d lt = by (test x) refl none k lt (found_none test xs)
  where
    by : (b : Bool) → test x ≡ b → cond b (Some x) (find test xs) ≡ None → (k : ℕ) → k < length (x ∷ xs)
        → (find test xs ≡ None → (j e : ℕ) → j < length xs → test (get_or xs j e) ≡ false) → test (get_or (x ∷ xs) k d) ≡ false
    by true is missed k lt later = cc
    by false is missed zero lt later = is
    by false is missed (suc k) lt later = later missed k d (omega arith)

good_page : (words : List Word) (id : ℕ) (kept pages : List ℕ) (page : ℕ) → is_bad_page words id kept pages page ≡ false → page < pages_of words
good_page words id kept pages page good =
    let first = or_parts (not (owns_page words id page) || list_any (λ p. nat_eq p page) kept) (is_listed_twice pages page) good in
    let second = or_parts (not (owns_page words id page)) (list_any (λ p. nat_eq p page) kept) first.0 in
    ltb-true page (pages_of words) (and_parts (nat_lt page (pages_of words)) (nat_eq (kernel_owner words page) id) (not-false (owns_page words id page) second.0)).0

-- where none of them refuses, they are pages of the image
pub listed_inside : (words : List Word) (parent id : ℕ) (addrs kept pages : List ℕ) → pages_refused words parent addrs id kept pages ≡ None → All (λ page. page < pages_of words) pages
listed_inside words parent id addrs kept pages none = λ k d lt.
    good_page words id kept pages (get_or pages k d)
    (found_none (is_bad_page words id kept pages) pages (all_yours (bad_address_page words parent addrs) (find (is_bad_page words id kept pages) pages) none) k d lt)

-- Pages that aren't listed.

counted : (ℕ → Bool) → List ℕ → ℕ
counted test [] = 0
counted test (x ∷ xs) = cond (test x) (1 + counted test xs) (counted test xs)

any_counted : (test : ℕ → Bool) (xs : List ℕ) → list_any test xs ≡ not (nat_eq (counted test xs) 0)
unfolding counted
any_counted test [] = refl
any_counted test (x ∷ xs) = by (test x) (any_counted test xs)
  where
    by : (b : Bool) → list_any test xs ≡ not (nat_eq (counted test xs) 0) → (b || list_any test xs) ≡ not (nat_eq (cond b (1 + counted test xs) (counted test xs)) 0)
    by true rest = sym (ap not (ne_eqb (1 + counted test xs) 0 (λ none. omega arith)))
    by false rest = rest

any_by_count : (test : ℕ → Bool) (xs : List ℕ) → list_any test xs ≡ not (nat_eq (count_by test xs) 0)
unfolding counted
any_by_count test xs = any_counted test xs ∙ ap (λ (n : ℕ). not (nat_eq n 0)) (is_count_by (counted test) test refl (λ x rest. refl) xs)

abbrev isnt_listed : List ℕ → ℕ → Bool
isnt_listed listed page = not (list_any (λ p. nat_eq p page) listed)

twice_not : (b : Bool) → not (not b) ≡ b
twice_not true = refl
twice_not false = refl

listed_by_count : (listed : List ℕ) (page n : ℕ) → n ≡ count_by (λ p. nat_eq p page) listed → isnt_listed listed page ≡ nat_eq n 0
listed_by_count listed page n is =
    ap not (any_by_count (λ p. nat_eq p page) listed) ∙ twice_not (nat_eq (count_by (λ p. nat_eq p page) listed) 0) ∙ ap (λ (k : ℕ). nat_eq k 0) (sym is)

pub rest_more : (listed pages old new : List ℕ) (i n : ℕ) → i < length pages → old ≡ unlisted listed (take i pages) → n ≡ count_by (λ p. nat_eq p (get_or pages i 0)) listed → n ≡ 0
    → new ≡ old ++ get_or pages i 0 ∷ [] → new ≡ unlisted listed (take (i + 1) pages)
rest_more listed pages old new i n lt old_is count none new_is =
    let page = get_or pages i 0 in
    new_is ∙ ap (λ (xs : List ℕ). xs ++ get_or pages i 0 ∷ []) old_is
    ∙ sym (filter_more (isnt_listed listed) pages i 0 lt
    ∙ ap (λ (b : Bool). filter (isnt_listed listed) (take i pages) ++ cond b (get_or pages i 0 ∷ []) []) (listed_by_count listed (get_or pages i 0) n count ∙ eq-eqb n 0 none))

pub rest_same : (listed pages old : List ℕ) (i n : ℕ) → i < length pages → old ≡ unlisted listed (take i pages) → n ≡ count_by (λ p. nat_eq p (get_or pages i 0)) listed → (n ≡ 0 → ⊥)
    → old ≡ unlisted listed (take (i + 1) pages)
rest_same listed pages old i n lt old_is count some =
    old_is
    ∙ sym (filter_more (isnt_listed listed) pages i 0 lt
    ∙ ap (λ (b : Bool). filter (isnt_listed listed) (take i pages) ++ cond b (get_or pages i 0 ∷ []) []) (listed_by_count listed (get_or pages i 0) n count ∙ ne_eqb n 0 some)
    ∙ append-nil (filter (isnt_listed listed) (take i pages)))

-- a coffer that is there has a number of at most 256
pub used_most : (pages : ℕ) (at : ℕ → ℕ) (id : ℕ) → is_some (coffer_with (coffers_in pages at) id) ≡ true → id ≤ 256
used_most pages at id used = by (has_id pages at id) refl
  where
    by : (b : Bool) → has_id pages at id ≡ b → id ≤ 256
    by true is = leb-true id 256 (and_parts (nat_le 1 id) (nat_le id 256) (and_parts (is_id id) (stands_in pages at id) is).0).1
    by false is = let both : true ≡ false = sym used ∙ ap is_some (coffer_isnt pages at id is) in cc

-- so it is where a check of them and of more passes
pub checked_inside : (words : List Word) (parent id : ℕ) (addrs kept pages : List ℕ) (rest : List (Option KernAnswer)) (result : Result (Unit {0}) KernAnswer)
    → TellsFirstDue (pages_refused words parent addrs id kept pages ∷ rest) result → OnOk result (All (λ page. page < pages_of words) pages)
checked_inside words parent id addrs kept pages rest (Ok passed) passes = listed_inside words parent id addrs kept pages (two_due (pages_refused words parent addrs id kept pages) rest passes).0
checked_inside words parent id addrs kept pages rest (Err refusal) passes = tt
