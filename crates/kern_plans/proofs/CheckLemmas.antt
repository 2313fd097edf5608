-- Checks, one after the other: the first refusal that is due.
use Rattle.std.proofs.Common.{◌≡◌, ◌∙◌, ℕ, ◌+◌, ◌<◌, cond, drop, get_or, Bool, true, false, not, List, [], ◌∷◌, ◌++◌, length, Option, Some, None, Result, Ok, Err, refl, sym, ap, subst}
use Rattle.std.specs.Prelude.{nat_eq, nat_lt, ◌&&◌, slice_index, find, All, ◌||◌, is_ok, MatchResult}
use Rattle.std.proofs.lemmas.List.{at_drop_more}
use Rattle.std.proofs.lemmas.Bool.{lt-ltb, ltb-true, or_parts, and_parts, not-false}
use Rattle.std.proofs.lemmas.List.Elements.{All-nil, All-cons}
use Rattle.std.specs.List.{list_any}
use Rattle.pm_words.specs.Word.{Word}
use Rattle.kern_model.specs.KernelView.{pages_of}
use Rattle.kern_model.specs.Kernel.{kernel_owner}
use Rattle.kern_model.specs.KernelCalls.{Row, first_due, owns_page, is_bad_page, is_listed_twice, not_yours}
use Rattle.tr_types.specs.declared.kernel_call.KernAnswer.{KernAnswer}
use Rattle.tr_types.specs.declared.kernel_call.KernAnswer.TheVariants.{NoMemory, NotYours}
use Rattle.kern_pages.specs.Owners.{owners_of}
use Rattle.kern_pages.proofs.TellsLemmas.{tells}
use Rattle.kern_plans.specs.Refusals.{TellsFirstDue}
use Rattle.kern_plans.specs.Plans.{Plans}

-- where the first ones aren't due, the others count
pub passed_on : (before after : List (Option KernAnswer)) → first_due before ≡ None → first_due (before ++ after) ≡ first_due after
passed_on [] after none = refl
passed_on (None ∷ before) after none = passed_on before after none
passed_on (Some refusal ∷ before) after none = cc

pub refused_on : (before after : List (Option KernAnswer)) (refusal : KernAnswer) → first_due before ≡ Some refusal → first_due (before ++ after) ≡ Some refusal
refused_on [] after refusal is = cc
refused_on (None ∷ before) after refusal is = refused_on before after refusal is
refused_on (Some other ∷ before) after refusal is = is

-- one alone
pub first_alone : (due : Option KernAnswer) → first_due (due ∷ []) ≡ due
first_alone None = refl
first_alone (Some refusal) = refl

-- a refusal that is due
pub given_refused : (X : Type 0) (refusals : List (Option KernAnswer)) (refusal : KernAnswer) → first_due refusals ≡ Some refusal → TellsFirstDue {X = X} refusals (Err refusal)
given_refused X refusals NoMemory is = tt
given_refused X refusals refusal is = is

-- refused by one of the first ones
pub refused_first : (X Y : Type 0) (before after : List (Option KernAnswer)) (refusal : KernAnswer) → TellsFirstDue {X = X} before (Err refusal) → TellsFirstDue {X = Y} (before ++ after) (Err refusal)
refused_first X Y before after NoMemory is = tt
refused_first X Y before after refusal is = refused_on before after refusal is

-- refused, or not, by the later ones
pub refused_later : (X : Type 0) (before after : List (Option KernAnswer)) (result : Result X KernAnswer) → first_due before ≡ None → TellsFirstDue after result → TellsFirstDue (before ++ after) result
refused_later X before after (Ok x) none later = passed_on before after none ∙ later
refused_later X before after (Err NoMemory) none later = tt
refused_later X before after (Err refusal) none later = passed_on before after none ∙ later

-- refused by some in the middle, at the exit of a `?`
pub stopped : (X Y : Type 0) (ahead before after : List (Option KernAnswer)) (refusal given : KernAnswer) (result : Result Y KernAnswer) → result ≡ Err given → given ≡ refusal
    → first_due ahead ≡ None → TellsFirstDue {X = X} before (Err refusal) → TellsFirstDue {X = Y} (ahead ++ (before ++ after)) result
stopped X Y ahead before after refusal given result is same none refused =
    subst (λ (r : Result Y KernAnswer). TellsFirstDue {X = Y} (ahead ++ (before ++ after)) r) (sym (is ∙ ap (λ (r : KernAnswer). Err r) same))
    (refused_later Y ahead (before ++ after) (Err refusal) none (refused_first X Y before after refusal refused))

-- a plan is refused as its row's refusals say
pub refused_plan : (X : Type 0) (row : Row) (refusal : KernAnswer) → TellsFirstDue {X = X} row.refusals (Err refusal) → Plans row (Err refusal)
refused_plan X row NoMemory is = tt
refused_plan X row refusal is = is

-- whose a page is, by the list of owners
pub owned : (words : List Word) (page id owner : ℕ) → page < pages_of words → owner ≡ slice_index (owners_of words) page → nat_eq owner id ≡ owns_page words id page
owned words page id owner inside is =
    ap (λ (o : ℕ). nat_eq o id) (is ∙ (tells words).each page inside)
    ∙ sym (ap (λ (b : Bool). b && nat_eq (kernel_owner words page) id) (lt-ltb page (pages_of words) inside))

pub owners_size : (words : List Word) (owners : List ℕ) → owners ≡ owners_of words → length owners ≡ pages_of words
owners_size words owners is = ap (λ (xs : List ℕ). length xs) is ∙ (tells words).count

-- a search over a list, place by place
pub found_here : (test : ℕ → Bool) (xs : List ℕ) (i : ℕ) → i < length xs → find test (drop i xs) ≡ find test xs → test (get_or xs i 0) ≡ true → Some (get_or xs i 0) ≡ find test xs
found_here test xs i inside before hit =
    sym (ap (λ (b : Bool). cond b (Some (get_or xs i 0)) (find test (drop (i + 1) xs))) hit)
    ∙ sym (at_drop_more (find test) xs i 0 inside) ∙ before

pub found_later : (test : ℕ → Bool) (xs : List ℕ) (i : ℕ) → i < length xs → find test (drop i xs) ≡ find test xs → test (get_or xs i 0) ≡ false → find test (drop (i + 1) xs) ≡ find test xs
found_later test xs i inside before miss =
    sym (ap (λ (b : Bool). cond b (Some (get_or xs i 0)) (find test (drop (i + 1) xs))) miss)
    ∙ sym (at_drop_more (find test) xs i 0 inside) ∙ before

-- where no listed page is bad, each is a page of the image
pub listed_inside : (words : List Word) (id : ℕ) (kept all pages : List ℕ) → find (is_bad_page words id kept all) pages ≡ None → All (λ page. page < pages_of words) pages
listed_inside words id kept all [] none = All-nil (λ page. page < pages_of words)
listed_inside words id kept all (page ∷ pages) none = by (is_bad_page words id kept all page) refl (listed_inside words id kept all pages) none
  where
    inside : is_bad_page words id kept all page ≡ false → page < pages_of words
    inside good =
        let a = or_parts (not (owns_page words id page) || list_any (λ p. nat_eq p page) kept) (is_listed_twice all page) good in
        let b = or_parts (not (owns_page words id page)) (list_any (λ p. nat_eq p page) kept) a.0 in
        ltb-true page (pages_of words) (and_parts (nat_lt page (pages_of words)) (nat_eq (kernel_owner words page) id) (not-false (owns_page words id page) b.0)).0

    by : (bad : Bool) → is_bad_page words id kept all page ≡ bad → (find (is_bad_page words id kept all) pages ≡ None → All (λ page. page < pages_of words) pages) → cond bad (Some page) (find (is_bad_page words id kept all) pages) ≡ None → All (λ page. page < pages_of words) (page ∷ pages)
    by true is rest found = let both : Some page ≡ None = found in cc
    by false is rest later = All-cons (λ page. page < pages_of words) page pages (inside is) (rest later)

-- what isn't refused for its pages lists none that is bad
pub none_bad : (address page : Option ℕ) → not_yours address page ≡ None → page ≡ None
none_bad (Some a) page is = let both : Some (NotYours a) ≡ None = is in cc
none_bad None (Some p) is = let both : Some (NotYours p) ≡ None = is in cc
none_bad None None is = refl

-- the first of some refusals isn't due, and the others aren't either
pub first_none : (due : Option KernAnswer) (refusals : List (Option KernAnswer)) → first_due (due ∷ refusals) ≡ None → (due ≡ None) × (first_due refusals ≡ None)
first_none None refusals none = (refl, none)
first_none (Some refusal) refusals none = let both : Some refusal ≡ None = none in cc

-- what a `map_err` passed on
pub mapped_ok : (F : Type 0) {X E : Type 0} (r : Result X E) (x : X) (Q : E → Type 0) → true ≡ is_ok r → MatchResult r (λ y. ◌≡◌ {A = Result X F} (Ok x) (Ok y)) Q → r ≡ Ok x
mapped_ok F (Ok y) x Q ok is = let same : x ≡ y = cc in ap (λ z. Ok z) (sym same)
mapped_ok F (Err e) x Q ok is = let both : true ≡ false = ok in cc
