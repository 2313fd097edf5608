-- What holds where no refusal of a row is due.
use Rattle.std.proofs.Common.{◌≡◌, ◌⊎◌, inl, inr, ℕ, ◌<◌, Bool, true, false, cond, not, List, [], ◌∷◌, Option, Some, None, refl, sym, ap, subst, ◌∙◌, nat_eq, nat_lt}
use Rattle.std.specs.Prelude.{All, ◌&&◌, ◌||◌, find, is_some}
use Rattle.std.specs.List.{list_any, AllByRecursion}
use Rattle.std.proofs.lemmas.Bool.{cases_Bool, and_parts, or_cases, or_parts, eqb-true, ltb-true, not-false}
use Rattle.std.proofs.lemmas.List.Elements.{All-head, All-tail, All-from_recursion}
use Rattle.pm_words.specs.Word.{Word}
use Rattle.kern_model.specs.KernelView.{pages_of}
use Rattle.kern_model.specs.Journal.{kernel_word}
use Rattle.kern_model.specs.KernelTables.{coffer_in, coffers_in, owner_in}
use Rattle.kern_model.specs.Kernel.{kernel_owner}
use Rattle.kern_model.specs.PathMap.{coffer_with}
use Rattle.kern_model.specs.Rights.{is_row_of}
use Rattle.kern_model.specs.KernelCalls.{refused_where, first_due, owns_page, is_listed_twice, is_bad_page, not_yours, or_none, named}
use Rattle.tr_types.specs.declared.kernel_call.KernAnswer.{KernAnswer}
use Rattle.tr_types.specs.declared.kernel_call.Holder.{Holder}
use Rattle.kern_owner.specs.Owners.{is_among}
use Rattle.kern_roots.specs.Entries.{has_id}
use Rattle.kern_roots.proofs.ReadingCoffers.{coffer_is, coffer_isnt}

-- Refusals, one after another.

pub test_fails : (test : Bool) (refusal : KernAnswer) (rest : List (Option KernAnswer)) → first_due (refused_where test refusal ∷ rest) ≡ None → (test ≡ false) × (first_due rest ≡ None)
test_fails false refusal rest due = (refl, due)
test_fails true refusal rest due = cc

pub none_due : (first : Option KernAnswer) (rest : List (Option KernAnswer)) → first_due (first ∷ rest) ≡ None → (first ≡ None) × (first_due rest ≡ None)
none_due None rest due = (refl, due)
none_due (Some refusal) rest due = cc

pub all_yours : (one two : Option ℕ) → not_yours one two ≡ None → (one ≡ None) × (two ≡ None)
all_yours None None is = (refl, refl)
all_yours None (Some page) is = cc
all_yours (Some page) two is = cc

-- Listed pages.

passes_none : (test : ℕ → Bool) (xs : List ℕ) → find test xs ≡ None → AllByRecursion (λ (x : ℕ). test x ≡ false) xs
passes_none test [] is = tt
passes_none test (x ∷ xs) is = by (test x) refl is (passes_none test xs)
  where
    by : (b : Bool) → test x ≡ b → cond b (Some x) (find test xs) ≡ None → (find test xs ≡ None → AllByRecursion (λ (y : ℕ). test y ≡ false) xs) → AllByRecursion (λ (y : ℕ). test y ≡ false) (x ∷ xs)
    by true here none later = cc
    by false here none later = (here, later none)

-- a listed page is one of the coffer's, none of those that it keeps, and isn't listed twice
pub record IsGood (words : List Word) (id : ℕ) (kept pages : List ℕ) (page : ℕ) : Type 0 where
  pub inside : page < pages_of words
  pub owner : owner_in (pages_of words) (kernel_word words) page ≡ id
  pub spares : list_any (λ p. nat_eq p page) kept ≡ false
  pub once : is_listed_twice pages page ≡ false

good_page : (words : List Word) (id : ℕ) (kept pages : List ℕ) (page : ℕ) → is_bad_page words id kept pages page ≡ false → IsGood words id kept pages page
good_page words id kept pages page good =
    let first = or_parts (not (owns_page words id page) || list_any (λ p. nat_eq p page) kept) (is_listed_twice pages page) good in
    let second = or_parts (not (owns_page words id page)) (list_any (λ p. nat_eq p page) kept) first.0 in
    let owned = and_parts (nat_lt page (pages_of words)) (nat_eq (kernel_owner words page) id) (not-false (owns_page words id page) second.0) in
    record { inside = ltb-true page (pages_of words) owned.0; owner = eqb-true (kernel_owner words page) id owned.1; spares = second.1; once = first.1 }

pub good_pages : (words : List Word) (id : ℕ) (kept pages : List ℕ) → find (is_bad_page words id kept pages) pages ≡ None → All (IsGood words id kept pages) pages
good_pages words id kept pages is = All-from_recursion (IsGood words id kept pages) pages (each pages (passes_none (is_bad_page words id kept pages) pages is))
  where
    each : (xs : List ℕ) → AllByRecursion (λ (x : ℕ). is_bad_page words id kept pages x ≡ false) xs → AllByRecursion (IsGood words id kept pages) xs
    each [] all = tt
    each (x ∷ xs) all = (good_page words id kept pages x all.0, each xs all.1)

-- what holds of each page of a list holds of one that is among them
pub among_all : (P : ℕ → Type 0) (list : List ℕ) (page : ℕ) → All P list → is_among list page ≡ true → P page
among_all P [] page all is = absurd (cc)
among_all P (x ∷ xs) page all is = by (or_cases (nat_eq page x) (is_among xs page) is) (among_all P xs page (All-tail P x xs all))
  where
    by : (nat_eq page x ≡ true) ⊎ (is_among xs page ≡ true) → (is_among xs page ≡ true → P page) → P page
    by (inl here) later = subst P (sym (eqb-true page x here)) (All-head P x xs all)
    by (inr there) later = later there

-- Holders.

-- what holds of each coffer that is held holds of one that a thread holds
pub held_is : (P : ℕ → Type 0) (test : Holder → Bool) (thread id : ℕ) (holders : List Holder) → All (λ (h : Holder). P h.id) holders → list_any (λ h. is_row_of thread id h && test h) holders ≡ true → P id
held_is P test thread id [] all is = absurd (cc)
held_is P test thread id (h ∷ hs) all is =
    by (or_cases (is_row_of thread id h && test h) (list_any (λ h. is_row_of thread id h && test h) hs) is) (held_is P test thread id hs (All-tail (λ (h : Holder). P h.id) h hs all))
  where
    by : ((is_row_of thread id h && test h) ≡ true) ⊎ (list_any (λ h. is_row_of thread id h && test h) hs ≡ true) → (list_any (λ h. is_row_of thread id h && test h) hs ≡ true → P id) → P id
    by (inl here) later =
        let row = (and_parts (is_row_of thread id h) (test h) here).0 in
        subst P (eqb-true h.id id (and_parts (nat_eq h.thread thread) (nat_eq h.id id) row).1) (All-head (λ (h : Holder). P h.id) h hs all)
    by (inr there) later = later there

-- Coffers by their numbers.

pub used_there : (pages : ℕ) (at : ℕ → ℕ) (id : ℕ) → is_some (coffer_with (coffers_in pages at) id) ≡ true → has_id pages at id ≡ true
used_there pages at id there = by (cases_Bool (has_id pages at id))
  where
    by : (has_id pages at id ≡ true) ⊎ (has_id pages at id ≡ false) → has_id pages at id ≡ true
    by (inl is) = is
    by (inr isnt) = let none = sym there ∙ ap is_some (coffer_isnt pages at id isnt) in cc

pub named_is : (words : List Word) (id : ℕ) → has_id (pages_of words) (kernel_word words) id ≡ true → named words id ≡ coffer_in (pages_of words) (kernel_word words) id
named_is words id there = ap or_none (coffer_is (pages_of words) (kernel_word words) id there)
