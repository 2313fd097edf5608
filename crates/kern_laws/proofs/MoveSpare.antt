-- The free pages, of which a new coffer takes the least, and the number that it takes.
use Rattle.std.proofs.Common.{◌≡◌, ◌≢◌, ◌⊎◌, inl, inr, ℕ, ◌+◌, ◌<◌, ◌≤◌, Bool, true, false, cond, not, List, [], ◌∷◌, length, take, find, Option, Some, None, refl, sym, ap, ◌∙◌, arith, suc, zero, nat_eq, get_or}
use Rattle.std.specs.Prelude.{All, slice_index_or}
use Rattle.std.specs.List.{range_with_len}
use Rattle.std.proofs.lemmas.Bool.{cases_Bool, eq-eqb, eqb-true, or_left, or_right, false_from_ne_true, true≢false}
use Rattle.std.proofs.lemmas.List.{length-take}
use Rattle.std.proofs.lemmas.List.Elements.{All-take, filter_passes}
use Rattle.zo_layout.specs.Layout.{kernel_pages}
use Rattle.pm_words.specs.Word.{Word}
use Rattle.kern_model.specs.KernelView.{pages_of}
use Rattle.kern_model.specs.Journal.{kernel_word}
use Rattle.kern_model.specs.KernelTables.{all_ids, is_id, owner_in, owns, pages_free, stands_in}
use Rattle.kern_model.specs.PathMap.{free_id}
use Rattle.kern_model.specs.KernelCalls.{next_id}
use Rattle.kern_owner.specs.Owners.{is_among}
use Rattle.kern_owner.specs.Laws.{OwnersPass}
use Rattle.kern_owner.proofs.RangeLemmas.{within}
use Rattle.kern_owner.proofs.AmongLemmas.{Ascends, ascends_kept}
use Rattle.kern_laws.proofs.MoveOwners.{owned_behind, owns_parts, among_holds, is_number}

-- The least free pages.

pub free_inside : (pages : ℕ) (at : ℕ → ℕ) (count : ℕ) → All (λ page. page < pages) (take count (pages_free pages at))
free_inside pages at count = All-take (λ page. page < pages) count (pages_free pages at) (within (λ page. nat_eq (owner_in pages at page) 0) pages)

pub free_owner : (pages : ℕ) (at : ℕ → ℕ) (count : ℕ) → All (λ page. owner_in pages at page ≡ 0) (take count (pages_free pages at))
free_owner pages at count k d lt =
    eqb-true (owner_in pages at (get_or (take count (pages_free pages at)) k d)) 0
    (All-take (λ page. nat_eq (owner_in pages at page) 0 ≡ true) count (pages_free pages at) (filter_passes (λ page. nat_eq (owner_in pages at page) 0) (range_with_len 0 pages)) k d lt)

pub free_behind : (pages : ℕ) (at : ℕ → ℕ) (count : ℕ) → OwnersPass pages at → All (λ page. kernel_pages pages ≤ page) (take count (pages_free pages at))
free_behind pages at count passes k d lt =
    owned_behind pages at (get_or (take count (pages_free pages at)) k d) 0 passes (free_inside pages at count k d lt) (free_owner pages at count k d lt) (omega arith)

pub free_ascends : (pages : ℕ) (at : ℕ → ℕ) → Ascends 0 (pages_free pages at)
free_ascends pages at = ascends_kept (λ page. nat_eq (owner_in pages at page) 0) 0 pages

-- a page of a coffer isn't among pages that are nobody's
pub free_spares : (pages : ℕ) (at : ℕ → ℕ) (list : List ℕ) (id page : ℕ) → All (λ p. owner_in pages at p ≡ 0) list → 1 ≤ id → owns pages at id page ≡ true → is_among list page ≡ false
free_spares pages at list id page free some own =
    false_from_ne_true (is_among list page)
    (λ is. let none = among_holds (λ p. owner_in pages at p ≡ 0) list page free is in let its = (owns_parts pages at id page own).1 in omega arith)

-- The first two of a list.

pub first_in : (count : ℕ) (xs : List ℕ) → 1 ≤ length xs → is_among (take (suc count) xs) (slice_index_or xs 0 0) ≡ true
first_in count [] some = absurd (omega arith)
first_in count (x ∷ xs) some = or_left (nat_eq x x) (is_among (take count xs) x) (eq-eqb x x refl)

pub second_in : (count : ℕ) (xs : List ℕ) → 2 ≤ length xs → is_among (take (suc (suc count)) xs) (slice_index_or xs 1 0) ≡ true
second_in count [] some = absurd (omega arith)
second_in count (x ∷ []) some = absurd (omega arith)
second_in count (x ∷ y ∷ xs) some = or_right (nat_eq y x) (is_among (y ∷ take count xs) y) (or_left (nat_eq y y) (is_among (take count xs) y) (eq-eqb y y refl))

pub two_apart : (low : ℕ) (xs : List ℕ) → Ascends low xs → 2 ≤ length xs → slice_index_or xs 0 0 ≢ slice_index_or xs 1 0
two_apart low [] up some = absurd (omega arith)
two_apart low (x ∷ []) up some = absurd (omega arith)
two_apart low (x ∷ y ∷ xs) up some = λ same. let above = up.1.0 in omega arith

pub take_few : (count : ℕ) (xs : List ℕ) → length (take count xs) ≤ count
take_few count xs = let size = length-take count xs in omega arith

-- The least free number.

find_in_range : (test : ℕ → Bool) (a n id : ℕ) → find test (range_with_len a n) ≡ Some id → (a ≤ id) × (id < a + n)
find_in_range test a zero id found = absurd (cc)
find_in_range test a (suc n) id found = by (cases_Bool (test a)) (find_in_range test (a + 1) n id)
  where
    by : (test a ≡ true) ⊎ (test a ≡ false) → (find test (range_with_len (a + 1) n) ≡ Some id → (a + 1 ≤ id) × (id < a + 1 + n)) → (a ≤ id) × (id < a + suc n)
    by (inl passes) later =
        let here : Some a ≡ Some id = sym (ap (λ (b : Bool). cond b (Some a) (find test (range_with_len (a + 1) n))) passes) ∙ found in
        let same : a ≡ id = cc in
        (omega arith, omega arith)
    by (inr fails) later =
        let rest = later (sym (ap (λ (b : Bool). cond b (Some a) (find test (range_with_len (a + 1) n))) fails) ∙ found) in
        let low = rest.0 in
        let high = rest.1 in
        (omega arith, omega arith)

pub free_is_number : (pages : ℕ) (at : ℕ → ℕ) (id : ℕ) → free_id pages at ≡ Some id → is_id id ≡ true
unfolding all_ids
free_is_number pages at id found =
    let range = find_in_range (λ (n : ℕ). not (stands_in pages at n)) 1 256 id found in
    let high = range.1 in
    is_number id range.0 (omega arith)

pub next_is_free : (words : List Word) → nat_eq (next_id words) 0 ≡ false → free_id (pages_of words) (kernel_word words) ≡ Some (next_id words)
next_is_free words some = by (free_id (pages_of words) (kernel_word words)) refl
  where
    by : (found : Option ℕ) → free_id (pages_of words) (kernel_word words) ≡ found → free_id (pages_of words) (kernel_word words) ≡ Some (next_id words)
    by None none = absurd (true≢false (rw none at some))
    by (Some id) is = rw is
