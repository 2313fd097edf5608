-- The pages that a call lists, where none of them is bad: they are the coffer's, each once, and none of those that it keeps.
use Rattle.std.proofs.Common.{◌≡◌, ◌⊎◌, inl, inr, ℕ, ◌<◌, ◌≤◌, Bool, true, false, not, List, ◌++◌, length, find, None, refl, sym, ap, ◌∙◌, arith, nat_eq}
use Rattle.std.specs.Prelude.{All, ◌&&◌, ◌||◌}
use Rattle.std.specs.List.{list_any, count_by}
use Rattle.std.proofs.lemmas.Bool.{cases_Bool, or_parts, not-false, ltb-false}
use Rattle.std.proofs.lemmas.List.Sums.{length-filter}
use Rattle.std.proofs.lemmas.List.Elements.{All-append, All-filter}
use Rattle.zo_layout.specs.Layout.{kernel_pages}
use Rattle.pm_words.specs.Word.{Word}
use Rattle.kern_model.specs.KernelView.{pages_of}
use Rattle.kern_model.specs.Journal.{kernel_word}
use Rattle.kern_model.specs.KernelTables.{owner_in, owns, pages_owned}
use Rattle.kern_model.specs.KernelCalls.{owns_page, is_bad_page, is_listed_twice, unlisted}
use Rattle.kern_owner.specs.Owners.{is_among}
use Rattle.kern_owner.specs.Laws.{OwnersPass}
use Rattle.kern_owner.proofs.RangeLemmas.{within}
use Rattle.kern_owner.proofs.AmongLemmas.{among_filter, among_kept, ascends_kept}
use Rattle.kern_laws.proofs.MoveOwners.{owns_parts, owned_behind, all_among}
use Rattle.kern_laws.proofs.MoveCounts.{among_flipped, not_found, times, times_none, times_filter, times_append, times_ascending, few}

pub record AreListed (pages : ℕ) (at : ℕ → ℕ) (id : ℕ) (kept list : List ℕ) : Type 0 where
  pub owned : (page : ℕ) → is_among list page ≡ true → owns pages at id page ≡ true
  pub spares : (page : ℕ) → is_among list page ≡ true → is_among kept page ≡ false
  pub once : (page : ℕ) → times page list ≤ 1

pub are_listed : (words : List Word) (id : ℕ) (kept list : List ℕ) → find (is_bad_page words id kept list) list ≡ None → AreListed (pages_of words) (kernel_word words) id kept list
are_listed words id kept list none = record {
  owned = λ page is. not-false (owns_page words id page) (first page is).0;
  spares = λ page is. sym (among_flipped kept page) ∙ (first page is).1;
  once = λ page. by page (cases_Bool (is_among list page));
}
  where
    whole : (page : ℕ) → is_among list page ≡ true → ((not (owns_page words id page) || list_any (λ (p : ℕ). nat_eq p page) kept) ≡ false) × (is_listed_twice list page ≡ false)
    whole page is = or_parts (not (owns_page words id page) || list_any (λ (p : ℕ). nat_eq p page) kept) (is_listed_twice list page) (not_found (is_bad_page words id kept list) list page none is)

    first : (page : ℕ) → is_among list page ≡ true → (not (owns_page words id page) ≡ false) × (list_any (λ (p : ℕ). nat_eq p page) kept ≡ false)
    first page is = or_parts (not (owns_page words id page)) (list_any (λ (p : ℕ). nat_eq p page) kept) (whole page is).0

    by : (page : ℕ) → (is_among list page ≡ true) ⊎ (is_among list page ≡ false) → times page list ≤ 1
    by page (inl is) =
        let counted = length-filter (λ (p : ℕ). nat_eq p page) list in
        let most : count_by (λ (p : ℕ). nat_eq p page) list ≤ 1 = ltb-false 1 (count_by (λ (p : ℕ). nat_eq p page) list) (whole page is).1 in
        omega arith
    by page (inr isnt) = let none_there = times_none page list isnt in omega arith

pub listed_inside : (pages : ℕ) (at : ℕ → ℕ) (id : ℕ) (kept list : List ℕ) → AreListed pages at id kept list → All (λ page. page < pages) list
listed_inside pages at id kept list listed = all_among (λ page. page < pages) list (λ page is. (owns_parts pages at id page (listed.owned page is)).0)

pub listed_behind : (pages : ℕ) (at : ℕ → ℕ) (id : ℕ) (kept list : List ℕ) → OwnersPass pages at → id ≤ 256 → AreListed pages at id kept list → All (λ page. kernel_pages pages ≤ page) list
listed_behind pages at id kept list passes most listed =
    all_among (λ page. kernel_pages pages ≤ page) list (λ page is. let its = owns_parts pages at id page (listed.owned page is) in owned_behind pages at page id passes its.0 its.1 most)

pub listed_few : (pages : ℕ) (at : ℕ → ℕ) (id : ℕ) (kept list : List ℕ) → AreListed pages at id kept list → length list ≤ pages
listed_few pages at id kept list listed = few pages list (listed_inside pages at id kept list listed) listed.once

-- Listed pages, and the coffer's others.

pub unlisted_inside : (pages : ℕ) (at : ℕ → ℕ) (id : ℕ) (list : List ℕ) → All (λ page. page < pages) (unlisted list (pages_owned pages at id))
unlisted_inside pages at id list =
    All-filter (λ (page : ℕ). not (list_any (λ (p : ℕ). nat_eq p page) list)) (λ page. page < pages) (pages_owned pages at id) (within (λ page. nat_eq (owner_in pages at page) id) pages)

-- a page is among the others, where it is the coffer's and isn't listed
pub unlisted_is : (pages : ℕ) (at : ℕ → ℕ) (id : ℕ) (list : List ℕ) (page : ℕ) → page < pages → is_among (unlisted list (pages_owned pages at id)) page ≡ (nat_eq (owner_in pages at page) id && not (is_among list page))
unlisted_is pages at id list page lt =
    among_filter (λ (q : ℕ). not (list_any (λ (p : ℕ). nat_eq p q) list)) (pages_owned pages at id) page
    ∙ ap (λ (b : Bool). b && not (list_any (λ (p : ℕ). nat_eq p page) list)) (among_kept (λ p. nat_eq (owner_in pages at p) id) pages page lt)
    ∙ ap (λ (b : Bool). nat_eq (owner_in pages at page) id && not b) (among_flipped list page)

pub all_few : (pages : ℕ) (at : ℕ → ℕ) (id : ℕ) (kept list : List ℕ) → AreListed pages at id kept list → length (list ++ unlisted list (pages_owned pages at id)) ≤ pages
all_few pages at id kept list listed =
    few pages (list ++ unlisted list (pages_owned pages at id))
    (All-append (λ page. page < pages) list (unlisted list (pages_owned pages at id)) (listed_inside pages at id kept list listed) (unlisted_inside pages at id list))
    (λ page. by page (cases_Bool (is_among list page)))
  where
    rest : List ℕ
    rest = unlisted list (pages_owned pages at id)

    fewer : (page : ℕ) → times page rest ≤ 1
    fewer page =
        let less = times_filter (λ (q : ℕ). not (list_any (λ (p : ℕ). nat_eq p q) list)) page (pages_owned pages at id) in
        let one = times_ascending 0 page (pages_owned pages at id) (ascends_kept (λ q. nat_eq (owner_in pages at q) id) 0 pages) in
        omega arith

    gone : (page : ℕ) → is_among list page ≡ true → is_among rest page ≡ false
    gone page is =
        among_filter (λ (q : ℕ). not (list_any (λ (p : ℕ). nat_eq p q) list)) (pages_owned pages at id) page
        ∙ ap (λ (b : Bool). is_among (pages_owned pages at id) page && not b) (among_flipped list page ∙ is)
        ∙ never (is_among (pages_owned pages at id) page)
      where
        never : (b : Bool) → (b && false) ≡ false
        never true = refl
        never false = refl

    by : (page : ℕ) → (is_among list page ≡ true) ⊎ (is_among list page ≡ false) → times page (list ++ rest) ≤ 1
    by page (inl is) = let both = times_append page list rest in let one = listed.once page in let none = times_none page rest (gone page is) in omega arith
    by page (inr isnt) = let both = times_append page list rest in let none = times_none page list isnt in let one = fewer page in omega arith
