-- Whose the pages are once a coffer comes or goes, and the rules of the tables then.
use Rattle.std.proofs.Common.{◌≡◌, ◌⊎◌, inl, inr, ℕ, ◌<◌, ◌≤◌, Bool, true, false, not, List, [], ◌∷◌, refl, sym, ap, subst, ◌∙◌, arith, nat_eq}
use Rattle.std.specs.Prelude.{◌&&◌, ◌||◌, nat_lt, nat_le, All, is_some}
use Rattle.std.proofs.lemmas.Bool.{cases_Bool, eq-eqb, eqb-true, lt-ltb, le-ltb, ltb-true, leb-true, le-leb, and_parts, and_from, or_parts, or_cases, or_right, not-false, true≢false, cond-true, cond-false}
use Rattle.std.proofs.lemmas.List.Elements.{All-nil, All-cons, All-head, All-tail, All-map, All-weaker}
use Rattle.zo_layout.specs.Layout.{kernel_pages, owner_word}
use Rattle.kern_model.specs.KernelTables.{Coffer, owner_in, owns, is_id, stands_in, coffer_in, coffer_fails, pages_fail, entry_fails, owner_fails}
use Rattle.kern_owner.specs.Owners.{owner_pairs, is_among}
use Rattle.kern_owner.specs.Laws.{OwnersPass}
use Rattle.kern_owner.proofs.SoundLemmas.{OwnerCase, Kernels, Nobodys, Coffers, owner_case}
use Rattle.kern_roots.specs.Entries.{has_id}
use Rattle.kern_roots.specs.Changes.{is_used}
use Rattle.kern_roots.proofs.ReadingCoffers.{coffer_is, coffer_isnt}
use Rattle.kern_laws.proofs.MoveReads.{IsOwnerPlace, owner_placed}

-- Numbers of coffers.

pub id_bounds : (id : ℕ) → is_id id ≡ true → (1 ≤ id) × (id ≤ 256)
id_bounds id is = let parts = and_parts (nat_le 1 id) (nat_le id 256) is in (leb-true 1 id parts.0, leb-true id 256 parts.1)

pub is_number : (id : ℕ) → 1 ≤ id → id ≤ 256 → is_id id ≡ true
is_number id low high = and_from (nat_le 1 id) (nat_le id 256) (le-leb 1 id low) (le-leb id 256 high)

pub used_has : (pages : ℕ) (at : ℕ → ℕ) (id : ℕ) → is_used pages at id ≡ true → has_id pages at id ≡ true
used_has pages at id used = by (cases_Bool (has_id pages at id))
  where
    by : (has_id pages at id ≡ true) ⊎ (has_id pages at id ≡ false) → has_id pages at id ≡ true
    by (inl has) = has
    by (inr hasnt) = absurd (true≢false (sym used ∙ ap is_some (coffer_isnt pages at id hasnt)))

pub has_used : (pages : ℕ) (at : ℕ → ℕ) (id : ℕ) → has_id pages at id ≡ true → is_used pages at id ≡ true
has_used pages at id has = ap is_some (coffer_is pages at id has)

-- A coffer that is there owns its control page and its root page.

pub owns_parts : (pages : ℕ) (at : ℕ → ℕ) (id page : ℕ) → owns pages at id page ≡ true → (page < pages) × (owner_in pages at page ≡ id)
owns_parts pages at id page is =
    let parts = and_parts (nat_lt page pages) (nat_eq (owner_in pages at page) id) is in
    (ltb-true page pages parts.0, eqb-true (owner_in pages at page) id parts.1)

pub owns_from : (pages : ℕ) (at : ℕ → ℕ) (id page : ℕ) → page < pages → owner_in pages at page ≡ id → owns pages at id page ≡ true
owns_from pages at id page lt is = and_from (nat_lt page pages) (nat_eq (owner_in pages at page) id) (lt-ltb page pages lt) (eq-eqb (owner_in pages at page) id is)

pages_passed : (pages : ℕ) (at : ℕ → ℕ) (c : Coffer) → coffer_fails pages at c ≡ false → pages_fail pages at c ≡ false
pages_passed pages at c passes = (or_parts _ (pages_fail pages at c) (or_parts _ _ (or_parts _ _ passes).0).0).1

pub record OwnsTwo (pages : ℕ) (at : ℕ → ℕ) (c : Coffer) : Type 0 where
  pub control : owns pages at c.id c.control ≡ true
  pub root : owns pages at c.id c.root ≡ true

pub owns_two : (pages : ℕ) (at : ℕ → ℕ) (id : ℕ) → entry_fails pages at id ≡ false → stands_in pages at id ≡ true → OwnsTwo pages at (coffer_in pages at id)
owns_two pages at id passes stands =
    let c = coffer_in pages at id in
    let fine = pages_passed pages at c (sym (cond-true (stands_in pages at id) (coffer_fails pages at c) _ stands) ∙ passes) in
    let parts = or_parts (not (owns pages at c.id c.control && owns pages at c.id c.root)) (nat_eq c.control c.root) fine in
    let both = and_parts (owns pages at c.id c.control) (owns pages at c.id c.root) (not-false (owns pages at c.id c.control && owns pages at c.id c.root) parts.0) in
    record { control = both.0; root = both.1 }

-- The rule of the owner words.

-- what becomes of a page
pub data Fate (pages : ℕ) (at after : ℕ → ℕ) (page : ℕ) : Type 0 where
  Stays : owner_in pages after page ≡ owner_in pages at page
      → (is_id (owner_in pages at page) ≡ true → stands_in pages at (owner_in pages at page) ≡ true → stands_in pages after (owner_in pages at page) ≡ true) → Fate pages at after page
  Frees : kernel_pages pages ≤ page → owner_in pages after page ≡ 0 → Fate pages at after page
  Comes : (id : ℕ) → kernel_pages pages ≤ page → owner_in pages after page ≡ id → is_id id ≡ true → stands_in pages after id ≡ true → Fate pages at after page

abbrev open_fails : ℕ → (ℕ → ℕ) → ℕ → Bool
open_fails pages at page = not (nat_eq (owner_in pages at page) 0 || (is_id (owner_in pages at page) && stands_in pages at (owner_in pages at page)))

rule_behind : (pages : ℕ) (at : ℕ → ℕ) (page : ℕ) → kernel_pages pages ≤ page → owner_fails pages at page ≡ open_fails pages at page
rule_behind pages at page le = cond-false (nat_lt page (kernel_pages pages)) (not (nat_eq (owner_in pages at page) 65535)) (open_fails pages at page) (le-ltb page (kernel_pages pages) le)

kernel_passes : (pages : ℕ) (at : ℕ → ℕ) (page : ℕ) → page < kernel_pages pages → owner_in pages at page ≡ 65535 → owner_fails pages at page ≡ false
kernel_passes pages at page lt is =
    cond-true (nat_lt page (kernel_pages pages)) (not (nat_eq (owner_in pages at page) 65535)) (open_fails pages at page) (lt-ltb page (kernel_pages pages) lt)
    ∙ ap not (eq-eqb (owner_in pages at page) 65535 is)

free_passes : (pages : ℕ) (at : ℕ → ℕ) (page : ℕ) → kernel_pages pages ≤ page → owner_in pages at page ≡ 0 → owner_fails pages at page ≡ false
free_passes pages at page le is =
    rule_behind pages at page le
    ∙ ap (λ (b : Bool). not (b || (is_id (owner_in pages at page) && stands_in pages at (owner_in pages at page)))) (eq-eqb (owner_in pages at page) 0 is)

coffer_passes : (pages : ℕ) (at : ℕ → ℕ) (page id : ℕ) → kernel_pages pages ≤ page → owner_in pages at page ≡ id → is_id id ≡ true → stands_in pages at id ≡ true → owner_fails pages at page ≡ false
coffer_passes pages at page id le is number stands =
    rule_behind pages at page le
    ∙ ap (λ (n : ℕ). not (nat_eq n 0 || (is_id n && stands_in pages at n))) is
    ∙ ap (λ (b : Bool). not (nat_eq id 0 || b)) (and_from (is_id id) (stands_in pages at id) number stands)
    ∙ always (nat_eq id 0)
  where
    always : (b : Bool) → not (b || true) ≡ false
    always true = refl
    always false = refl

pub fate_passes : (pages : ℕ) (at after : ℕ → ℕ) (page : ℕ) → owner_fails pages at page ≡ false → Fate pages at after page → owner_fails pages after page ≡ false
fate_passes pages at after page passes (Frees le is) = free_passes pages after page le is
fate_passes pages at after page passes (Comes id le is number stands) = coffer_passes pages after page id le is number stands
fate_passes pages at after page passes (Stays same still) = by (owner_case pages at page passes)
  where
    by : OwnerCase pages at page → owner_fails pages after page ≡ false
    by (Kernels lt is) = kernel_passes pages after page lt (same ∙ is)
    by (Nobodys le is) = free_passes pages after page le (same ∙ is)
    by (Coffers le number stands) = coffer_passes pages after page (owner_in pages at page) le same number (still number stands)

-- a page of a coffer isn't the kernel's
pub owned_behind : (pages : ℕ) (at : ℕ → ℕ) (page id : ℕ) → OwnersPass pages at → page < pages → owner_in pages at page ≡ id → id ≤ 256 → kernel_pages pages ≤ page
owned_behind pages at page id passes lt is most = by (owner_case pages at page (passes page lt))
  where
    by : OwnerCase pages at page → kernel_pages pages ≤ page
    by (Kernels below kernels) = absurd (omega arith)
    by (Nobodys le none) = le
    by (Coffers le number stands) = le

-- Lists of pages.

pub among_holds : (P : ℕ → Type 0) (list : List ℕ) (page : ℕ) → All P list → is_among list page ≡ true → P page
among_holds P [] page all is = absurd (true≢false (sym is))
among_holds P (x ∷ xs) page all is = by (or_cases (nat_eq page x) (is_among xs page) is) (among_holds P xs page (All-tail P x xs all))
  where
    by : (nat_eq page x ≡ true) ⊎ (is_among xs page ≡ true) → (is_among xs page ≡ true → P page) → P page
    by (inl here) later = subst P (sym (eqb-true page x here)) (All-head P x xs all)
    by (inr there) later = later there

-- what holds of each member holds everywhere
pub all_among : (P : ℕ → Type 0) (list : List ℕ) → ((page : ℕ) → is_among list page ≡ true → P page) → All P list
all_among P [] each = All-nil P
all_among P (x ∷ xs) each = All-cons P x xs (each x (ap (λ (b : Bool). b || is_among xs x) (eq-eqb x x refl))) (all_among P xs (λ page is. each page (or_right (nat_eq page x) (is_among xs page) is)))

-- Where a row's pairs stand.

pub owners_placed : (pages owner : ℕ) (list : List ℕ) → All (λ page. page < pages) list → All (λ (p : ℕ × ℕ). IsOwnerPlace pages p.0) (owner_pairs pages owner list)
owners_placed pages owner list inside =
    All-map (λ (p : ℕ × ℕ). IsOwnerPlace pages p.0) (λ (page : ℕ). (owner_word pages page, owner)) list
    (All-weaker (λ page. page < pages) (λ page. IsOwnerPlace pages (owner_word pages page)) (owner_placed pages) list inside)
