-- Under which coffer a page stands, after pages were put under one.
use Rattle.std.proofs.Common.{sym, Contains, ◌≢◌, zero, suc, arith, subst, ◌≡◌, ℕ, ◌<◌, ◌≤◌, List, [], ◌∷◌, length, get_or, set, refl, ap, ◌∙◌, ◌⊎◌, inl, inr, get_or-set_same, get_or-set_other}
use Rattle.std.proofs.lemmas.Bool.{cases_eq, cases_lt}
use Rattle.std.proofs.lemmas.List.{set_past, length-set}
use Rattle.std.proofs.lemmas.List.Elements.{Contains-push, Contains-append_left, Contains-append_right, Contains-append_cases}
use Rattle.page_rights.specs.Tables.{with_pages}
use Rattle.page_rights.specs.Laws.{PutsThesePages}

pub length_with_pages : (id : ℕ) (pages owners : List ℕ) → length (with_pages id pages owners) ≡ length owners
length_with_pages id [] owners = refl
length_with_pages id (page ∷ pages) owners = length_with_pages id pages (set owners page id) ∙ length-set owners page id

-- a page stands under the coffer or where it stood
pub pages_either : (id : ℕ) (pages owners : List ℕ) (page : ℕ) → (get_or (with_pages id pages owners) page 0 ≡ id) ⊎ (get_or (with_pages id pages owners) page 0 ≡ get_or owners page 0)
pages_either id [] owners page = inr refl
pages_either id (q ∷ pages) owners page = by (pages_either id pages (set owners q id) page)
  where
    set_either : (page ≡ q) ⊎ (page ≡ q → ⊥) → (q < length owners) ⊎ (length owners ≤ q) → (get_or (set owners q id) page 0 ≡ id) ⊎ (get_or (set owners q id) page 0 ≡ get_or owners page 0)
    set_either (inl e) (inl lt) = inl (ap (λ (p : ℕ). get_or (set owners q id) p 0) e ∙ get_or-set_same owners q id 0 lt)
    set_either (inl e) (inr past) = inr (ap (λ (l : List ℕ). get_or l page 0) (set_past owners q id past))
    set_either (inr ne) where_ = inr (get_or-set_other owners q page id 0 ne)

    after : (get_or (set owners q id) page 0 ≡ id) ⊎ (get_or (set owners q id) page 0 ≡ get_or owners page 0) → get_or (with_pages id pages (set owners q id)) page 0 ≡ get_or (set owners q id) page 0
        → (get_or (with_pages id pages (set owners q id)) page 0 ≡ id) ⊎ (get_or (with_pages id pages (set owners q id)) page 0 ≡ get_or owners page 0)
    after (inl e) same = inl (same ∙ e)
    after (inr e) same = inr (same ∙ e)

    by : (get_or (with_pages id pages (set owners q id)) page 0 ≡ id) ⊎ (get_or (with_pages id pages (set owners q id)) page 0 ≡ get_or (set owners q id) page 0)
        → (get_or (with_pages id pages (set owners q id)) page 0 ≡ id) ⊎ (get_or (with_pages id pages (set owners q id)) page 0 ≡ get_or owners page 0)
    by (inl e) = inl e
    by (inr e) = after (set_either (cases_eq page q) (cases_lt q (length owners))) e

-- a page that is not among them stands where it stood
pub page_other : (id : ℕ) (pages owners : List ℕ) (page : ℕ) → (Contains pages page → ⊥) → get_or (with_pages id pages owners) page 0 ≡ get_or owners page 0
page_other id [] owners page apart = refl
page_other id (q ∷ pages) owners page apart =
    let ne : page ≢ q = λ e. apart (subst (λ (p : ℕ). Contains (q ∷ pages) p) (sym e) (Contains-append_left (q ∷ []) pages q (Contains-push [] q))) in
    page_other id pages (set owners q id) page (λ has. apart (Contains-append_right (q ∷ []) pages page has))
    ∙ get_or-set_other owners q page id 0 ne

-- a page that stands under the coffer stays there
page_stays : (id : ℕ) (pages owners : List ℕ) (page : ℕ) → get_or owners page 0 ≡ id → get_or (with_pages id pages owners) page 0 ≡ id
page_stays id pages owners page is = by (pages_either id pages owners page)
  where
    by : (get_or (with_pages id pages owners) page 0 ≡ id) ⊎ (get_or (with_pages id pages owners) page 0 ≡ get_or owners page 0) → get_or (with_pages id pages owners) page 0 ≡ id
    by (inl e) = e
    by (inr e) = e ∙ is

-- a page that is among them stands under the coffer
pub page_among : (id : ℕ) (pages owners : List ℕ) (page : ℕ) → page < length owners → Contains pages page → get_or (with_pages id pages owners) page 0 ≡ id
page_among id [] owners page inside (k, lt, e) = absurd (omega arith)
page_among id (q ∷ pages) owners page inside has =
    by (page_among id pages (set owners q id) page) (Contains-append_cases (q ∷ []) pages page has)
  where
    still : page < length (set owners q id)
    still = let l = length-set owners q id in omega arith

    first : Contains (q ∷ []) page ⊎ (q ≡ page) → q ≡ page
    first (inr e) = e
    first (inl (zero, lt, e)) = e
    first (inl (suc k, lt, e)) = absurd (omega arith)

    by : (page < length (set owners q id) → Contains pages page → get_or (with_pages id pages (set owners q id)) page 0 ≡ id) → Contains (q ∷ []) page ⊎ Contains pages page → get_or (with_pages id pages (set owners q id)) page 0 ≡ id
    by rest (inr later) = rest still later
    by rest (inl here) =
        let same : q ≡ page = first (inl here) in
        page_stays id pages (set owners q id) page (ap (λ (p : ℕ). get_or (set owners q id) p 0) (sym same) ∙ get_or-set_same owners q id 0 (let e = same in omega arith))

pub puts_these_pages : PutsThesePages
puts_these_pages id pages owners page = (page_among id pages owners page, page_other id pages owners page)
