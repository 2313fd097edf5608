-- A drawn page becomes an entry page of a directory.
use Rattle.std.proofs.Common.{◌≡◌, ◌≢◌, ◌⊎◌, inl, inr, ℕ, List, [], ◌∷◌, false, Contains, Option, None, refl, sym, ap, subst, ◌∙◌, arith, le_refl, eq-eqb, ne_eqb, ◌==◌, nat_eq}
use Rattle.std.proofs.lemmas.Bool.{cond-true, cases_eq}
use Rattle.std.specs.List.{IsDistinct, AllByRecursion}
use Rattle.zo_layout.specs.Layout.{page_at, first_entry_page, next_entry_page}
use Rattle.zo_laws.proofs.Members.{contains_here, contains_there, contains_cases}
use Rattle.zo_model.specs.CofferWords.{Use, Entries, IsDir}
use Rattle.zo_units.specs.Memory.{at}
use Rattle.zo_units.specs.UnitLaws.{put_use}
use Rattle.zo_units.proofs.Telling.{nothing_object, nothing_entries, entries_same}
use Rattle.zo_units.proofs.Steps.{uses, put_use_other}
use Rattle.zo_shared.specs.Shared.{Shared, dir_of, LeadsPages, HasPages, IsDrawn, IsSound}
use Rattle.zo_shared.specs.Deeds.{AddPage, Holds, MayDo, does, put_drawn}
use Rattle.zo_shared.proofs.Frames.{EntryPages, Acts, Done, member, leads_pages_stay}
use Rattle.zo_shared.proofs.Changes.{still_drawn, drawn_others, changed_done, store_rises, store_other_page, side, after_side, side_sound, side_pools, side_drawn, side_is, side_links}
use Rattle.zo_shared.proofs.Sides.{holds_alone, danger_was, here_lease, here_free, here_noted, here_counted, here_few, here_entries, here_same, elsewhere}

-- a page that isn't among others
unlike_all : (page : ℕ) (pages : List ℕ) → (Contains pages page → ⊥) → AllByRecursion (λ p. nat_eq page p ≡ false) pages
unlike_all page [] none = tt
unlike_all page (p ∷ pages) none = (
  ne_eqb page p (λ same. none (subst (Contains (p ∷ pages)) (sym same) (contains_here p pages))),
  unlike_all page pages (λ c. none (contains_there p pages page c)),
)

once_with : (page : ℕ) (pages : List ℕ) → (Contains pages page → ⊥) → IsDistinct nat_eq pages → IsDistinct nat_eq (page ∷ pages)
unfolding IsDistinct
once_with page pages none once = (unlike_all page pages none, once)

module _ (g : Shared) (thread now : ℕ) (names : List (List ℕ)) (page : ℕ) (s : IsSound g) (may : MayDo thread now (AddPage names page) g) where
  h : Holds g thread now names
  h = may.may.0

  abbrev uses_now : ℕ → Use
  uses_now = put_use g.use_of page (Entries names)

  abbrev drawn_now : ℕ → Option ℕ
  drawn_now = put_drawn g.drawn page None

  abbrev added : Shared
  added = does thread now (AddPage names page) g

  d : IsDrawn g page
  d = s.drawn page thread may.may.1.drawn

  used_other : (p : ℕ) (os : List (List ℕ)) → g.use_of p ≡ Entries os → p ≢ page
  used_other p os is same = nothing_entries os (sym d.useless ∙ ap g.use_of (sym same) ∙ is)

  use_more : (p : ℕ) (os : List (List ℕ)) → g.use_of p ≡ Entries os → uses_now p ≡ Entries os
  use_more p os is = put_use_other g.use_of page (Entries names) p (used_other p os is) ∙ is

  use_here : uses_now page ≡ Entries names
  use_here = cond-true (page == page) (Entries names) (g.use_of page) (eq-eqb page page refl)

  -- who has entry pages now had them, but for the new one
  use_cases : (p : ℕ) (os : List (List ℕ)) → uses_now p ≡ Entries os → ((p ≡ page) × (os ≡ names)) ⊎ (g.use_of p ≡ Entries os)
  use_cases p os is = by (cases_eq p page)
    where
      by : (p ≡ page) ⊎ (p ≢ page) → ((p ≡ page) × (os ≡ names)) ⊎ (g.use_of p ≡ Entries os)
      by (inl same) = inl (same, entries_same os names (sym is ∙ ap uses_now same ∙ use_here))
      by (inr other) = inr (sym (put_use_other g.use_of page (Entries names) p other) ∙ is)

  more : (p : ℕ) → EntryPages g names p → EntryPages added names p
  more p e = record { coffers = e.coffers; entries = use_more p names e.entries }

  was : HasPages g names
  was = (s.kept names h.dir).pages

  next_is : at added.memory (next_entry_page (page_at page)) ≡ at g.memory (first_entry_page (dir_of g names))
  next_is =
      (store_other_page g s (side g s names h.dir 4 (omega arith) (omega arith) (page_at page)) (page_at page) (next_entry_page (page_at page))
      (λ same. nothing_object names (sym d.useless ∙ ap g.use_of (let there : page ≡ g.page_of names = omega (arith, same) in there) ∙ (member g s names h.dir).object))).present
      ∙ may.may.1.leads

  pages_now : HasPages added names
  pages_now = record {
    pages = page ∷ was.pages;
    leads = (
      side_is g s names h.dir 4 (omega arith) (omega arith) (page_at page),
      subst (λ (w : ℕ). LeadsPages (at added.memory) w was.pages) (sym next_is)
          (leads_pages_stay (at g.memory) (at added.memory) (at g.memory (first_entry_page (dir_of g names))) was.pages was.leads
          (λ p c. (side_links g s names h.dir 4 (omega arith) (omega arith) (page_at page) p (was.each p c)).present)),
    );
    once = once_with page was.pages (λ c. used_other page names (was.each page c).entries refl) was.once;
    each = λ p c. each p (contains_cases page was.pages p c);
    all = λ p e. all p e (use_cases p names e.entries);
  }
    where
      each : (p : ℕ) → (page ≡ p) ⊎ Contains was.pages p → EntryPages added names p
      each p (inl same) = subst (EntryPages added names) same (record { coffers = d.inside; entries = use_here })
      each p (inr among) = more p (was.each p among)

      all : (p : ℕ) → EntryPages added names p → ((p ≡ page) × (names ≡ names)) ⊎ (g.use_of p ≡ Entries names) → Contains (page ∷ was.pages) p
      all p e (inl (same, one)) = subst (Contains (page ∷ was.pages)) (sym same) (contains_here page was.pages)
      all p e (inr before) = contains_there page was.pages p (was.all p (record { coffers = e.coffers; entries = before }))

  add_acts : Acts thread g added names
  add_acts = record {
    home = refl;
    bases = refl;
    raises = le_refl (g.raises names);
    kept = record {
      free = here_free g s names h.dir 4 (omega arith) (omega arith) (page_at page) now uses_now drawn_now g.frees g.raises g.raised (λ e. omega (arith, e));
      noted = here_noted g s names h.dir 4 (omega arith) (omega arith) (page_at page) now uses_now drawn_now g.frees g.raises g.raised (λ e. omega (arith, e));
      counted = here_counted g s names h.dir 4 (omega arith) (omega arith) (page_at page) now uses_now drawn_now g.frees g.raises g.raised (λ e. omega (arith, e));
      few = here_few g s names h.dir 4 (omega arith) (omega arith) (page_at page) now uses_now drawn_now g.frees g.raises g.raised;
      entries = here_entries g s names h.dir 4 (omega arith) (omega arith) (page_at page) now uses_now drawn_now g.frees g.raises g.raised (λ e. omega (arith, e)) more;
      pages = pages_now;
    };
    danger = λ stood danger.
        danger_was g added names may.later refl
        (here_lease g s names h.dir 4 (omega arith) (omega arith) (page_at page) now uses_now drawn_now g.frees g.raises g.raised (λ e. omega (arith, e))) danger;
    same = λ stood calm. here_same g s names h.dir 4 (omega arith) (omega arith) (page_at page) now uses_now drawn_now g.frees g.raises g.raised (λ e. omega (arith, e));
    alone = λ other differs held fresh. holds_alone g thread now names h other differs held;
  }

  pub add_page_done : Done thread g added
  add_page_done =
      changed_done g now (after_side g s names h.dir 4 (omega arith) (omega arith) (page_at page)) uses_now drawn_now g.frees g.raises g.raised thread s may.later
      (store_rises g s (side g s names h.dir 4 (omega arith) (omega arith) (page_at page)) (page_at page))
      (uses (after_side g s names h.dir 4 (omega arith) (omega arith) (page_at page)) g.coffer g.tree g.page_of g.use_of g.lasts page (Entries names) (inl d.useless)
      (side_sound g s names h.dir 4 (omega arith) (omega arith) (page_at page)))
      (elsewhere g s names h.dir 4 (omega arith) (omega arith) (page_at page) now uses_now drawn_now g.frees g.raises g.raised (λ p os other is. use_more p os is)
      (λ p os other is. elim (use_cases p os is) [
        | inl both ↦ absurd (other both.1)
        | inr before ↦ before
      ])
      (λ os other. refl) (λ os other. refl) (λ os other. refl) thread add_acts)
      (λ p who is.
      let before = still_drawn g.drawn page thread may.may.1.drawn p who is in
      let was_drawn = s.drawn p who before.1 in
      record { inside = was_drawn.inside; useless = put_use_other g.use_of page (Entries names) p before.0 ∙ was_drawn.useless; not_control = was_drawn.not_control })
      (λ p os is. elim (use_cases p os is) [
        | inl both ↦ subst (IsDir g.tree) (sym both.1) h.dir
        | inr before ↦ s.homes p os before
      ])
      (side_pools g s names h.dir 4 (omega arith) (omega arith) (page_at page)) (drawn_others g.drawn page thread may.may.1.drawn)
      (side_drawn g s names h.dir 4 (omega arith) (omega arith) (page_at page) thread)
