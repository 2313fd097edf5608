-- What a link leaves of its directory, whether an entry was free or a page was drawn.
use Rattle.std.proofs.Common.{◌≡◌, ◌≢◌, ◌⊎◌, inl, inr, ℕ, zero, suc, ◌+◌, ◌/◌, ◌<◌, ◌≤◌, ◌==◌, slice_index, List, [], ◌∷◌, ◌++◌, map, Option, refl, sym, subst, ap, ◌∙◌, arith, eq-eqb, ne_eqb}
use Rattle.std.proofs.lemmas.Bool.{cases_eq, cond-true, cond-false}
use Rattle.std.proofs.lemmas.List.{map-append}
use Rattle.std.specs.List.{range_with_len}
use Rattle.zo_layout.specs.Layout.{page_at, word_of, bucket_head, bucket_of, entry_place, first_entry_page, first_free_entry, next_entry, page_kind}
use Rattle.zo_model.specs.Directory.{Shows, HasFree, IsPlace}
use Rattle.zo_plan.specs.declared.place.Place.{Place}
use Rattle.zo_plan.specs.declared.plan.Operand.{Operand}
use Rattle.zo_plan.specs.declared.plan.Operand.TheVariants.{Known}
use Rattle.zo_plan.specs.declared.plan.Put.{Put}
use Rattle.zo_plan.specs.Operands.{real, pair_of, pairs_of}
use Rattle.zo_hash_dir.specs.Links.{put, fresh_page, fresh_entry, chain_put, page_puts, entry_puts, free_entry_puts, fresh_page_puts, linked_entry}
use Rattle.zo_model.specs.Steps.{put as put_at}
use Rattle.zo_laws.specs.Stores.{after_stores}
use Rattle.zo_laws.specs.Linking.{with_name, PagesAfter, frees_after, CanLink, IsLinked, prepares_of, commit_of}
use Rattle.zo_laws.proofs.Members.{contains_here}
use Rattle.zo_laws.proofs.StoreLemmas.{after-append, Aside, Within, within-weaker}
use Rattle.zo_laws.proofs.FrameLemmas.{place_aligned}
use Rattle.zo_laws.proofs.PageLemmas.{AtPage}
use Rattle.zo_laws.proofs.PairLemmas.{InRange, entry_in, entry_pairs, entry_are}
use Rattle.zo_laws.proofs.CommitLemmas.{committed, shows_linked, free_linked}
use Rattle.zo_laws.proofs.PrepareLemmas.{IsPrepared, Touched}
use Rattle.zo_laws.proofs.FreeLemmas.{free_prepared, free_within, place_off_page}
use Rattle.zo_laws.proofs.FreshLemmas.{links_from, tops_of, page_pairs, fresh_pairs, fresh_prepared, fresh_within, fresh_pages, pages_apart}

-- place i of the page drawn first
place_is : (fresh : ℕ) (drawn : List ℕ) → slice_index drawn 0 ≡ fresh → (i : ℕ) → real drawn (fresh_entry i) ≡ entry_place (page_at fresh) i
place_is fresh drawn first i = omega (arith, first)

page_is : (fresh : ℕ) (drawn : List ℕ) → slice_index drawn 0 ≡ fresh → real drawn fresh_page ≡ page_at fresh
page_is fresh drawn first = omega (arith, first)

chain_are : (fresh : ℕ) (drawn : List ℕ) → slice_index drawn 0 ≡ fresh → (first count : ℕ) → pairs_of drawn (map chain_put (range_with_len first count)) ≡ links_from (page_at fresh) first count
unfolding links_from
chain_are fresh drawn is first zero = refl
chain_are fresh drawn is first (suc count) = λ i. (place_is fresh drawn is first i, place_is fresh drawn is (first + 1) i) ∷ chain_are fresh drawn is (first + 1) count i

page_are : (fresh : ℕ) (drawn : List ℕ) → slice_index drawn 0 ≡ fresh → (first : ℕ) → pairs_of drawn (page_puts first) ≡ page_pairs (page_at fresh) first
unfolding page_pairs
page_are fresh drawn is first = λ i. (page_is fresh drawn is i, first) ∷ chain_are fresh drawn is 1 10 i

tops_are : (fresh : ℕ) (drawn : List ℕ) → slice_index drawn 0 ≡ fresh → (d : ℕ) → pairs_of drawn (put (Known (first_entry_page (page_at d))) fresh_page ∷ put (Known (first_free_entry (page_at d))) (fresh_entry 1) ∷ []) ≡ tops_of d (page_at fresh)
unfolding tops_of
tops_are fresh drawn is d = λ i. (first_entry_page (page_at d), page_is fresh drawn is i) ∷ (first_free_entry (page_at d), place_is fresh drawn is 1 i) ∷ []

-- the stores that prepare a link in a drawn page
pub fresh_are : (fresh : ℕ) (drawn : List ℕ) → slice_index drawn 0 ≡ fresh → (d : ℕ) (place : Place) (name : List ℕ) (target : Operand) → place.free ≡ 0
    → prepares_of (page_at d) place name target drawn ≡ fresh_pairs d fresh place.first place.head (real drawn target) name
fresh_are fresh drawn is d place name target none =
    let front : List Put = page_puts place.first in
    let entry : List Put = entry_puts (fresh_entry 0) place.head target name in
    let tops : List Put = put (Known (first_entry_page (page_at d))) fresh_page ∷ put (Known (first_free_entry (page_at d))) (fresh_entry 1) ∷ [] in
    let entry_is : pairs_of drawn entry ≡ entry_pairs (entry_place (page_at fresh) 0) place.head (real drawn target) name =
    entry_are drawn (fresh_entry 0) place.head target name ∙ ap (λ (e : ℕ). entry_pairs e place.head (real drawn target) name) (place_is fresh drawn is 0) in
    ap (pairs_of drawn) (cond-true (place.free == 0) (fresh_page_puts (page_at d) place name target) (free_entry_puts (page_at d) place name target) (eq-eqb place.free 0 none))
    ∙ map-append (pair_of drawn) (front ++ entry) tops
    ∙ ap (λ (ps : List (ℕ × ℕ)). ps ++ pairs_of drawn tops) (map-append (pair_of drawn) front entry)
    ∙ (λ i. page_are fresh drawn is place.first i ++ entry_is i ++ tops_are fresh drawn is d i)

-- those in the first free entry
pub free_are : (drawn : List ℕ) (d : ℕ) (place : Place) (name : List ℕ) (target : Operand) → place.free ≢ 0
    → prepares_of (page_at d) place name target drawn ≡ (first_free_entry (page_at d), place.free_next) ∷ entry_pairs place.free place.head (real drawn target) name
free_are drawn d place name target some =
    ap (pairs_of drawn) (cond-false (place.free == 0) (fresh_page_puts (page_at d) place name target) (free_entry_puts (page_at d) place name target) (ne_eqb place.free 0 some))
    ∙ ap (λ (ps : List (ℕ × ℕ)). (first_free_entry (page_at d), place.free_next) ∷ ps) (entry_are drawn (Known place.free) place.head target name)

-- what the commit leaves behind what prepares it
finished : (at : ℕ → ℕ) (pairs : List (ℕ × ℕ)) (commit : ℕ × ℕ) (EntryPage More : ℕ → Type 0) (d : ℕ) (want : List ℕ → Option ℕ) (frees : List ℕ) (name : List ℕ) (entry target : ℕ) → IsPrepared at pairs EntryPage More d want frees name entry target
    → commit ≡ (bucket_head (page_at d) (bucket_of name), entry)
    → Shows (after_stores at (pairs ++ commit ∷ [])) More (page_at d) (with_name want name target) × HasFree (after_stores at (pairs ++ commit ∷ [])) More (page_at d) frees
unfolding committed
finished at pairs commit EntryPage More d want frees name entry target prepared is =
    let new = after_stores at pairs in
    let words : after_stores at (pairs ++ commit ∷ []) ≡ committed new d name entry = after-append at pairs (commit ∷ []) ∙ ap (λ (c : ℕ × ℕ). put_at new c.0 c.1) is in (
      subst (λ (w : ℕ → ℕ). Shows w More (page_at d) (with_name want name target)) (sym words) (shows_linked new More d want name entry target prepared.ready),
      subst (λ (w : ℕ → ℕ). HasFree w More (page_at d) frees) (sym words) (free_linked new More d want name entry target frees prepared.ready prepared.taken prepared.free),
    )

whole : (at : ℕ → ℕ) (EntryPage : ℕ → Type 0) (d : ℕ) (want : List ℕ → Option ℕ) (frees : List ℕ) (name : List ℕ) (place : Place) (target : Operand) (drawn : List ℕ) (fresh entry : ℕ)
    → IsPrepared at (prepares_of (page_at d) place name target drawn) EntryPage (PagesAfter EntryPage place fresh) d want (frees_after place fresh frees) name entry (real drawn target)
    → place.bucket ≡ bucket_head (page_at d) (bucket_of name) → real drawn (linked_entry place) ≡ entry
    → IsLinked at EntryPage d want frees name place target drawn fresh
whole at EntryPage d want frees name place target drawn fresh entry prepared bucket is =
    let pairs = prepares_of (page_at d) place name target drawn in
    let commit : commit_of place drawn ≡ (bucket_head (page_at d) (bucket_of name), entry) = λ i. (bucket i, is i) in
    let after = finished at pairs (commit_of place drawn) EntryPage (PagesAfter EntryPage place fresh) d want (frees_after place fresh frees) name entry (real drawn target) prepared commit in
    record { prepared = prepared.before; free_before = prepared.free; shows = after.0; free_after = after.1 }

-- the directory has an entry that is free
linked_free : (at : ℕ → ℕ) (EntryPage : ℕ → Type 0) (d : ℕ) (want : List ℕ → Option ℕ) (frees : List ℕ) (name : List ℕ) (place : Place) (target : Operand) (fresh : ℕ) (drawn : List ℕ)
    → CanLink at EntryPage d want frees name place fresh → place.free ≢ 0 → IsLinked at EntryPage d want frees name place target drawn fresh
linked_free at EntryPage d want [] name place target fresh drawn can some = absurd (some (can.found.free ∙ can.free.leads))
linked_free at EntryPage d want (entry ∷ frees) name place target fresh drawn can some =
    let free_is : place.free ≡ entry = can.found.free ∙ can.free.leads.0 in
    let next_is : place.free_next ≡ at (next_entry entry) = can.found.free_next some ∙ ap (λ (e : ℕ). at (next_entry e)) free_is in
    let are : prepares_of (page_at d) place name target drawn ≡ (first_free_entry (page_at d), at (next_entry entry)) ∷ entry_pairs entry (at (bucket_head (page_at d) (bucket_of name))) (real drawn target) name =
    free_are drawn d place name target some ∙ (λ i. (first_free_entry (page_at d), next_is i) ∷ entry_pairs (free_is i) (can.found.head i) (real drawn target) name) in
    let prepared = free_prepared at EntryPage (PagesAfter EntryPage place fresh) d want frees name entry (real drawn target) (prepares_of (page_at d) place name target drawn) (λ page p. inl p) (λ p. elim p [ inl p ↦ can.not_entries p | inr none ↦ some none.0 ])
    can.shows can.free can.is_name can.missing are in
    whole at EntryPage d want (entry ∷ frees) name place target drawn fresh entry prepared can.found.bucket
    (ap (real drawn) (cond-false (place.free == 0) (fresh_entry 0) (Known place.free) (ne_eqb place.free 0 some)) ∙ free_is)

-- no entry is free
linked_fresh : (at : ℕ → ℕ) (EntryPage : ℕ → Type 0) (d : ℕ) (want : List ℕ → Option ℕ) (frees : List ℕ) (name : List ℕ) (place : Place) (target : Operand) (fresh : ℕ) (drawn : List ℕ)
    → CanLink at EntryPage d want frees name place fresh → place.free ≡ 0 → slice_index drawn 0 ≡ fresh → IsLinked at EntryPage d want frees name place target drawn fresh
linked_fresh at EntryPage d want (entry ∷ frees) name place target fresh drawn can none first = absurd (can.free.leads.1 (sym can.free.leads.0 ∙ sym can.found.free ∙ none))
linked_fresh at EntryPage d want [] name place target fresh drawn can none first =
    let page = can.drawn none in
    let are : prepares_of (page_at d) place name target drawn ≡ fresh_pairs d fresh place.first (at (bucket_head (page_at d) (bucket_of name))) (real drawn target) name =
    fresh_are fresh drawn first d place name target none ∙ ap (λ (head : ℕ). fresh_pairs d fresh place.first head (real drawn target) name) can.found.head in
    let prepared = fresh_prepared at EntryPage (PagesAfter EntryPage place fresh) d want name fresh place.first (real drawn target) (prepares_of (page_at d) place name target drawn) (λ p is. inl is) (λ p. elim p [ inl p ↦ can.not_entries p | inr is ↦ page.not_dir (sym is.1) ])
    (inr (none, refl)) can.shows page can.is_name can.missing are in
    whole at EntryPage d want [] name place target drawn fresh (entry_place (page_at fresh) 0) prepared can.found.bucket
    (ap (real drawn) (cond-true (place.free == 0) (fresh_entry 0) (Known place.free) (eq-eqb place.free 0 none)) ∙ place_is fresh drawn first 0)

pub links : (at : ℕ → ℕ) (EntryPage : ℕ → Type 0) (d : ℕ) (want : List ℕ → Option ℕ) (frees : List ℕ) (name : List ℕ) (place : Place) (target : Operand) (drawn : List ℕ) (fresh : ℕ)
    → CanLink at EntryPage d want frees name place fresh → (place.free ≡ 0 → slice_index drawn 0 ≡ fresh) → IsLinked at EntryPage d want frees name place target drawn fresh
links at EntryPage d want frees name place target drawn fresh can first = by (cases_eq place.free 0)
  where
    by : (place.free ≡ 0) ⊎ (place.free ≢ 0) → IsLinked at EntryPage d want frees name place target drawn fresh
    by (inl none) = linked_fresh at EntryPage d want frees name place target fresh drawn can none (first none)
    by (inr some) = linked_free at EntryPage d want frees name place target fresh drawn can some

-- the first free entry, where there is one
pub free_at : (EntryPage : ℕ → Type 0) (dir word : ℕ) (at : ℕ → ℕ) (frees : List ℕ) → word ≡ at (first_free_entry dir) → HasFree at EntryPage dir frees → word ≢ 0 → IsPlace EntryPage word
free_at EntryPage dir word at [] is has some = absurd (some (is ∙ has.leads))
free_at EntryPage dir word at (entry ∷ frees) is has some = subst (IsPlace EntryPage) (sym (is ∙ has.leads.0)) (has.each entry (contains_here entry frees)).place

-- The pages that the stores of a link go to: the directory's, and one of its entry pages.
abbrev pub LinkPages : (ℕ → Type 0) → ℕ → Place → ℕ → ℕ → Type 0
LinkPages EntryPage d place fresh page = (page ≡ d) ⊎ PagesAfter EntryPage place fresh page

pub link_pages : (at : ℕ → ℕ) (EntryPage : ℕ → Type 0) (d : ℕ) (want : List ℕ → Option ℕ) (frees : List ℕ) (name : List ℕ) (place : Place) (target : Operand) (drawn : List ℕ) (fresh : ℕ)
    → CanLink at EntryPage d want frees name place fresh → (place.free ≡ 0 → slice_index drawn 0 ≡ fresh) → Within (AtPage (LinkPages EntryPage d place fresh)) (prepares_of (page_at d) place name target drawn)
link_pages at EntryPage d want frees name place target drawn fresh can first = by (cases_eq place.free 0)
  where
    T : ℕ → Type 0
    T = AtPage (LinkPages EntryPage d place fresh)

    top : (i : ℕ) → i < 512 → T (word_of (page_at d) i)
    top i low = inl (omega arith)

    in_fresh : place.free ≡ 0 → (a : ℕ) → Touched d (page_at fresh) (page_at fresh + 4096) a → T a
    in_fresh none a (inl is) = subst T (sym is) (top 4 (omega arith))
    in_fresh none a (inr (inl is)) = subst T (sym is) (top 5 (omega arith))
    in_fresh none a (inr (inr (at_8, low, high))) = inr (inr (none, omega arith))

    in_entry : (e : ℕ) → IsPlace EntryPage e → (a : ℕ) → Touched d e (e + 320) a → T a
    in_entry e p a (inl is) = subst T (sym is) (top 4 (omega arith))
    in_entry e p a (inr (inl is)) = subst T (sym is) (top 5 (omega arith))
    in_entry e p a (inr (inr (at_8, low, high))) =
        let there : p.page ≡ a / 4096 = (let is = p.is in let twelve = p.twelve in omega arith) in
        inr (inl (subst EntryPage there p.entries))

    by : (place.free ≡ 0) ⊎ (place.free ≢ 0) → Within T (prepares_of (page_at d) place name target drawn)
    by (inl none) =
        subst (Within T) (sym (fresh_are fresh drawn (first none) d place name target none))
        (within-weaker (Touched d (page_at fresh) (page_at fresh + 4096)) T (in_fresh none) (fresh_pairs d fresh place.first place.head (real drawn target) name) (fresh_within d fresh place.first place.head (real drawn target) name can.is_name.short))
    by (inr some) =
        let p = free_at EntryPage (page_at d) place.free at frees can.found.free can.free some in
        subst (Within T) (sym (free_are drawn d place name target some))
        (within-weaker (Touched d place.free (place.free + 320)) T (in_entry place.free p) ((first_free_entry (page_at d), place.free_next) ∷ entry_pairs place.free place.head (real drawn target) name)
        (free_within d place.free_next place.free place.head (real drawn target) name (place_aligned EntryPage place.free p) can.is_name.short))

-- words of the directory that the stores before the commit leave: its kind, and where an entry is free its word for entry pages
pub link_kind : (at : ℕ → ℕ) (EntryPage : ℕ → Type 0) (d : ℕ) (want : List ℕ → Option ℕ) (frees : List ℕ) (name : List ℕ) (place : Place) (target : Operand) (drawn : List ℕ) (fresh : ℕ)
    → CanLink at EntryPage d want frees name place fresh → (place.free ≡ 0 → slice_index drawn 0 ≡ fresh) → Within (Aside (page_kind (page_at d))) (prepares_of (page_at d) place name target drawn)
link_kind at EntryPage d want frees name place target drawn fresh can first = by (cases_eq place.free 0)
  where
    aside : (from to : ℕ) → (to ≤ page_at d) ⊎ (page_at d + 4096 ≤ from) → (a : ℕ) → Touched d from to a → Aside (page_kind (page_at d)) a
    aside from to off a (inl is) = λ same. omega arith
    aside from to off a (inr (inl is)) = λ same. omega arith
    aside from to (inl before) a (inr (inr (at_8, low, high))) = λ same. omega arith
    aside from to (inr behind) a (inr (inr (at_8, low, high))) = λ same. omega arith

    by : (place.free ≡ 0) ⊎ (place.free ≢ 0) → Within (Aside (page_kind (page_at d))) (prepares_of (page_at d) place name target drawn)
    by (inl none) =
        subst (Within (Aside (page_kind (page_at d)))) (sym (fresh_are fresh drawn (first none) d place name target none))
        (within-weaker (Touched d (page_at fresh) (page_at fresh + 4096)) (Aside (page_kind (page_at d))) (aside (page_at fresh) (page_at fresh + 4096) (pages_apart fresh d (can.drawn none).not_dir)) (fresh_pairs d fresh place.first place.head (real drawn target) name) (fresh_within d fresh place.first place.head (real drawn target) name can.is_name.short))
    by (inr some) =
        let p = free_at EntryPage (page_at d) place.free at frees can.found.free can.free some in
        subst (Within (Aside (page_kind (page_at d)))) (sym (free_are drawn d place name target some))
        (within-weaker (Touched d place.free (place.free + 320)) (Aside (page_kind (page_at d))) (aside place.free (place.free + 320) (place_off_page EntryPage d place.free can.not_entries p)) ((first_free_entry (page_at d), place.free_next) ∷ entry_pairs place.free place.head (real drawn target) name)
        (free_within d place.free_next place.free place.head (real drawn target) name (place_aligned EntryPage place.free p) can.is_name.short))

pub link_first : (at : ℕ → ℕ) (EntryPage : ℕ → Type 0) (d : ℕ) (want : List ℕ → Option ℕ) (frees : List ℕ) (name : List ℕ) (place : Place) (target : Operand) (drawn : List ℕ) (fresh : ℕ)
    → CanLink at EntryPage d want frees name place fresh → place.free ≢ 0 → Within (Aside (first_entry_page (page_at d))) (prepares_of (page_at d) place name target drawn)
link_first at EntryPage d want frees name place target drawn fresh can some =
    let p = free_at EntryPage (page_at d) place.free at frees can.found.free can.free some in
    subst (Within (Aside (first_entry_page (page_at d)))) (sym (free_are drawn d place name target some)) (
      (λ same. omega arith),
      within-weaker (InRange place.free (place.free + 320)) (Aside (first_entry_page (page_at d))) (aside (place_off_page EntryPage d place.free can.not_entries p)) (entry_pairs place.free place.head (real drawn target) name)
          (entry_in place.free place.head (real drawn target) name (place_aligned EntryPage place.free p) can.is_name.short),
    )
  where
    aside : (place.free + 320 ≤ page_at d) ⊎ (page_at d + 4096 ≤ place.free) → (a : ℕ) → InRange place.free (place.free + 320) a → Aside (first_entry_page (page_at d)) a
    aside (inl before) a (at_8, low, high) = λ same. omega arith
    aside (inr behind) a (at_8, low, high) = λ same. omega arith

-- the directory leads to the drawn entry page
pub link_first_fresh : (at : ℕ → ℕ) (d : ℕ) (place : Place) (name : List ℕ) (target : Operand) (drawn : List ℕ) (fresh : ℕ) → place.free ≡ 0 → slice_index drawn 0 ≡ fresh
    → after_stores at (prepares_of (page_at d) place name target drawn) (first_entry_page (page_at d)) ≡ page_at fresh
link_first_fresh at d place name target drawn fresh none first =
    ap (λ (ps : List (ℕ × ℕ)). after_stores at ps (first_entry_page (page_at d))) (fresh_are fresh drawn first d place name target none)
    ∙ fresh_pages at d fresh place.first place.head (real drawn target) name
