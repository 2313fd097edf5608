-- A link in the first free entry.
use Rattle.std.proofs.Common.{◌≡◌, ◌≢◌, ◌⊎◌, inl, inr, ℕ, ◌+◌, ◌%◌, ◌<◌, ◌≤◌, List, [], ◌∷◌, length, take, Contains, Option, None, refl, sym, subst, ap, ◌∙◌, arith}
use Rattle.std.proofs.lemmas.Bool.{cases_lt, cases_eq}
use Rattle.std.proofs.lemmas.List.{append-nil}
use Rattle.zo_layout.specs.Layout.{page_at, bucket_head, bucket_of, entry_place, first_free_entry, next_entry}
use Rattle.zo_model.specs.Commands.{IsName}
use Rattle.zo_model.specs.Directory.{IsPlace, Leads, Shows, IsReached, HasFree}
use Rattle.zo_laws.specs.Stores.{after_stores}
use Rattle.zo_laws.proofs.Members.{contains_here, contains_there}
use Rattle.zo_laws.proofs.StoreLemmas.{Within, Aside, within-weaker, within-take, after_last}
use Rattle.zo_laws.proofs.FrameLemmas.{place_aligned, leads_same}
use Rattle.zo_laws.proofs.PairLemmas.{InRange, HasEntry, entry_pairs, entry_in, entry_stored}
use Rattle.zo_laws.proofs.PrepareLemmas.{Touched, IsAsideOf, heads_kept, entry_kept, shows_kept, reached_kept, not_again, IsPrepared}

-- two places are one, or their words lie apart
pub places_apart : (P Q : ℕ → Type 0) (a b : ℕ) → IsPlace P a → IsPlace Q b → (a ≡ b) ⊎ ((a + 320 ≤ b) ⊎ (b + 320 ≤ a))
places_apart P Q a b one two =
    let a_is = one.is in
    let b_is = two.is in
    let a_low = one.twelve in
    let b_low = two.twelve in
    elim (cases_lt a b) [
      | inl less ↦ inr (inl (apart a b one.page one.place two.page two.place a_is b_is a_low b_low less))
      | inr more ↦ elim (cases_eq a b) [
        | inl same ↦ inl same
        | inr other ↦ inr (inr (apart b a two.page two.place one.page one.place b_is a_is b_low a_low (omega arith)))
      ]
    ]
  where
    apart : (a b p i q j : ℕ) → a ≡ entry_place (page_at p) i → b ≡ entry_place (page_at q) j → i < 12 → j < 12 → a < b → a + 320 ≤ b
    apart a b p i q j a_is b_is a_low b_low less = by (cases_lt p q)
      where
        by : (p < q) ⊎ (q ≤ p) → a + 320 ≤ b
        by (inl below) = omega arith
        by (inr above) = omega arith

-- a place of a page other than the directory's
pub place_off_page : (EntryPage : ℕ → Type 0) (d e : ℕ) → (EntryPage d → ⊥) → IsPlace EntryPage e → (e + 320 ≤ page_at d) ⊎ (page_at d + 4096 ≤ e)
place_off_page EntryPage d e not_entries p = by (cases_lt p.page d) (cases_eq p.page d)
  where
    by : (p.page < d) ⊎ (d ≤ p.page) → (p.page ≡ d) ⊎ (p.page ≢ d) → (e + 320 ≤ page_at d) ⊎ (page_at d + 4096 ≤ e)
    by _ (inl same) = absurd (not_entries (subst EntryPage same p.entries))
    by (inl below) (inr other) = inl (let is = p.is in let twelve = p.twelve in omega arith)
    by (inr above) (inr other) = inr (let is = p.is in let twelve = p.twelve in omega arith)

-- an entry other than the free one lies aside of it
apart_from : (EntryPage : ℕ → Type 0) (e entry : ℕ) → IsPlace EntryPage e → IsPlace EntryPage entry → e ≢ entry → (e + 320 ≤ entry) ⊎ (entry + 320 ≤ e)
apart_from EntryPage e entry one two other = by (places_apart EntryPage EntryPage e entry one two)
  where
    by : (e ≡ entry) ⊎ ((e + 320 ≤ entry) ⊎ (entry + 320 ≤ e)) → (e + 320 ≤ entry) ⊎ (entry + 320 ≤ e)
    by (inl same) = absurd (other same)
    by (inr apart) = apart

abbrev pub free_pairs : ℕ → ℕ → ℕ → ℕ → ℕ → List ℕ → List (ℕ × ℕ)
free_pairs d next entry head target name = (first_free_entry (page_at d), next) ∷ entry_pairs entry head target name

pub free_within : (d next entry head target : ℕ) (name : List ℕ) → entry % 8 ≡ 0 → length name ≤ 255 → Within (Touched d entry (entry + 320)) (free_pairs d next entry head target name)
free_within d next entry head target name aligned short =
    (inr (inl refl), within-weaker (InRange entry (entry + 320)) (Touched d entry (entry + 320)) (λ a in_range. inr (inr in_range)) (entry_pairs entry head target name) (entry_in entry head target name aligned short))

-- a link in the first free entry, of stores that are these
pub free_prepared : (at : ℕ → ℕ) (EntryPage More : ℕ → Type 0) (d : ℕ) (want : List ℕ → Option ℕ) (frees : List ℕ) (name : List ℕ) (entry target : ℕ) (pairs : List (ℕ × ℕ))
    → ((page : ℕ) → EntryPage page → More page) → (More d → ⊥) → Shows at EntryPage (page_at d) want → HasFree at EntryPage (page_at d) (entry ∷ frees) → IsName name → want name ≡ None
    → pairs ≡ (first_free_entry (page_at d), at (next_entry entry)) ∷ entry_pairs entry (at (bucket_head (page_at d) (bucket_of name))) target name
    → IsPrepared at pairs EntryPage More d want frees name entry target
free_prepared at EntryPage More d want frees name entry target pairs more not_more shows has is missing are =
    let head = at (bucket_head (page_at d) (bucket_of name)) in
    let next = at (next_entry entry) in
    let free = has.each entry (contains_here entry frees) in
    let place = free.place in
    let aligned = place_aligned EntryPage entry place in
    let not_entries : EntryPage d → ⊥ = λ p. not_more (more d p) in
    let stores : List (ℕ × ℕ) = free_pairs d next entry head target name in
    let all : Within (Touched d entry (entry + 320)) pairs = subst (Within (Touched d entry (entry + 320))) (sym are) (free_within d next entry head target name aligned is.short) in
    let off = place_off_page EntryPage d entry not_entries place in
    let aside : IsAsideOf at EntryPage d entry (entry + 320) = record {
      not_entries = not_entries;
      off_page = off;
      off_entries = λ e reached at_place. apart_from EntryPage e entry at_place place (λ same. free.unreached (subst (IsReached at (page_at d)) same reached));
    } in
    let new = after_stores at pairs in
    let heads = heads_kept at EntryPage d entry (entry + 320) pairs aside all in
    let unreached = λ (e : ℕ) (now : IsReached new (page_at d) e). reached_kept at EntryPage d entry (entry + 320) want pairs aside all shows e now in
    let moved = λ (p : IsPlace EntryPage entry). place_more EntryPage More entry more p in
    let taken = not_again at entry frees has.leads.2 in
    let in_frees = λ (e : ℕ) (among : Contains frees e). has.each e (contains_there entry frees e among) in
    let kept = λ (e : ℕ) (among : Contains frees e).
    let p = (in_frees e among).place in
    entry_kept at EntryPage d entry (entry + 320) e pairs not_entries p (apart_from EntryPage e entry p place (λ same. taken (subst (Contains frees) same among))) all (next_entry e) (place_aligned EntryPage e p) (omega arith) (omega arith) in
    let first : new (first_free_entry (page_at d)) ≡ next =
    ap (λ (ps : List (ℕ × ℕ)). after_stores at ps (first_free_entry (page_at d))) are
    ∙ after_last at [] (entry_pairs entry head target name) (first_free_entry (page_at d)) next
    (within-weaker (InRange entry (entry + 320)) (Aside (first_free_entry (page_at d))) (λ a in_range. first_aside off a in_range) (entry_pairs entry head target name) (entry_in entry head target name aligned is.short)) in
    let stored : HasEntry new entry head target name =
    subst (λ (ps : List (ℕ × ℕ)). HasEntry (after_stores at ps) entry head target name) (append-nil stores ∙ sym are)
    (entry_stored at ((first_free_entry (page_at d), next) ∷ []) [] entry head target name aligned is (λ a in_range. tt)) in
    record {
      before = λ made. shows_kept at EntryPage EntryPage d entry (entry + 320) want (take made pairs) (λ page p. p) aside (within-take (Touched d entry (entry + 320)) made pairs all) shows;
      free = record {
        leads = subst (λ (w : ℕ). Leads new w frees) (sym first) (leads_same at new next frees kept has.leads.2);
        each = λ e among. record { place = place_more EntryPage More e more (in_frees e among).place; unreached = λ now. (in_frees e among).unreached (unreached e now) };
      };
      ready = record {
        not_entries = not_more;
        shows = shows_kept at EntryPage More d entry (entry + 320) want pairs more aside all shows;
        is_name = is;
        missing = missing;
        place = moved place;
        unreached = λ now. free.unreached (unreached entry now);
        has = subst (λ (w : ℕ). HasEntry new entry w target name) (sym (heads (bucket_of name) (omega arith))) stored;
      };
      taken = taken;
    }
  where
    place_more : (EntryPage More : ℕ → Type 0) (e : ℕ) → ((page : ℕ) → EntryPage page → More page) → IsPlace EntryPage e → IsPlace More e
    place_more EntryPage More e more p = record { page = p.page; place = p.place; is = p.is; twelve = p.twelve; entries = more p.page p.entries }

    first_aside : (entry + 320 ≤ page_at d) ⊎ (page_at d + 4096 ≤ entry) → (a : ℕ) → InRange entry (entry + 320) a → Aside (first_free_entry (page_at d)) a
    first_aside (inl before) a (at_8, low, high) = λ same. omega arith
    first_aside (inr behind) a (at_8, low, high) = λ same. omega arith
