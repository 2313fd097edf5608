-- A link in a drawn entry page.
use Rattle.std.proofs.Common.{◌≡◌, ◌≢◌, ◌⊎◌, inl, inr, ℕ, zero, suc, ◌+◌, ◌%◌, ◌<◌, ◌≤◌, List, [], ◌∷◌, ◌++◌, length, map, take, Contains, Option, None, refl, sym, subst, ap, ◌∙◌, arith}
use Rattle.std.proofs.lemmas.Bool.{cases_lt, cases_eq}
use Rattle.std.proofs.lemmas.List.FromFn.{length-map-range_with_len, get_or-map-range_with_len}
use Rattle.std.specs.List.{range_with_len}
use Rattle.zo_layout.specs.Layout.{page_at, bucket_head, bucket_of, entry_place, first_entry_page, first_free_entry}
use Rattle.zo_model.specs.Commands.{IsName}
use Rattle.zo_model.specs.Directory.{IsPlace, Leads, Shows, IsReached, IsFree}
use Rattle.zo_model.specs.Steps.{put as put_at}
use Rattle.zo_laws.specs.Stores.{after_stores}
use Rattle.zo_laws.specs.Linking.{IsFreshPage}
use Rattle.zo_laws.proofs.StoreLemmas.{Within, Aside, within-append, within-weaker, within-take, after_aside, after-append, after_last, put_here, put_other}
use Rattle.zo_laws.proofs.PairLemmas.{InRange, HasEntry, aside_range, entry_pairs, entry_in, entry_stored}
use Rattle.zo_laws.proofs.PrepareLemmas.{Touched, IsAsideOf, heads_kept, shows_kept, reached_kept, reached_place, IsPrepared}

-- the free entries of a page, each led to by the one before it
abbrev pub link_pair : ℕ → ℕ → ℕ × ℕ
link_pair page i = (entry_place page i, entry_place page (i + 1))

unfoldable pub links_from : ℕ → ℕ → ℕ → List (ℕ × ℕ)
links_from page first count = map (link_pair page) (range_with_len first count)

-- the first words of the directory
unfoldable pub tops_of : ℕ → ℕ → List (ℕ × ℕ)
tops_of d page = (first_entry_page (page_at d), page) ∷ (first_free_entry (page_at d), entry_place page 1) ∷ []

unfoldable pub page_pairs : ℕ → ℕ → List (ℕ × ℕ)
page_pairs page first = (page, first) ∷ links_from page 1 10

links_in : (f first count : ℕ) → first + count ≤ 12 → Within (InRange (page_at f) (page_at f + 4096)) (links_from (page_at f) first count)
unfolding links_from
links_in f first zero few = tt
links_in f first (suc count) few = ((omega arith, omega arith, omega arith), links_in f (first + 1) count (omega arith))

-- links behind an address of the page, or before it, are aside of it
links_aside : (f a first count : ℕ) → a % 8 ≡ 0 → ((k : ℕ) → first ≤ k → k < first + count → entry_place (page_at f) k ≢ a) → Within (Aside a) (links_from (page_at f) first count)
unfolding links_from
links_aside f a first zero at_8 other = tt
links_aside f a first (suc count) at_8 other =
    ((let ne = other first (omega arith) (omega arith) in λ same. ne (omega arith)), links_aside f a (first + 1) count at_8 (λ k low high. other k (omega arith) (omega arith)))

link_stored : (at : ℕ → ℕ) (f first count j : ℕ) → first ≤ j → j < first + count → after_stores at (links_from (page_at f) first count) (entry_place (page_at f) j) ≡ entry_place (page_at f) (j + 1)
unfolding links_from
link_stored at f first zero j low high = absurd (omega arith)
link_stored at f first (suc count) j low high =
    by (cases_eq j first) (λ other. link_stored (put_at at (entry_place (page_at f) first) (entry_place (page_at f) (first + 1))) f (first + 1) count j (omega arith) (omega arith))
  where
    IsThere : ℕ → Type 0
    IsThere i = after_stores at (links_from (page_at f) first (suc count)) (entry_place (page_at f) i) ≡ entry_place (page_at f) (i + 1)

    by : (j ≡ first) ⊎ (j ≢ first) → ((j ≢ first) → IsThere j) → IsThere j
    by (inl same) later =
        subst IsThere (sym same)
        (after_last at [] (links_from (page_at f) (first + 1) count) (entry_place (page_at f) first) (entry_place (page_at f) (first + 1))
        (links_aside f (entry_place (page_at f) first) (first + 1) count (omega arith) (λ k below above. λ is. omega arith)))
    by (inr other) later = later other

abbrev pub fresh_pairs : ℕ → ℕ → ℕ → ℕ → ℕ → List ℕ → List (ℕ × ℕ)
fresh_pairs d f first head target name = page_pairs (page_at f) first ++ entry_pairs (entry_place (page_at f) 0) head target name ++ tops_of d (page_at f)

entry_in_page : (f head target : ℕ) (name : List ℕ) → length name ≤ 255 → Within (InRange (page_at f) (page_at f + 4096)) (entry_pairs (entry_place (page_at f) 0) head target name)
entry_in_page f head target name short =
    within-weaker (InRange (entry_place (page_at f) 0) (entry_place (page_at f) 0 + 320)) (InRange (page_at f) (page_at f + 4096)) (λ a r. wide a r) (entry_pairs (entry_place (page_at f) 0) head target name)
    (entry_in (entry_place (page_at f) 0) head target name (omega arith) short)
  where
    wide : (a : ℕ) → InRange (entry_place (page_at f) 0) (entry_place (page_at f) 0 + 320) a → InRange (page_at f) (page_at f + 4096) a
    wide a (at_8, low, high) = (at_8, omega arith, omega arith)

pub fresh_within : (d f first head target : ℕ) (name : List ℕ) → length name ≤ 255 → Within (Touched d (page_at f) (page_at f + 4096)) (fresh_pairs d f first head target name)
unfolding page_pairs tops_of
fresh_within d f first head target name short =
    let S : ℕ → Type 0 = Touched d (page_at f) (page_at f + 4096) in
    let in_page = within-append (InRange (page_at f) (page_at f + 4096)) (page_pairs (page_at f) first) (entry_pairs (entry_place (page_at f) 0) head target name)
    ((omega arith, omega arith, omega arith), links_in f 1 10 (omega arith)) (entry_in_page f head target name short) in
    within-append S (page_pairs (page_at f) first ++ entry_pairs (entry_place (page_at f) 0) head target name) (tops_of d (page_at f))
    (within-weaker (InRange (page_at f) (page_at f + 4096)) S (λ a r. inr (inr r)) (page_pairs (page_at f) first ++ entry_pairs (entry_place (page_at f) 0) head target name) in_page)
    (inl refl, (inr (inl refl), tt))

-- two pages don't overlap
pub pages_apart : (p q : ℕ) → p ≢ q → (page_at p + 4096 ≤ page_at q) ⊎ (page_at q + 4096 ≤ page_at p)
pages_apart p q other = by (cases_lt p q)
  where
    by : (p < q) ⊎ (q ≤ p) → (page_at p + 4096 ≤ page_at q) ⊎ (page_at q + 4096 ≤ page_at p)
    by (inl below) = inl (omega arith)
    by (inr above) = inr (omega arith)

-- a place of another page
place_off : (EntryPage : ℕ → Type 0) (f e : ℕ) → (EntryPage f → ⊥) → IsPlace EntryPage e → (e + 320 ≤ page_at f) ⊎ (page_at f + 4096 ≤ e)
place_off EntryPage f e not_entries p = by (pages_apart p.page f (λ same. not_entries (subst EntryPage same p.entries)))
  where
    by : (page_at p.page + 4096 ≤ page_at f) ⊎ (page_at f + 4096 ≤ page_at p.page) → (e + 320 ≤ page_at f) ⊎ (page_at f + 4096 ≤ e)
    by (inl before) = inl (let is = p.is in let twelve = p.twelve in omega arith)
    by (inr behind) = inr (let is = p.is in let twelve = p.twelve in omega arith)

-- the tops are aside of the drawn page
tops_aside : (d f a : ℕ) → f ≢ d → a % 8 ≡ 0 → page_at f ≤ a → a < page_at f + 4096 → Within (Aside a) (tops_of d (page_at f))
unfolding tops_of
tops_aside d f a other at_8 low high = by (pages_apart f d other)
  where
    by : (page_at f + 4096 ≤ page_at d) ⊎ (page_at d + 4096 ≤ page_at f) → Within (Aside a) (tops_of d (page_at f))
    by (inl before) = ((λ same. omega arith), ((λ same. omega arith), tt))
    by (inr behind) = ((λ same. omega arith), ((λ same. omega arith), tt))

-- the chain of the page's free entries
chain_leads : (new : ℕ → ℕ) (f i n w : ℕ) → suc i + n ≡ 12 → w ≡ entry_place (page_at f) i → ((j : ℕ) → i ≤ j → j < 11 → new (entry_place (page_at f) j) ≡ entry_place (page_at f) (j + 1)) → new (entry_place (page_at f) 11) ≡ 0
    → Leads new w (map (entry_place (page_at f)) (range_with_len i (suc n)))
chain_leads new f i zero w twelve is linked last =
    let eleven : i ≡ 11 = omega arith in
    (is, (λ none. omega arith), ap (λ (j : ℕ). new (entry_place (page_at f) j)) eleven ∙ last)
chain_leads new f i (suc n) w twelve is linked last =
    (is, (λ none. omega arith), chain_leads new f (i + 1) n (new (entry_place (page_at f) i)) (omega arith) (linked i (omega arith) (omega arith)) (λ j low high. linked j (omega arith) high) last)

-- the words of the drawn page once they are stored
fresh_word : (at : ℕ → ℕ) (d f first head target a : ℕ) (name : List ℕ) → f ≢ d → length name ≤ 255 → a % 8 ≡ 0 → entry_place (page_at f) 1 ≤ a → a < page_at f + 4096
    → after_stores at (fresh_pairs d f first head target name) a ≡ after_stores at (page_pairs (page_at f) first) a
fresh_word at d f first head target a name other short at_8 low high =
    let entry : List (ℕ × ℕ) = entry_pairs (entry_place (page_at f) 0) head target name in
    let front : List (ℕ × ℕ) = page_pairs (page_at f) first in
    ap (λ (w : ℕ → ℕ). w a) (after-append at (front ++ entry) (tops_of d (page_at f)))
    ∙ after_aside (after_stores at (front ++ entry)) (tops_of d (page_at f)) a (tops_aside d f a other at_8 (omega arith) high)
    ∙ ap (λ (w : ℕ → ℕ). w a) (after-append at front entry)
    ∙ after_aside (after_stores at front) entry a
    (within-weaker (InRange (entry_place (page_at f) 0) (entry_place (page_at f) 0 + 320)) (Aside a) (λ x r. aside_range a (entry_place (page_at f) 0) (entry_place (page_at f) 0 + 320) x at_8 (inr (omega arith)) r) entry
    (entry_in (entry_place (page_at f) 0) head target name (omega arith) short))

fresh_link : (at : ℕ → ℕ) (d f first head target j : ℕ) (name : List ℕ) → f ≢ d → length name ≤ 255 → 1 ≤ j → j < 11
    → after_stores at (fresh_pairs d f first head target name) (entry_place (page_at f) j) ≡ entry_place (page_at f) (j + 1)
unfolding page_pairs
fresh_link at d f first head target j name other short low high =
    fresh_word at d f first head target (entry_place (page_at f) j) name other short (omega arith) (omega arith) (omega arith)
    ∙ link_stored (put_at at (page_at f) first) f 1 10 j low (omega arith)

fresh_last : (at : ℕ → ℕ) (d f first head target : ℕ) (name : List ℕ) → f ≢ d → length name ≤ 255 → at (entry_place (page_at f) 11) ≡ 0
    → after_stores at (fresh_pairs d f first head target name) (entry_place (page_at f) 11) ≡ 0
unfolding page_pairs
fresh_last at d f first head target name other short blank =
    fresh_word at d f first head target (entry_place (page_at f) 11) name other short (omega arith) (omega arith) (omega arith)
    ∙ after_aside (put_at at (page_at f) first) (links_from (page_at f) 1 10) (entry_place (page_at f) 11) (links_aside f (entry_place (page_at f) 11) 1 10 (omega arith) (λ k low high. λ is. omega arith))
    ∙ put_other at (page_at f) first (entry_place (page_at f) 11) (λ same. omega arith)
    ∙ blank

fresh_first : (at : ℕ → ℕ) (d f first head target : ℕ) (name : List ℕ) → after_stores at (fresh_pairs d f first head target name) (first_free_entry (page_at d)) ≡ entry_place (page_at f) 1
unfolding tops_of
fresh_first at d f first head target name =
    let front : List (ℕ × ℕ) = page_pairs (page_at f) first ++ entry_pairs (entry_place (page_at f) 0) head target name in
    ap (λ (w : ℕ → ℕ). w (first_free_entry (page_at d))) (after-append at front (tops_of d (page_at f)))
    ∙ put_here (put_at (after_stores at front) (first_entry_page (page_at d)) (page_at f)) (first_free_entry (page_at d)) (entry_place (page_at f) 1) (first_free_entry (page_at d)) refl

-- the directory's word for its entry pages leads to the drawn one
pub fresh_pages : (at : ℕ → ℕ) (d f first head target : ℕ) (name : List ℕ) → after_stores at (fresh_pairs d f first head target name) (first_entry_page (page_at d)) ≡ page_at f
unfolding tops_of
fresh_pages at d f first head target name =
    let front : List (ℕ × ℕ) = page_pairs (page_at f) first ++ entry_pairs (entry_place (page_at f) 0) head target name in
    ap (λ (w : ℕ → ℕ). w (first_entry_page (page_at d))) (after-append at front (tops_of d (page_at f)))
    ∙ put_other (put_at (after_stores at front) (first_entry_page (page_at d)) (page_at f)) (first_free_entry (page_at d)) (entry_place (page_at f) 1) (first_entry_page (page_at d)) (λ same. omega arith)
    ∙ put_here (after_stores at front) (first_entry_page (page_at d)) (page_at f) (first_entry_page (page_at d)) refl

-- a member of the page's free entries
free_place : (f e : ℕ) → Contains (map (entry_place (page_at f)) (range_with_len 1 11)) e → (j : ℕ) × (1 ≤ j) × (j < 12) × (e ≡ entry_place (page_at f) j)
free_place f e (k, low, is) =
    let low' : k < 11 = omega (arith, length-map-range_with_len (entry_place (page_at f)) 1 11) in
    (1 + k, omega arith, omega arith, sym is ∙ get_or-map-range_with_len (entry_place (page_at f)) 1 11 k (1 + k) e low' refl)

-- a link in a drawn page, of stores that are these
pub fresh_prepared : (at : ℕ → ℕ) (EntryPage More : ℕ → Type 0) (d : ℕ) (want : List ℕ → Option ℕ) (name : List ℕ) (f first target : ℕ) (pairs : List (ℕ × ℕ))
    → ((page : ℕ) → EntryPage page → More page) → (More d → ⊥) → More f → Shows at EntryPage (page_at d) want → IsFreshPage at EntryPage d f → IsName name → want name ≡ None
    → pairs ≡ fresh_pairs d f first (at (bucket_head (page_at d) (bucket_of name))) target name
    → IsPrepared at pairs EntryPage More d want (map (entry_place (page_at f)) (range_with_len 1 11)) name (entry_place (page_at f) 0) target
fresh_prepared at EntryPage More d want name f first target pairs more not_more more_f shows fresh is missing are =
    let head = at (bucket_head (page_at d) (bucket_of name)) in
    let entry = entry_place (page_at f) 0 in
    let from = page_at f in
    let to = page_at f + 4096 in
    let short : length name ≤ 255 = is.short in
    let not_entries : EntryPage d → ⊥ = λ p. not_more (more d p) in
    let all : Within (Touched d from to) pairs = subst (Within (Touched d from to)) (sym are) (fresh_within d f first head target name short) in
    let aside : IsAsideOf at EntryPage d from to = record {
      not_entries = not_entries;
      off_page = pages_apart f d fresh.not_dir;
      off_entries = λ e reached place. place_off EntryPage f e fresh.not_entries place;
    } in
    let new = after_stores at pairs in
    let heads = heads_kept at EntryPage d from to pairs aside all in
    let unreached = λ (j : ℕ) (twelve : j < 12) (now : IsReached new (page_at d) (entry_place (page_at f) j)).
    let place = reached_place at EntryPage (page_at d) want shows (entry_place (page_at f) j) (reached_kept at EntryPage d from to want pairs aside all shows (entry_place (page_at f) j) now) in
    none_there j twelve (place_off EntryPage f (entry_place (page_at f) j) fresh.not_entries place) in
    let there = λ (a w : ℕ) (e : after_stores at (fresh_pairs d f first head target name) a ≡ w). ap (λ (ps : List (ℕ × ℕ)). after_stores at ps a) are ∙ e in
    let stored : HasEntry new entry head target name =
    subst (λ (ps : List (ℕ × ℕ)). HasEntry (after_stores at ps) entry head target name) (sym are)
    (entry_stored at (page_pairs (page_at f) first) (tops_of d (page_at f)) entry head target name (omega arith) is (λ a r. tops_off a r)) in
    record {
      before = λ made. shows_kept at EntryPage EntryPage d from to want (take made pairs) (λ page p. p) aside (within-take (Touched d from to) made pairs all) shows;
      free = record {
        leads = subst (λ (w : ℕ). Leads new w (map (entry_place (page_at f)) (range_with_len 1 11))) (sym (there (first_free_entry (page_at d)) (entry_place (page_at f) 1) (fresh_first at d f first head target name)))
            (chain_leads new f 1 10 (entry_place (page_at f) 1) refl refl
            (λ j low high. there (entry_place (page_at f) j) (entry_place (page_at f) (j + 1)) (fresh_link at d f first head target j name fresh.not_dir short low high))
            (there (entry_place (page_at f) 11) 0 (fresh_last at d f first head target name fresh.not_dir short (fresh.blank 472 (omega arith)))));
        each = λ e among.
            let found = free_place f e among in
            subst (IsFree new More (page_at d)) (sym found.3) (record { place = record { page = f; place = found.0; is = refl; twelve = found.2; entries = more_f }; unreached = unreached found.0 found.2 });
      };
      ready = record {
        not_entries = not_more;
        shows = shows_kept at EntryPage More d from to want pairs more aside all shows;
        is_name = is;
        missing = missing;
        place = record { page = f; place = 0; is = refl; twelve = omega arith; entries = more_f };
        unreached = unreached 0 (omega arith);
        has = subst (λ (w : ℕ). HasEntry new entry w target name) (sym (heads (bucket_of name) (omega arith))) stored;
      };
      taken = λ among. let found = free_place f entry among in not_first found.0 found.1 found.3;
    }
  where
    none_there : (j : ℕ) → j < 12 → (entry_place (page_at f) j + 320 ≤ page_at f) ⊎ (page_at f + 4096 ≤ entry_place (page_at f) j) → ⊥
    none_there j twelve (inl before) = omega arith
    none_there j twelve (inr behind) = omega arith

    not_first : (j : ℕ) → 1 ≤ j → entry_place (page_at f) 0 ≡ entry_place (page_at f) j → ⊥
    not_first j low same = omega arith

    tops_off : (a : ℕ) → InRange (entry_place (page_at f) 0) (entry_place (page_at f) 0 + 320) a → Within (Aside a) (tops_of d (page_at f))
    tops_off a (at_8, low, high) = tops_aside d f a fresh.not_dir at_8 (omega arith) (omega arith)
