-- What the kernel's steps leave where pages are given to a coffer.
use Rattle.std.proofs.Common.{◌≡◌, ◌≢◌, inl, inr, ℕ, ◌+◌, ◌-◌, ◌*◌, ◌/◌, ◌%◌, ◌<◌, ◌≤◌, zero, suc, Bool, true, false, cond, List, [], ◌∷◌, ◌++◌, length, map, filter, take, get_or, nat_eq, refl, sym, ap, subst, ◌∙◌, arith, All, Contains, eq-eqb, ne_eqb}
use Rattle.std.specs.Prelude.{fold, ⊤, nat_lt}
use Rattle.std.specs.List.{range_with_len, flat_map, IsDistinct, AllByRecursion}
use Rattle.std.proofs.lemmas.Bool.{cases_lt, cond_both, le-ltb}
use Rattle.std.proofs.lemmas.List.{append-nil, append_assoc, get_or_past}
use Rattle.std.proofs.lemmas.List.Elements.{All-nil, All-cons, All-head, All-tail, All-append, All-map, All-push, All-weaker, All-contains, Contains-append_left, Contains-append_right, Contains-get_or}
use Rattle.pm_words.specs.Word.{Word, settled, stored}
use Rattle.pm_words.specs.Memory.{word_at, HasPages}
use Rattle.zo_layout.specs.Layout.{page_at, word_of, owner_word, kernel_pages, committed_word}
use Rattle.kern_model.specs.KernelView.{pages_of}
use Rattle.kern_model.specs.KernelView.{value}
use Rattle.kern_model.specs.Inner.{IsHome, made_all, made, journal_events, RisesFrom}
use Rattle.kern_model.specs.declared.inner.Inner.{Inner}
use Rattle.kern_model.specs.declared.inner.Inner.TheVariants.{Store, Flush, Fence}
use Rattle.kern_model.specs.JournalLaws.{IsDurable, IsReady, IsApplied}
use Rattle.kern_model.specs.Given.{IsGivenTo}
use Rattle.kern_model.specs.KernelCalls.{put_pair, in_order, owner_pairs, zeros_of, lines_of_page, zero_events}
use Rattle.kern_model.proofs.WordSteps.{Spares}
use Rattle.kern_model.proofs.PhaseLemmas.{durable_kept, kept_by}
use Rattle.kern_model.proofs.FinishLemmas.{applied}
use Rattle.kern_model.proofs.StepLemmas.{length_run, length_made, made_at, value_made}

-- Pairs that stand in order of address already.

abbrev pub Rises : ℕ → List (ℕ × ℕ) → Type 0
Rises bound [] = ⊤
Rises bound (p ∷ ps) = (bound ≤ p.0) × Rises (p.0 + 1) ps

put_last : (acc : List (ℕ × ℕ)) (p : ℕ × ℕ) → All (λ (q : ℕ × ℕ). q.0 < p.0) acc → put_pair acc p ≡ acc ++ p ∷ []
put_last [] p below = refl
put_last (q ∷ qs) p below =
    let less = All-head (λ (r : ℕ × ℕ). r.0 < p.0) q qs below in
    ap (λ (b : Bool). cond b (p ∷ qs) (cond (nat_lt p.0 q.0) (p ∷ q ∷ qs) (q ∷ put_pair qs p))) (ne_eqb p.0 q.0 (λ e. omega (arith, e, less)))
    ∙ ap (λ (b : Bool). cond b (p ∷ q ∷ qs) (q ∷ put_pair qs p)) (le-ltb p.0 q.0 (omega (arith, less)))
    ∙ ap (λ (rest : List (ℕ × ℕ)). q ∷ rest) (put_last qs p (All-tail (λ (r : ℕ × ℕ). r.0 < p.0) q qs below))

fold_put : (acc ps : List (ℕ × ℕ)) (bound : ℕ) → All (λ (q : ℕ × ℕ). q.0 < bound) acc → Rises bound ps → fold put_pair acc ps ≡ acc ++ ps
fold_put acc [] bound below rises = sym (append-nil acc)
fold_put acc (p ∷ ps) bound below (least, rises) =
    ap (λ (now : List (ℕ × ℕ)). fold put_pair now ps) (put_last acc p (All-weaker (λ (q : ℕ × ℕ). q.0 < bound) (λ (q : ℕ × ℕ). q.0 < p.0) (λ q less. omega (arith, less, least)) acc below))
    ∙ fold_put (acc ++ p ∷ []) ps (p.0 + 1) (All-push (λ (q : ℕ × ℕ). q.0 < p.0 + 1) acc p (All-weaker (λ (q : ℕ × ℕ). q.0 < bound) (λ (q : ℕ × ℕ). q.0 < p.0 + 1) (λ q less. omega (arith, less, least)) acc below) (omega arith)) rises
    ∙ append_assoc acc (p ∷ []) ps

pub in_order_already : (ps : List (ℕ × ℕ)) (bound : ℕ) → Rises bound ps → in_order ps ≡ ps
in_order_already ps bound rises = fold_put [] ps bound (All-nil (λ (q : ℕ × ℕ). q.0 < bound)) rises

pub rises_from_less : (more : ℕ) (ps : List (ℕ × ℕ)) → Rises more ps → Rises 0 ps
rises_from_less more [] rises = tt
rises_from_less more (p ∷ ps) (least, rises) = (omega arith, rises)

all_past : (x bound : ℕ) (ps : List (ℕ × ℕ)) → x < bound → Rises bound ps → AllByRecursion (λ y. nat_eq x y ≡ false) (map (λ (p : ℕ × ℕ). p.0) ps)
all_past x bound [] less rises = tt
all_past x bound (p ∷ ps) less (least, rises) = (ne_eqb x p.0 (λ e. omega (arith, e, less, least)), all_past x (p.0 + 1) ps (omega (arith, less, least)) rises)

pub rising_differ : (bound : ℕ) (ps : List (ℕ × ℕ)) → Rises bound ps → IsDistinct nat_eq (map (λ (p : ℕ × ℕ). p.0) ps)
unfolding IsDistinct
rising_differ bound [] rises = tt
rising_differ bound (p ∷ ps) (least, rises) = (all_past p.0 (p.0 + 1) ps (omega arith) rises, rising_differ (p.0 + 1) ps rises)

-- the owner words of rising pages rise
pub owners_rise : (words : List Word) (id bound : ℕ) (pages : List ℕ) → RisesFrom bound pages → Rises (owner_word (pages_of words) bound) (owner_pairs words id pages)
owners_rise words id bound [] rises = tt
owners_rise words id bound (page ∷ pages) (least, rises) = (omega (arith, least), weaker (owner_word (pages_of words) (page + 1)) (owner_word (pages_of words) page + 1) (owner_pairs words id pages) (omega arith) (owners_rise words id (page + 1) pages rises))
  where
    weaker : (more less : ℕ) (ps : List (ℕ × ℕ)) → less ≤ more → Rises more ps → Rises less ps
    weaker more less [] le r = tt
    weaker more less (p ∷ ps) le (l, r) = (omega (arith, l, le), r)

-- pages of a row that pass a test rise
pub filter_rises : (test : ℕ → Bool) (a n : ℕ) → RisesFrom a (filter test (range_with_len a n))
filter_rises test a zero = tt
filter_rises test a (suc n) = by (test a) (filter_rises test (a + 1) n)
  where
    lower : (more less : ℕ) (xs : List ℕ) → less ≤ more → RisesFrom more xs → RisesFrom less xs
    lower more less [] le r = tt
    lower more less (x ∷ xs) le (l, r) = (omega (arith, l, le), r)

    by : (b : Bool) → RisesFrom (a + 1) (filter test (range_with_len (a + 1) n)) → RisesFrom a (cond b (a ∷ filter test (range_with_len (a + 1) n)) (filter test (range_with_len (a + 1) n)))
    by true rest = (omega arith, rest)
    by false rest = lower (a + 1) a (filter test (range_with_len (a + 1) n)) (omega arith) rest

pub take_rises : (n bound : ℕ) (xs : List ℕ) → RisesFrom bound xs → RisesFrom bound (take n xs)
take_rises zero bound xs rises = tt
take_rises (suc n) bound [] rises = tt
take_rises (suc n) bound (x ∷ xs) (l, r) = (l, take_rises n (x + 1) xs r)

-- Zeroing.

-- each step stores 0 in a word of the pages, or stores nothing
abbrev Zeroes : List ℕ → Inner → Type 0
Zeroes pages (Store at v) = (v ≡ 0) × (at % 8 ≡ 0) × Contains pages (at / 4096)
Zeroes pages (Flush at) = ⊤
Zeroes pages Fence = ⊤

map_all : (P : Inner → Type 0) (f : ℕ → Inner) (a n : ℕ) → ((i : ℕ) → i < a + n → P (f i)) → All P (map f (range_with_len a n))
map_all P f a zero each = All-nil P
map_all P f a (suc n) each = All-cons P (f a) (map f (range_with_len (a + 1) n)) (each a (omega arith)) (map_all P f (a + 1) n (λ i lt. each i (omega arith)))

flat_all : (P : Inner → Type 0) (f : ℕ → List Inner) (pages : List ℕ) → ((page : ℕ) → Contains pages page → All P (f page)) → All P (flat_map f pages)
flat_all P f [] each = All-nil P
flat_all P f (page ∷ pages) each =
    All-append P (f page) (flat_map f pages) (each page (zero, omega arith, refl)) (flat_all P f pages (λ other there. each other (later other there)))
  where
    later : (other : ℕ) → Contains pages other → Contains (page ∷ pages) other
    later other (k, lt, at) = (suc k, omega arith, at)

zeroes_all : (pages : List ℕ) → All (Zeroes pages) (zero_events pages)
zeroes_all [] = All-nil (Zeroes [])
zeroes_all (page ∷ pages) =
    All-append (Zeroes (page ∷ pages)) (flat_map zeros_of (page ∷ pages)) (flat_map lines_of_page (page ∷ pages) ++ Fence ∷ [])
    (flat_all (Zeroes (page ∷ pages)) zeros_of (page ∷ pages) (λ p there. map_all (Zeroes (page ∷ pages)) (λ i. Store (word_of (page_at p) i) 0) 0 512 (λ i lt. (refl, omega arith, subst (Contains (page ∷ pages)) (omega arith) there))))
    (All-append (Zeroes (page ∷ pages)) (flat_map lines_of_page (page ∷ pages)) (Fence ∷ [])
    (flat_all (Zeroes (page ∷ pages)) lines_of_page (page ∷ pages) (λ p there. map_all (Zeroes (page ∷ pages)) (λ i. Flush (page_at p + 64 * i)) 0 64 (λ i lt. tt)))
    (All-cons (Zeroes (page ∷ pages)) Fence [] tt (All-nil (Zeroes (page ∷ pages)))))

-- a word of none of the pages is spared
spared_by_zeroes : (addr : ℕ) (pages : List ℕ) → addr % 8 ≡ 0 → All (λ page. addr / 4096 ≢ page) pages → (e : Inner) → Zeroes pages e → Spares addr e
spared_by_zeroes addr pages whole apart (Store at v) (none, aligned, there) = λ same. All-contains (λ page. addr / 4096 ≢ page) pages (at / 4096) apart there (omega (arith, same, whole, aligned))
spared_by_zeroes addr pages whole apart (Flush at) z = tt
spared_by_zeroes addr pages whole apart Fence z = tt

pub zeroes_spare : (addr : ℕ) (pages : List ℕ) → addr % 8 ≡ 0 → All (λ page. addr / 4096 ≢ page) pages → All (Spares addr) (zero_events pages)
zeroes_spare addr pages whole apart = All-weaker (Zeroes pages) (Spares addr) (spared_by_zeroes addr pages whole apart) (zero_events pages) (zeroes_all pages)

-- a step that zeroes leaves 0 where 0 was
zero_made : (pages : List ℕ) (words : List Word) (addr : ℕ) (e : Inner) → Zeroes pages e → value words addr ≡ 0 → value (made words e) addr ≡ 0
zero_made pages words addr (Store at v) (none, aligned, there) was = elim (cases_lt (addr / 8) (length words)) [
  | inl lt ↦ ap (λ (w : Word). w.present) (made_at words addr (Store at v) lt) ∙ cond_both (nat_eq (at / 8) (addr / 8)) (stored v (word_at words addr)) (word_at words addr) (λ (w : Word). w.present ≡ 0) (λ t. none) (λ f. was)
  | inr le ↦ let size = length_made words (Store at v) in ap (λ (w : Word). w.present) (get_or_past (made words (Store at v)) (addr / 8) (settled 0) (omega (arith, size, le)))
]
zero_made pages words addr (Flush at) z was = value_made words addr (Flush at) (λ e. e) ∙ was
zero_made pages words addr Fence z was = value_made words addr Fence (λ e. e) ∙ was

zero_run : (pages : List ℕ) (es : List Inner) (words : List Word) (addr : ℕ) → All (Zeroes pages) es → value words addr ≡ 0 → value (made_all es words) addr ≡ 0
zero_run pages [] words addr all was = was
zero_run pages (e ∷ es) words addr all was =
    zero_run pages es (made words e) addr (All-tail (Zeroes pages) e es all) (zero_made pages words addr e (All-head (Zeroes pages) e es all) was)

-- a word that a step stores 0 in is 0 after all of them
zero_stored : (pages : List ℕ) (es : List Inner) (words : List Word) (addr : ℕ) → All (Zeroes pages) es → addr / 8 < length words → Contains es (Store addr 0) → value (made_all es words) addr ≡ 0
zero_stored pages [] words addr all lt (k, l, at) = absurd (omega arith)
zero_stored pages (e ∷ es) words addr all lt (zero, l, at) =
    zero_run pages es (made words e) addr (All-tail (Zeroes pages) e es all)
    (subst (λ (step : Inner). value (made words step) addr ≡ 0) (sym at)
    (ap (λ (w : Word). w.present) (made_at words addr (Store addr 0) lt) ∙ ap (λ (b : Bool). (cond b (stored 0 (word_at words addr)) (word_at words addr)).present) (eq-eqb (addr / 8) (addr / 8) refl)))
zero_stored pages (e ∷ es) words addr all lt (suc k, l, at) =
    let size = length_made words e in
    zero_stored pages es (made words e) addr (All-tail (Zeroes pages) e es all) (omega (arith, size, lt)) (k, omega arith, at)

further : (y x : Inner) (xs : List Inner) → Contains xs x → Contains (y ∷ xs) x
further y x xs (k, lt, at) = (suc k, omega arith, at)

in_row : (f : ℕ → Inner) (a n i : ℕ) → i < n → Contains (map f (range_with_len a n)) (f (a + i))
in_row f a zero i lt = absurd (omega arith)
in_row f a (suc n) zero lt = subst (λ (j : ℕ). Contains (f a ∷ map f (range_with_len (a + 1) n)) (f j)) (omega arith) (zero, omega arith, refl)
in_row f a (suc n) (suc i) lt =
    further (f a) (f (a + suc i)) (map f (range_with_len (a + 1) n)) (subst (λ (j : ℕ). Contains (map f (range_with_len (a + 1) n)) (f j)) (omega arith) (in_row f (a + 1) n i (omega arith)))

in_flat : (f : ℕ → List Inner) (pages : List ℕ) (page : ℕ) (e : Inner) → Contains pages page → Contains (f page) e → Contains (flat_map f pages) e
in_flat f [] page e (k, lt, at) there = absurd (omega arith)
in_flat f (p ∷ pages) page e (zero, lt, at) there = Contains-append_left (f p) (flat_map f pages) e (subst (λ (q : ℕ). Contains (f q) e) (sym at) there)
in_flat f (p ∷ pages) page e (suc k, lt, at) there = Contains-append_right (f p) (flat_map f pages) e (in_flat f pages page e (k, omega arith, at) there)

zero_among : (pages : List ℕ) (page i : ℕ) → Contains pages page → i < 512 → Contains (zero_events pages) (Store (word_of (page_at page) i) 0)
zero_among [] page i (k, lt, at) less = absurd (omega arith)
zero_among (p ∷ pages) page i there less =
    Contains-append_left (flat_map zeros_of (p ∷ pages)) (flat_map lines_of_page (p ∷ pages) ++ Fence ∷ []) (Store (word_of (page_at page) i) 0)
    (in_flat zeros_of (p ∷ pages) page (Store (word_of (page_at page) i) 0) there
    (subst (λ (k : ℕ). Contains (zeros_of page) (Store (word_of (page_at page) k) 0)) (let is : 0 + i ≡ i = omega arith in is) (in_row (λ j. Store (word_of (page_at page) j) 0) 0 512 i less)))

pub zeroed : (pages : List ℕ) (words : List Word) (page i : ℕ) → Contains pages page → i < 512 → word_of (page_at page) i / 8 < length words → value (made_all (zero_events pages) words) (word_of (page_at page) i) ≡ 0
zeroed pages words page i there less lt = zero_stored pages (zero_events pages) words (word_of (page_at page) i) (zeroes_all pages) lt (zero_among pages page i there less)

-- Pages that rise, past the kernel's, are given to a coffer.

pub record CanBeGiven (words : List Word) (pages : List ℕ) : Type 0 where
  pub size : HasPages (length words)
  pub idle : IsDurable words committed_word 0
  pub rise : RisesFrom 0 pages
  pub inside : All (λ page. (kernel_pages (pages_of words) ≤ page) × (page < pages_of words)) pages

pub length_owners : (words : List Word) (id : ℕ) (pages : List ℕ) → length (owner_pairs words id pages) ≡ length pages
length_owners words id [] = refl
length_owners words id (page ∷ pages) = ap suc (length_owners words id pages)

-- rising numbers below a bound are no more than it
rising_few : (low high : ℕ) (xs : List ℕ) → RisesFrom low xs → All (λ x. x < high) xs → length xs ≤ high - low
rising_few low high [] rises below = omega arith
rising_few low high (x ∷ xs) (least, rises) below =
    let rest = rising_few (x + 1) high xs rises (All-tail (λ y. y < high) x xs below) in
    let here = All-head (λ y. y < high) x xs below in
    omega (arith, rest, here, least)

module _ (words : List Word) (id : ℕ) (pages : List ℕ) (can : CanBeGiven words pages) where
  count : ℕ
  count = pages_of words

  abbrev pairs : List (ℕ × ℕ)
  pairs = owner_pairs words id pages

  abbrev mid : List Word
  mid = made_all (zero_events pages) words

  abbrev new : List Word
  new = made_all (journal_events pairs) mid

  rises : Rises (owner_word (pages_of words) 0) pairs
  rises = owners_rise words id 0 pages can.rise

  len_mid : length mid ≡ length words
  len_mid = length_run (zero_events pages) words

  home_of : (page : ℕ) → (kernel_pages (pages_of words) ≤ page) × (page < pages_of words) → IsHome (length mid) (owner_word (pages_of words) page)
  home_of page (past, inside) =
      let size = len_mid in
      let whole = can.size.whole in
      record { inside = record { aligned = omega arith; inside = omega (arith, size, whole, inside) }; outside = λ from. omega (arith, size, whole) }

  spares_journal : All (Spares committed_word) (zero_events pages)
  spares_journal =
      zeroes_spare committed_word pages refl (All-weaker (λ page. (kernel_pages (pages_of words) ≤ page) × (page < pages_of words)) (λ page. committed_word / 4096 ≢ page) (λ page p e. let past = p.0 in omega (arith, past, e)) pages can.inside)

  ready : IsReady mid pairs
  ready = record {
    size = subst HasPages (sym len_mid) can.size;
    room =
        let few = rising_few 0 (pages_of words) pages can.rise (All-weaker (λ page. (kernel_pages (pages_of words) ≤ page) × (page < pages_of words)) (λ page. page < pages_of words) (λ page p. p.1) pages can.inside) in
        let is = length_owners words id pages in
        let size = len_mid in
        omega (arith, few, is, size);
    different = rising_differ (owner_word (pages_of words) 0) pairs rises;
    homes = All-map (λ (p : ℕ × ℕ). IsHome (length mid) p.0) (λ page. (owner_word (pages_of words) page, id)) pages (All-weaker (λ page. (kernel_pages (pages_of words) ≤ page) × (page < pages_of words)) (λ page. IsHome (length mid) (owner_word (pages_of words) page)) home_of pages can.inside);
    idle = durable_kept (zero_events pages) words committed_word 0 (let whole = can.size.whole in let least = can.size.least in omega (arith, whole, least)) spares_journal can.idle;
  }

  after : IsApplied pairs mid new
  after = applied mid pairs ready

  pub given_to : IsGivenTo id pages words new
  given_to = record {
    len = after.len ∙ len_mid;
    idle = after.idle;
    owned = λ k d lt. (done_at pages after.done k d lt).present;
    zeroed = λ k d lt i less. zeroed_at (get_or pages k d) (Contains-get_or pages k d lt) (can.inside k d lt) i less;
    others = other;
  }
    where
      unnamed : (addr : ℕ) (ps : List ℕ) → All (λ page. owner_word (pages_of words) page ≢ addr) ps → All (λ (p : ℕ × ℕ). p.0 ≢ addr) (map (λ page. (owner_word (pages_of words) page, id)) ps)
      unnamed addr ps apart = All-map (λ (p : ℕ × ℕ). p.0 ≢ addr) (λ page. (owner_word (pages_of words) page, id)) ps apart

      zeroed_at : (page : ℕ) → Contains pages page → (kernel_pages (pages_of words) ≤ page) × (page < pages_of words) → (i : ℕ) → i < 512 → (word_at new (word_of (page_at page) i)).present ≡ 0
      zeroed_at page there (past, inside) i less =
          let whole = can.size.whole in
          let size = len_mid in
          let at = word_of (page_at page) i in
          (after.others at (record { inside = record { aligned = omega arith; inside = omega (arith, size, whole, inside, less) }; outside = λ from. omega (arith, size, whole, past) })
          (unnamed at pages (All-weaker (λ p. (kernel_pages (pages_of words) ≤ p) × (p < pages_of words)) (λ p. owner_word (pages_of words) p ≢ at) (λ p b e. let below = b.1 in omega (arith, e, below, past)) pages can.inside))).present
          ∙ zeroed pages words page i there less (omega (arith, whole, inside, less))

      other : (addr : ℕ) → IsHome (length words) addr → All (λ page. owner_word (pages_of words) page ≢ addr) pages → All (λ page. addr / 4096 ≢ page) pages → (word_at new addr).present ≡ (word_at words addr).present
      other addr home apart away =
          (after.others addr (subst (λ (n : ℕ). IsHome n addr) (sym len_mid) home) (unnamed addr pages apart)).present
          ∙ (kept_by (zero_events pages) words addr home.inside.inside (zeroes_spare addr pages home.inside.aligned away)).present

      done_at : (ps : List ℕ) → All (λ (p : ℕ × ℕ). IsDurable new p.0 p.1) (map (λ page. (owner_word (pages_of words) page, id)) ps) → All (λ page. IsDurable new (owner_word (pages_of words) page) id) ps
      done_at [] all = All-nil (λ page. IsDurable new (owner_word (pages_of words) page) id)
      done_at (p ∷ ps) all = All-cons (λ page. IsDurable new (owner_word (pages_of words) page) id) p ps (All-head (λ (q : ℕ × ℕ). IsDurable new q.0 q.1) (owner_word (pages_of words) p, id) (map (λ page. (owner_word (pages_of words) page, id)) ps) all) (done_at ps (All-tail (λ (q : ℕ × ℕ). IsDurable new q.0 q.1) (owner_word (pages_of words) p, id) (map (λ page. (owner_word (pages_of words) page, id)) ps) all))
