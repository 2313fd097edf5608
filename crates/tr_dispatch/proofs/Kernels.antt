-- What actions leave of the kernel's pages: the root coffer is the only one still, and the pages are the kernel's.
use Rattle.std.proofs.Common.{◌≡◌, ◌≢◌, ◌⊎◌, inl, inr, Bool, true, false, cond, ℕ, zero, suc, ◌+◌, ◌*◌, ◌/◌, ◌%◌, ◌<◌, ◌≤◌, List, [], ◌∷◌, length, take, get_or, All, Contains, refl, sym, ap, subst, ◌∙◌, arith, eqb-true, nat_eq, eq-eqb, slice_index_or}
use Rattle.std.specs.List.{range_with_len, filter, AllByRecursion, IsDistinct}
use Rattle.std.proofs.lemmas.Bool.{cases_eq, cases_lt, ne_eqb}
use Rattle.std.proofs.lemmas.List.Elements.{All-nil, All-cons, All-weaker, All-take, All-filter, All-contains, Contains-get_or, filter_passes}
use Rattle.std.proofs.lemmas.List.FromFn.{length-range_with_len, get_or-range_with_len}
use Rattle.pm_words.specs.Word.{Word, settled}
use Rattle.pm_words.specs.Memory.{word_at, store_at, HasPages}
use Rattle.pm_words.proofs.WordLemmas.{length_store_at, word_at_other}
use Rattle.zo_layout.specs.Layout.{page_at, word_of, kernel_pages, owner_word, coffer_table, committed_word, root_control}
use Rattle.kern_model.specs.KernelView.{value, pages_of, owner_of, free_pages}
use Rattle.kern_model.specs.Kernel.{kernel_owner, coffer_pages}
use Rattle.kern_model.specs.Journal.{IsHome}
use Rattle.kern_model.specs.JournalLaws.{IsDurable}
use Rattle.kern_model.specs.NewImage.{coffer_word}
use Rattle.kern_model.specs.Given.{IsGivenTo}
use Rattle.kern_model.specs.Inner.{RisesFrom}
use Rattle.kern_model.proofs.GivenSteps.{filter_rises, take_rises}
use Rattle.kern_model.proofs.Idle.{idle_owner}
use Rattle.tr_model.proofs.RootLemmas.{OwnsKernel}
use Rattle.tr_dispatch.specs.Rooted.{HasKernel}
use Rattle.tr_dispatch.proofs.Members.{is_left}

-- what the rows of the kernel's calls ask of the memory
pub owns_kernel : (words : List Word) → HasKernel words → OwnsKernel words
owns_kernel words k = record { size = k.size; idle = k.alone.idle; kernels = λ page lt none. let kernel = k.owned page lt in omega (arith, kernel, none) }

-- Whose a page is.

within_range : (a n : ℕ) → All (λ k. (a ≤ k) × (k < a + n)) (range_with_len a n)
within_range a n k d lt =
    let len = length-range_with_len a n in
    let inside : k < n = omega arith in
    let is = get_or-range_with_len a n k d inside in
    (omega arith, omega arith)

pub owner_is : (words : List Word) (page : ℕ) → HasKernel words → kernel_owner words page ≡ owner_of words page
owner_is words page k = idle_owner words page k.alone.idle.present

-- a page of a coffer
pub page_owned : (words : List Word) (id page : ℕ) → HasKernel words → Contains (coffer_pages words id) page → (page < pages_of words) × (owner_of words page ≡ id)
page_owned words id page k among =
    let test = λ (p : ℕ). nat_eq (kernel_owner words p) id in
    let range = range_with_len 0 (pages_of words) in
    let inside = All-contains (λ p. (0 ≤ p) × (p < 0 + pages_of words)) (filter test range) page (All-filter test (λ p. (0 ≤ p) × (p < 0 + pages_of words)) range (within_range 0 (pages_of words))) among in
    let passes = All-contains (λ p. test p ≡ true) (filter test range) page (filter_passes test range) among in
    (omega (arith, inside.1), sym (owner_is words page k) ∙ eqb-true (kernel_owner words page) id passes)

among_range : (n k : ℕ) → k < n → Contains (range_with_len 0 n) k
among_range n k lt =
    let len = length-range_with_len 0 n in
    let start : 0 + k ≡ k = omega arith in
    (k, omega (arith, len, lt), get_or-range_with_len 0 n k k lt ∙ start)

pub owned_page : (words : List Word) (id page : ℕ) → HasKernel words → page < pages_of words → owner_of words page ≡ id → Contains (coffer_pages words id) page
owned_page words id page k inside is =
    is_left (λ p. nat_eq (kernel_owner words p) id) (range_with_len 0 (pages_of words)) page (among_range (pages_of words) page inside) (eq-eqb (kernel_owner words page) id (owner_is words page k ∙ is))

-- no coffer has a page of the kernel's
pub page_past : (words : List Word) (id page : ℕ) → HasKernel words → id < 65535 → owner_of words page ≡ id → kernel_pages (pages_of words) ≤ page
page_past words id page k low is = by (cases_lt page (kernel_pages (pages_of words)))
  where
    by : (page < kernel_pages (pages_of words)) ⊎ (kernel_pages (pages_of words) ≤ page) → kernel_pages (pages_of words) ≤ page
    by (inl lt) = let kernel = k.owned page lt in absurd (omega (arith, kernel, is, low))
    by (inr past) = past

-- tests that agree on a range leave the same of it
same_filter : (f g : ℕ → Bool) (a n : ℕ) → ((k : ℕ) → a ≤ k → k < a + n → f k ≡ g k) → filter f (range_with_len a n) ≡ filter g (range_with_len a n)
same_filter f g a zero agree = refl
same_filter f g a (suc n) agree =
    let rest = same_filter f g (a + 1) n (λ k low high. agree k (omega (arith, low)) (omega (arith, high))) in
    let here = agree a (omega arith) (omega arith) in
    λ i. cond (here i) (a ∷ rest i) (rest i)

-- A coffer has the same pages where each page is whose it was.
pub same_pages : (words new : List Word) (id : ℕ) → HasKernel words → HasKernel new → pages_of new ≡ pages_of words → ((page : ℕ) → page < pages_of words → owner_of new page ≡ owner_of words page)
    → coffer_pages new id ≡ coffer_pages words id
same_pages words new id k now count owners =
    ap (λ (n : ℕ). filter (λ page. nat_eq (kernel_owner new page) id) (range_with_len 0 n)) count
    ∙ same_filter (λ page. nat_eq (kernel_owner new page) id) (λ page. nat_eq (kernel_owner words page) id) 0 (pages_of words)
    (λ page low high. ap (λ (owner : ℕ). nat_eq owner id) (owner_is new page now ∙ owners page (omega (arith, high)) ∙ sym (owner_is words page k)))

-- the pages that are given are pages of the memory, and nobody's
pub free_is : (words : List Word) (count page : ℕ) → Contains (take count (free_pages words)) page → (page < pages_of words) × (owner_of words page ≡ 0)
free_is words count page has =
    let test = λ (p : ℕ). nat_eq (owner_of words p) 0 in
    let range = range_with_len 0 (pages_of words) in
    let inside = All-contains (λ p. (0 ≤ p) × (p < 0 + pages_of words)) (take count (filter test range)) page (All-take (λ p. (0 ≤ p) × (p < 0 + pages_of words)) count (filter test range) (All-filter test (λ p. (0 ≤ p) × (p < 0 + pages_of words)) range (within_range 0 (pages_of words)))) has in
    let passes = All-contains (λ p. test p ≡ true) (take count (filter test range)) page (All-take (λ p. test p ≡ true) count (filter test range) (filter_passes test range)) has in
    (omega (arith, inside.1), eqb-true (owner_of words page) 0 passes)

-- the control page lies in the memory
pub control_inside : (pages : ℕ) → 64 ≤ pages → kernel_pages pages < pages
control_inside pages least = omega (arith, least)

-- All stands where the words of the coffer table, and those that say whose the kernel's pages and the control page are, have
-- their values still.
module _ (words new : List Word) (k : HasKernel words) (len : length new ≡ length words) (idle : IsDurable new committed_word 0)
    (tables : (i : ℕ) → i < 16384 → (word_at new (word_of (page_at (coffer_table (pages_of words))) i)).present ≡ (word_at words (word_of (page_at (coffer_table (pages_of words))) i)).present)
    (owners : (page : ℕ) → page ≤ kernel_pages (pages_of words) → (word_at new (owner_word (pages_of words) page)).present ≡ (word_at words (owner_word (pages_of words) page)).present) where
  same_count : pages_of new ≡ pages_of words
  same_count = ap (λ (n : ℕ). n / 512) len

  owned_still : (page : ℕ) → page < kernel_pages (pages_of new) → owner_of new page ≡ 65535
  owned_still page lt =
      let low : page < kernel_pages (pages_of words) = subst (λ (n : ℕ). page < kernel_pages n) same_count lt in
      ap (λ (n : ℕ). (word_at new (owner_word n page)).present) same_count ∙ owners page (omega (arith, low)) ∙ k.owned page low

  kernel_still : HasKernel new
  kernel_still = record {
    alone = record {
      idle = idle;
      entries = λ i lt.
          subst (λ (n : ℕ). (word_at new (word_of (page_at (coffer_table n)) i)).present ≡ coffer_word n i) (sym same_count) (tables i lt ∙ k.alone.entries i lt);
    };
    size = subst HasPages (sym len) k.size;
    owned = owned_still;
    control = ap (λ (n : ℕ). (word_at new (owner_word n (root_control n))).present) same_count ∙ owners (kernel_pages (pages_of words)) (omega arith) ∙ k.control;
  }

-- A store past the kernel's pages.
module _ (words : List Word) (addr x : ℕ) (k : HasKernel words) (aligned : addr % 8 ≡ 0) (past : page_at (kernel_pages (pages_of words)) ≤ addr) where
  abbrev stored : List Word
  stored = store_at addr x words

  other : (at : ℕ) → at % 8 ≡ 0 → at < page_at (kernel_pages (pages_of words)) → word_at stored at ≡ word_at words at
  other at whole low = word_at_other addr at x words aligned whole (λ same. omega (arith, same, low, past))

  table_low : (pages i : ℕ) → i < 16384 → word_of (page_at (coffer_table pages)) i < page_at (kernel_pages pages)
  table_low pages i lt = omega (arith, lt)

  -- the word of a page of the memory, in the owner table
  owner_low : (pages page : ℕ) → 64 ≤ pages → page < pages → owner_word pages page < page_at (kernel_pages pages)
  owner_low pages page least lt = omega (arith, least, lt)

  pub owner_stored : (page : ℕ) → page < pages_of words → owner_of stored page ≡ owner_of words page
  owner_stored page lt =
      ap (λ (n : ℕ). (word_at stored (owner_word n page)).present) (ap (λ (n : ℕ). n / 512) (length_store_at addr x words))
      ∙ ap (λ (w : Word). w.present) (other (owner_word (pages_of words) page) (omega arith) (owner_low (pages_of words) page k.size.least lt))

  pub kernel_stored : HasKernel stored
  kernel_stored =
      let same = other committed_word refl (omega arith) in
      kernel_still words stored k (length_store_at addr x words)
      (record { present = ap (λ (w : Word). w.present) same ∙ k.alone.idle.present; older = ap (λ (w : Word). w.older) same ∙ k.alone.idle.older })
      (λ i lt. ap (λ (w : Word). w.present) (other (word_of (page_at (coffer_table (pages_of words))) i) (omega arith) (table_low (pages_of words) i lt)))
      (λ page le. ap (λ (w : Word). w.present) (other (owner_word (pages_of words) page) (omega arith) (owner_low (pages_of words) page k.size.least (let inside = control_inside (pages_of words) k.size.least in omega (arith, le, inside)))))

  pub pages_stored : (id : ℕ) → coffer_pages stored id ≡ coffer_pages words id
  pages_stored id = same_pages words stored id k kernel_stored (ap (λ (n : ℕ). n / 512) (length_store_at addr x words)) owner_stored

-- Pages that were nobody's, and have come to a coffer.

-- a number is one of some, or none of them
among : (pages : List ℕ) (page : ℕ) → Contains pages page ⊎ All (λ p. page ≢ p) pages
among [] page = inr (All-nil (λ p. page ≢ p))
among (p ∷ pages) page = by (cases_eq page p) (among pages page)
  where
    by : (page ≡ p) ⊎ (page ≢ p) → Contains pages page ⊎ All (λ q. page ≢ q) pages → Contains (p ∷ pages) page ⊎ All (λ q. page ≢ q) (p ∷ pages)
    by (inl same) rest = inl (zero, omega arith, sym same)
    by (inr ne) (inl (k, lt, at)) = inl (suc k, omega arith, at)
    by (inr ne) (inr away) = inr (All-cons (λ q. page ≢ q) p pages ne away)

module _ (words new : List Word) (id count : ℕ) (k : HasKernel words) (given : IsGivenTo id (take count (free_pages words)) words new) where
  abbrev spare : List ℕ
  spare = take count (free_pages words)

  pub new_count : pages_of new ≡ pages_of words
  new_count = ap (λ (n : ℕ). n / 512) given.len

  -- each given page is past the kernel's, and none is the control page
  past_kernel : (page : ℕ) → Contains spare page → (kernel_pages (pages_of words) < page) × (page < pages_of words)
  past_kernel page has =
      let is = free_is words count page has in
      let past = page_past words 0 page k (omega arith) is.1 in
      (by (cases_eq page (kernel_pages (pages_of words))) is.1 past, is.0)
    where
      by : (page ≡ kernel_pages (pages_of words)) ⊎ (page ≢ kernel_pages (pages_of words)) → owner_of words page ≡ 0 → kernel_pages (pages_of words) ≤ page → kernel_pages (pages_of words) < page
      by (inl same) nobody past = let own = ap (owner_of words) same ∙ k.control in absurd (omega (arith, own, nobody))
      by (inr other) nobody past = omega (arith, other, past)

  all_past : All (λ page. (kernel_pages (pages_of words) < page) × (page < pages_of words)) spare
  all_past j d lt = past_kernel (get_or spare j d) (Contains-get_or spare j d lt)

  -- a word of the kernel's pages behind the journal, that says of none of the given pages whose it is
  kept : (addr : ℕ) → IsHome (length words) addr → addr < page_at (kernel_pages (pages_of words)) → ((page : ℕ) → kernel_pages (pages_of words) < page → page < pages_of words → owner_word (pages_of words) page ≢ addr)
      → (word_at new addr).present ≡ (word_at words addr).present
  kept addr home low apart = given.others addr home
      (All-weaker (λ page. (kernel_pages (pages_of words) < page) × (page < pages_of words)) (λ page. owner_word (pages_of words) page ≢ addr) (λ page b. apart page b.0 b.1) spare all_past)
      (All-weaker (λ page. (kernel_pages (pages_of words) < page) × (page < pages_of words)) (λ page. addr / 4096 ≢ page) (λ page b e. let past = b.0 in omega (arith, e, past, low)) spare all_past)

  pub kernel_given : HasKernel new
  kernel_given =
      kernel_still words new k given.len given.idle
      (λ i lt. kept (word_of (page_at (coffer_table (pages_of words))) i)
      (record { inside = record { aligned = omega arith; inside = omega (arith, lt, k.size.whole, k.size.least) }; outside = λ _. omega arith })
      (omega (arith, lt))
      (λ page past inside e. omega (arith, past, inside, e, lt)))
      (λ page le. kept (owner_word (pages_of words) page)
      (record { inside = record { aligned = omega arith; inside = omega (arith, le, k.size.whole, k.size.least) }; outside = λ _. omega arith })
      (omega (arith, le, k.size.least))
      (λ other past inside e. omega (arith, past, inside, e, le)))

  owner_new : (page : ℕ) → owner_of new page ≡ value new (owner_word (pages_of words) page)
  owner_new page = ap (λ (n : ℕ). value new (owner_word n page)) new_count

  pub given_owner : (page : ℕ) → Contains spare page → owner_of new page ≡ id
  given_owner page has = owner_new page ∙ All-contains (λ p. value new (owner_word (pages_of words) p) ≡ id) spare page given.owned has

  -- the owner's word of another page stays
  pub other_owner : (page : ℕ) → page < pages_of words → All (λ p. page ≢ p) spare → owner_of new page ≡ owner_of words page
  other_owner page lt away =
      owner_new page
      ∙ given.others (owner_word (pages_of words) page) (record { inside = record { aligned = omega arith; inside = omega (arith, k.size.whole, lt, k.size.least) }; outside = λ from. omega (arith, k.size.whole) })
      (All-weaker (λ p. page ≢ p) (λ p. owner_word (pages_of words) p ≢ owner_word (pages_of words) page) (λ p ne e. ne (omega (arith, e))) spare away)
      (All-weaker (λ p. (kernel_pages (pages_of words) < p) × (p < pages_of words)) (λ p. owner_word (pages_of words) page / 4096 ≢ p) (λ p b e. let past = b.0 in omega (arith, e, past, lt)) spare all_past)

  -- the coffer keeps its pages, has the given ones, and no other
  pub page_kept : (page : ℕ) → Contains (coffer_pages words id) page → Contains (coffer_pages new id) page
  page_kept page has = by (among spare page)
    where
      is : (page < pages_of words) × (owner_of words page ≡ id)
      is = page_owned words id page k has

      inside : page < pages_of new
      inside = subst (λ (n : ℕ). page < n) (sym new_count) is.0

      by : Contains spare page ⊎ All (λ p. page ≢ p) spare → Contains (coffer_pages new id) page
      by (inl drawn) = owned_page new id page kernel_given inside (given_owner page drawn)
      by (inr away) = owned_page new id page kernel_given inside (other_owner page is.0 away ∙ is.1)

  pub page_given : (page : ℕ) → Contains spare page → Contains (coffer_pages new id) page
  page_given page has = owned_page new id page kernel_given (subst (λ (n : ℕ). page < n) (sym new_count) (free_is words count page has).0) (given_owner page has)

  pub page_only : (page : ℕ) → Contains (coffer_pages new id) page → Contains (coffer_pages words id) page ⊎ Contains spare page
  page_only page has = by (among spare page)
    where
      is : (page < pages_of new) × (owner_of new page ≡ id)
      is = page_owned new id page kernel_given has

      inside : page < pages_of words
      inside = subst (λ (n : ℕ). page < n) new_count is.0

      by : Contains spare page ⊎ All (λ p. page ≢ p) spare → Contains (coffer_pages words id) page ⊎ Contains spare page
      by (inl drawn) = inr drawn
      by (inr away) = inl (owned_page words id page k inside (sym (other_owner page inside away) ∙ is.1))

  -- none of the given pages was a coffer's
  pub page_apart : 0 < id → (page : ℕ) → Contains spare page → Contains (coffer_pages words id) page → ⊥
  page_apart some page has own =
      let nobody = (free_is words count page has).1 in
      let is = (page_owned words id page k own).1 in
      omega (arith, nobody, is, some)

  -- the words of the coffer's pages stay
  module _ (some : 0 < id) (low : id < 65535) (addr : ℕ) (own : Contains (coffer_pages words id) (addr / 4096)) where
    abbrev place : ℕ
    place = 8 * (addr / 8)

    page_same : place / 4096 ≡ addr / 4096
    page_same = omega arith

    own_is : (addr / 4096 < pages_of words) × (owner_of words (addr / 4096) ≡ id)
    own_is = page_owned words id (addr / 4096) k own

    behind : kernel_pages (pages_of words) ≤ addr / 4096
    behind = page_past words id (addr / 4096) k low own_is.1

    home : IsHome (length words) place
    home =
        let inside = own_is.0 in
        let past = behind in
        let whole = k.size.whole in
        record { inside = record { aligned = omega arith; inside = omega (arith, inside, whole) }; outside = λ _. omega (arith, past, whole) }

    not_given : All (λ page. place / 4096 ≢ page) spare
    not_given j d lt e = page_apart some (get_or spare j d) (Contains-get_or spare j d lt) (subst (Contains (coffer_pages words id)) (sym page_same ∙ e) own)

    not_owner : All (λ page. owner_word (pages_of words) page ≢ place) spare
    not_owner = All-weaker (λ page. (kernel_pages (pages_of words) < page) × (page < pages_of words)) (λ page. owner_word (pages_of words) page ≢ place) (λ page b e. let below = b.1 in let past = behind in omega (arith, e, below, past)) spare all_past

    same_place : addr / 8 ≡ place / 8
    same_place = omega arith

    pub word_same : value new addr ≡ value words addr
    word_same =
        ap (λ (i : ℕ). (slice_index_or new i (settled 0)).present) same_place
        ∙ given.others place home not_owner not_given
        ∙ sym (ap (λ (i : ℕ). (slice_index_or words i (settled 0)).present) same_place)

-- Pages that rise are distinct.
past_all : (x bound : ℕ) (pages : List ℕ) → x < bound → RisesFrom bound pages → AllByRecursion (λ y. nat_eq x y ≡ false) pages
past_all x bound [] less rises = tt
past_all x bound (page ∷ pages) less (least, rises) = (ne_eqb x page (λ e. omega (arith, e, less, least)), past_all x (page + 1) pages (omega (arith, less, least)) rises)

rising_once : (bound : ℕ) (pages : List ℕ) → RisesFrom bound pages → IsDistinct nat_eq pages
unfolding IsDistinct
rising_once bound [] rises = tt
rising_once bound (page ∷ pages) (least, rises) = (past_all page (page + 1) pages (omega arith) rises, rising_once (page + 1) pages rises)

pub given_once : (words : List Word) (count : ℕ) → IsDistinct nat_eq (take count (free_pages words))
given_once words count = rising_once 0 (take count (free_pages words)) (take_rises count 0 (free_pages words) (filter_rises (λ page. nat_eq (owner_of words page) 0) 0 (pages_of words)))
