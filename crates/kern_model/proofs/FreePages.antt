-- The free pages of a memory: by one number, in a new image, and after the first one is given.
use Rattle.std.proofs.Common.{◌≡◌, ◌≢◌, ◌⊎◌, inl, inr, ℕ, ◌+◌, ◌-◌, ◌*◌, ◌/◌, ◌%◌, ◌<◌, ◌≤◌, Bool, true, false, cond, List, ◌∷◌, length, filter, refl, sym, ap, subst, ◌∙◌, arith, suc, zero, eq-eqb, nat_eq, nat_lt}
use Rattle.std.specs.List.{range_with_len}
use Rattle.std.proofs.lemmas.Bool.{cases_eq, ne_eqb, lt-ltb, le-ltb}
use Rattle.std.proofs.lemmas.List.FromFn.{length-range_with_len, get_or-map-range_with_len, length-map-range_with_len}
use Rattle.pm_words.specs.Word.{Word, stored}
use Rattle.pm_words.specs.Memory.{word_at, store_at, all_durable, IsAddress, IsPages, HasPages}
use Rattle.pm_words.proofs.WordLemmas.{length_store_at, word_at_stored, word_at_other, length_all_durable, word_at_all_durable, has_pages}
use Rattle.zo_layout.specs.Layout.{kernel_pages, owner_table, coffer_table, owner_word, root_page}
use Rattle.kern_model.specs.NewImage.{new_image, new_word, word_in_page, owner_table_word, owner_in_new}
use Rattle.kern_model.specs.KernelView.{pages_of, owner_of, free_pages}
use Rattle.kern_model.specs.FreePages.{IsFreeFrom}

-- A test that fails below a number and holds from there on keeps the rest of a range.

pub filter_all : (test : ℕ → Bool) (a n : ℕ) → ((i : ℕ) → a ≤ i → i < a + n → test i ≡ true) → filter test (range_with_len a n) ≡ range_with_len a n
filter_all test a zero all = refl
filter_all test a (suc n) all =
    let here : test a ≡ true = all a (omega arith) (omega arith) in
    ap (λ (b : Bool). cond b (a ∷ filter test (range_with_len (a + 1) n)) (filter test (range_with_len (a + 1) n))) here
    ∙ ap (λ (xs : List ℕ). a ∷ xs) (filter_all test (a + 1) n (λ i low high. all i (omega arith) (omega arith)))

pub filter_from : (test : ℕ → Bool) (skipped a n left : ℕ) → n ≡ skipped + left → ((i : ℕ) → a ≤ i → i < a + skipped → test i ≡ false) → ((i : ℕ) → a + skipped ≤ i → i < a + n → test i ≡ true)
    → filter test (range_with_len a n) ≡ range_with_len (a + skipped) left
filter_from test zero a n left sum fails holds =
    let start : a ≡ a + 0 = omega arith in
    let same : n ≡ left = omega arith in
    filter_all test a n (λ i low high. holds i (omega arith) high)
    ∙ ap (λ (b : ℕ). range_with_len b n) start
    ∙ ap (λ (m : ℕ). range_with_len (a + 0) m) same
filter_from test (suc skipped) a zero left sum fails holds = absurd (omega arith)
filter_from test (suc skipped) a (suc n) left sum fails holds =
    let here : test a ≡ false = fails a (omega arith) (omega arith) in
    let start : a + 1 + skipped ≡ a + suc skipped = omega arith in
    ap (λ (b : Bool). cond b (a ∷ filter test (range_with_len (a + 1) n)) (filter test (range_with_len (a + 1) n))) here
    ∙ filter_from test skipped (a + 1) n left (omega arith) (λ i low high. fails i (omega arith) (omega arith)) (λ i low high. holds i (omega arith) (omega arith))
    ∙ ap (λ (b : ℕ). range_with_len b left) start

pub pages_are : (words : List Word) (pages : ℕ) → length words ≡ 512 * pages → pages_of words ≡ pages
pages_are words pages size = omega arith

-- the free pages, the least first
pub free_list : (words : List Word) (pages first : ℕ) → IsFreeFrom words pages first → free_pages words ≡ range_with_len first (pages - first)
free_list words pages first free =
    let count = pages_are words pages free.size.whole in
    let inside = free.inside in
    let start : 0 + first ≡ first = omega arith in
    filter_from (λ (page : ℕ). nat_eq (owner_of words page) 0) first 0 (pages_of words) (pages - first) (omega arith)
    (λ page low high. ne_eqb (owner_of words page) 0 (free.taken page (omega arith)))
    (λ page low high. eq-eqb (owner_of words page) 0 (free.free page (omega arith) (omega arith)))
    ∙ ap (λ (n : ℕ). range_with_len n (pages - first)) start

pub free_count : (words view : List Word) (pages first : ℕ) → words ≡ view → IsFreeFrom words pages first → pages - first ≡ length (free_pages view)
free_count words view pages first same free =
    sym (length-range_with_len first (pages - first))
    ∙ ap (λ (xs : List ℕ). length xs) (sym (free_list words pages first free))
    ∙ ap (λ (ws : List Word). length (free_pages ws)) same

-- where pages are free, the first is a page
pub first_inside : (words view : List Word) (pages first : ℕ) → words ≡ view → IsFreeFrom words pages first → 0 < length (free_pages view) → first < pages
first_inside words view pages first same free some = let count = free_count words view pages first same free in omega arith

-- An owner word is a word of the memory, and each page has its own.

pub owner_address : (count pages page : ℕ) → IsPages count pages → page < pages → IsAddress count (owner_word pages page)
owner_address count pages page size lt = record { aligned = omega arith; inside = let whole = size.whole in let least = size.least in omega arith }

pub owner_apart : (pages page other : ℕ) → page ≢ other → owner_word pages page ≢ owner_word pages other
owner_apart pages page other ne same = ne (omega arith)

-- whose a page is, where the number of pages is known
pub owner_is : (words : List Word) (pages page : ℕ) → IsPages (length words) pages → owner_of words page ≡ (word_at words (owner_word pages page)).present
owner_is words pages page size = ap (λ (n : ℕ). (word_at words (owner_word n page)).present) (pages_are words pages size.whole)

pub size_stored : (words : List Word) (pages addr value : ℕ) → IsPages (length words) pages → IsPages (length (store_at addr value words)) pages
size_stored words pages addr value size = subst (λ (n : ℕ). IsPages n pages) (sym (length_store_at addr value words)) size

-- a store at another address leaves it
pub owner_kept : (words : List Word) (pages page addr value : ℕ) → IsPages (length words) pages → addr % 8 ≡ 0 → owner_word pages page ≢ addr → owner_of (store_at addr value words) page ≡ owner_of words page
owner_kept words pages page addr value size aligned ne =
    owner_is (store_at addr value words) pages page (size_stored words pages addr value size)
    ∙ ap (λ (w : Word). w.present) (word_at_other addr (owner_word pages page) value words aligned (omega arith) ne)
    ∙ sym (owner_is words pages page size)

-- the page that was given is the coffer's
pub owner_given : (words : List Word) (pages page coffer : ℕ) → IsPages (length words) pages → page < pages → owner_of (store_at (owner_word pages page) coffer words) page ≡ coffer
owner_given words pages page coffer size lt =
    owner_is (store_at (owner_word pages page) coffer words) pages page (size_stored words pages (owner_word pages page) coffer size)
    ∙ ap (λ (w : Word). w.present) (word_at_stored (owner_word pages page) coffer words (owner_address (length words) pages page size lt))

-- after the first free page was given, all from the next one on are free
free_after_owner : (words : List Word) (pages first coffer : ℕ) → IsFreeFrom words pages first → first < pages → 0 < coffer → IsFreeFrom (store_at (owner_word pages first) coffer words) pages (first + 1)
free_after_owner words pages first coffer free lt some = record {
  size = size_stored words pages (owner_word pages first) coffer free.size;
  inside = omega arith;
  taken = λ page below. by page (cases_eq page first) (omega arith);
  free = λ page low high. kept page (omega arith) ∙ free.free page (omega arith) high;
}
  where
    kept : (page : ℕ) → page ≢ first → owner_of (store_at (owner_word pages first) coffer words) page ≡ owner_of words page
    kept page ne = owner_kept words pages page (owner_word pages first) coffer free.size (omega arith) (owner_apart pages page first ne)

    by : (page : ℕ) → (page ≡ first) ⊎ (page ≡ first → ⊥) → page ≤ first → owner_of (store_at (owner_word pages first) coffer words) page ≢ 0
    by page (inl is) le zero_now =
        let given = owner_given words pages first coffer free.size lt in
        let same : owner_of (store_at (owner_word pages first) coffer words) page ≡ owner_of (store_at (owner_word pages first) coffer words) first
        = ap (λ (k : ℕ). owner_of (store_at (owner_word pages first) coffer words) k) is in
        omega arith
    by page (inr ne) le zero_now = free.taken page (omega arith) (sym (kept page ne) ∙ zero_now)

pub free_after_give : (words new : List Word) (pages first coffer addr : ℕ) → addr ≡ owner_word pages first → new ≡ store_at addr coffer words → IsFreeFrom words pages first → first < pages → 0 < coffer → IsFreeFrom new pages (first + 1)
free_after_give words new pages first coffer addr at stored free lt some =
    subst (λ (ws : List Word). IsFreeFrom ws pages (first + 1)) (sym (stored ∙ ap (λ (a : ℕ). store_at a coffer words) at)) (free_after_owner words pages first coffer free lt some)

-- the first free page was the least, and the others are left
pub first_and_rest : (words new view : List Word) (pages first coffer addr : ℕ) → words ≡ view → addr ≡ owner_word pages first → new ≡ store_at addr coffer words → IsFreeFrom words pages first → first < pages → 0 < coffer
    → free_pages view ≡ first ∷ free_pages new
first_and_rest words new view pages first coffer addr same at stored free lt some =
    let left : pages - first ≡ suc (pages - (first + 1)) = omega arith in
    let after = free_after_give words new pages first coffer addr at stored free lt some in
    ap (λ (ws : List Word). free_pages ws) (sym same)
    ∙ free_list words pages first free
    ∙ ap (λ (n : ℕ). range_with_len first n) left
    ∙ ap (λ (xs : List ℕ). first ∷ xs) (sym (free_list new pages (first + 1) after))

-- In a new image.

pub size_new : (pages : ℕ) → 64 ≤ pages → pages ≤ 16384 → IsPages (length (new_image pages)) pages
size_new pages least most = record { whole = length-map-range_with_len (new_word pages) 0 (512 * pages); least = least; most = most }

pub size_opened : (pages : ℕ) → 64 ≤ pages → pages ≤ 16384 → IsPages (length (all_durable (new_image pages))) pages
size_opened pages least most = subst (λ (n : ℕ). IsPages n pages) (sym (length_all_durable (new_image pages))) (size_new pages least most)

third : (a b c : Bool) (x y z w : ℕ) → a ≡ false → b ≡ false → c ≡ true → cond a x (cond b y (cond c z w)) ≡ z
third a b c x y z w ea eb ec =
    ap (λ (t : Bool). cond t x (cond b y (cond c z w))) ea
    ∙ ap (λ (t : Bool). cond t y (cond c z w)) eb
    ∙ ap (λ (t : Bool). cond t z w) ec

-- the owner table has the owners
owner_in_page : (pages page at i : ℕ) → page < pages → at ≡ owner_table pages + page / 512 → i ≡ page % 512 → word_in_page pages at i ≡ owner_in_new pages page
owner_in_page pages page at i lt at_is i_is =
    let place : 512 * (at - owner_table pages) + i ≡ page = omega arith in
    third _ _ _ _ _ _ _ (ne_eqb at 0 (λ e. omega arith)) (le-ltb at (owner_table pages) (omega arith)) (lt-ltb at (coffer_table pages) (omega arith))
    ∙ ap (λ (k : ℕ). owner_table_word pages k) place
    ∙ ap (λ (t : Bool). cond t (owner_in_new pages page) 0) (lt-ltb page pages lt)

pub owner_new : (pages page : ℕ) → 64 ≤ pages → pages ≤ 16384 → page < pages → owner_of (all_durable (new_image pages)) page ≡ owner_in_new pages page
owner_new pages page least most lt =
    let size = size_opened pages least most in
    let at = owner_address (512 * pages) pages page (record { whole = refl; least = least; most = most }) lt in
    let inside : owner_word pages page / 8 < length (new_image pages) = let size_now = (size_new pages least most).whole in let h = at.inside in omega arith in
    let start : 0 + owner_word pages page / 8 ≡ owner_word pages page / 8 = omega arith in
    owner_is (all_durable (new_image pages)) pages page size
    ∙ ap (λ (w : Word). w.present) (word_at_all_durable (new_image pages) (owner_word pages page / 8) inside)
    ∙ get_or-map-range_with_len (new_word pages) 0 (512 * pages) (owner_word pages page / 8) (owner_word pages page / 8) 0 at.inside start
    ∙ owner_in_page pages page (owner_word pages page / 8 / 512) (owner_word pages page / 8 % 512) lt (omega arith) (omega arith)

-- the pages behind the root coffer's two are free
pub free_in_new : (pages : ℕ) → 64 ≤ pages → pages ≤ 16384 → IsFreeFrom (all_durable (new_image pages)) pages (kernel_pages pages + 2)
free_in_new pages least most = record {
  size = size_opened pages least most;
  inside = fits;
  taken = λ page below zero_now. some page below (sym (owner_new pages page least most (omega arith)) ∙ zero_now);
  free = λ page low high. owner_new pages page least most high ∙ none page low;
}
  where
    fits : kernel_pages pages + 2 ≤ pages
    fits = omega arith

    none : (page : ℕ) → kernel_pages pages + 2 ≤ page → owner_in_new pages page ≡ 0
    none page low =
        ap (λ (t : Bool). cond t 65535 (cond (nat_lt page (kernel_pages pages + 2)) 1 0)) (le-ltb page (kernel_pages pages) (omega arith))
        ∙ ap (λ (t : Bool). cond t 1 0) (le-ltb page (kernel_pages pages + 2) low)

    owned : (t : Bool) (n : ℕ) → 0 < n → cond t n 1 ≢ 0
    owned true n lt zero_now = omega arith
    owned false n lt zero_now = omega arith

    some : (page : ℕ) → page < kernel_pages pages + 2 → owner_in_new pages page ≢ 0
    some page below zero_now =
        owned (nat_lt page (kernel_pages pages)) 65535 (omega arith)
        (ap (λ (t : Bool). cond (nat_lt page (kernel_pages pages)) 65535 (cond t 1 0)) (sym (lt-ltb page (kernel_pages pages + 2) below)) ∙ zero_now)

pub has_pages_new : (image : List ℕ) (pages : ℕ) → image ≡ new_image pages → 64 ≤ pages → pages ≤ 16384 → HasPages (length image)
has_pages_new image pages is least most = subst (λ (values : List ℕ). HasPages (length values)) (sym is) (has_pages (length (new_image pages)) pages (size_new pages least most))

-- the memory that opens over a new image
pub free_opened : (image : List ℕ) (words : List Word) (pages root : ℕ) → image ≡ new_image pages → words ≡ all_durable image → root ≡ root_page pages → 64 ≤ pages → pages ≤ 16384 → IsFreeFrom words pages (root + 1)
free_opened image words pages root image_is words_are root_is least most =
    let first : kernel_pages pages + 2 ≡ root + 1 = omega arith in
    subst (λ (ws : List Word). IsFreeFrom ws pages (root + 1)) (sym (words_are ∙ ap all_durable image_is))
    (subst (λ (n : ℕ). IsFreeFrom (all_durable (new_image pages)) pages n) first (free_in_new pages least most))
