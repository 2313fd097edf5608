-- What zeroing pages leaves: each word of them is 0, and durable.
use Rattle.std.proofs.Common.{◌≡◌, ℕ, ◌+◌, ◌*◌, ◌/◌, ◌%◌, ◌<◌, zero, suc, Bool, true, List, [], ◌∷◌, ◌++◌, length, map, nat_eq, refl, sym, ap, subst, ◌∙◌, arith, Contains, eq-eqb}
use Rattle.std.specs.Prelude.{fold}
use Rattle.std.specs.List.{range_with_len, flat_map, list_any}
use Rattle.std.proofs.lemmas.Bool.{or_left, or_right}
use Rattle.std.proofs.lemmas.List.{map-append}
use Rattle.std.proofs.lemmas.List.Elements.{Contains-append_left, Contains-append_right}
use Rattle.std.proofs.lemmas.List.Sums.{fold-append}
use Rattle.std.proofs.lemmas.Simd.{map-map}
use Rattle.zo_layout.specs.Layout.{page_at, word_of}
use Rattle.pm_words.specs.Word.{Word}
use Rattle.pm_words.specs.Memory.{word_at}
use Rattle.kern_model.specs.KernelView.{value}
use Rattle.kern_model.specs.declared.inner.Inner.{Inner}
use Rattle.kern_model.specs.declared.inner.Inner.TheVariants.{Flush, Fence}
use Rattle.kern_model.specs.Inner.{made_all, flushes_at}
use Rattle.kern_model.specs.JournalLaws.{IsDurable}
use Rattle.kern_model.specs.KernelCalls.{zero_events}
use Rattle.kern_model.proofs.WordSteps.{come, run_at, HasLine, flushed_durable}
use Rattle.kern_model.proofs.GivenSteps.{zeroed}
use Rattle.kern_commit.specs.Pages.{page_zeros, page_flushes}
use Rattle.kern_commit.proofs.CutLemmas.{some_zeroed}

-- the lines of a page
unfoldable page_lines : ℕ → List ℕ
page_lines page = map (λ i. page_at page + 64 * i) (range_with_len 0 64)

flushes_lines : (page : ℕ) → flushes_at (page_lines page) ≡ page_flushes page
unfolding page_lines page_flushes
flushes_lines page = map-map (λ (line : ℕ). Flush line) (λ i. page_at page + 64 * i) (range_with_len 0 64)

all_lines : (pages : List ℕ) → flushes_at (flat_map page_lines pages) ≡ flat_map page_flushes pages
all_lines [] = refl
all_lines (page ∷ pages) =
    map-append (λ (line : ℕ). Flush line) (page_lines page) (flat_map page_lines pages) ∙ ap (λ (es : List Inner). es ++ flushes_at (flat_map page_lines pages)) (flushes_lines page)
    ∙ ap (λ (es : List Inner). page_flushes page ++ es) (all_lines pages)

-- the line of each word of the pages is among theirs
later : (y x : ℕ) (xs : List ℕ) → Contains xs x → Contains (y ∷ xs) x
later y x xs (k, lt, at) = (suc k, omega arith, at)

in_row : (f : ℕ → ℕ) (a n i : ℕ) → i < n → Contains (map f (range_with_len a n)) (f (a + i))
in_row f a zero i lt = absurd (omega arith)
in_row f a (suc n) zero lt = subst (λ (j : ℕ). Contains (f a ∷ map f (range_with_len (a + 1) n)) (f j)) (omega arith) (zero, omega arith, refl)
in_row f a (suc n) (suc i) lt =
    later (f a) (f (a + suc i)) (map f (range_with_len (a + 1) n)) (subst (λ (j : ℕ). Contains (map f (range_with_len (a + 1) n)) (f j)) (omega arith) (in_row f (a + 1) n i (omega arith)))

in_flat : (f : ℕ → List ℕ) (pages : List ℕ) (page x : ℕ) → Contains pages page → Contains (f page) x → Contains (flat_map f pages) x
in_flat f [] page x (k, lt, at) there = absurd (omega arith)
in_flat f (p ∷ pages) page x (zero, lt, at) there = Contains-append_left (f p) (flat_map f pages) x (subst (λ (q : ℕ). Contains (f q) x) (sym at) there)
in_flat f (p ∷ pages) page x (suc k, lt, at) there = Contains-append_right (f p) (flat_map f pages) x (in_flat f pages page x (k, omega arith, at) there)

page_line : (page i : ℕ) → i < 64 → Contains (page_lines page) (page_at page + 64 * i)
unfolding page_lines
page_line page i lt =
    let first : 0 + i ≡ i = omega arith in
    subst (λ (j : ℕ). Contains (page_lines page) (page_at page + 64 * j)) first (in_row (λ j. page_at page + 64 * j) 0 64 i lt)

any_there : (t : ℕ → Bool) (xs : List ℕ) (x : ℕ) → Contains xs x → t x ≡ true → list_any t xs ≡ true
any_there t [] x (k, lt, at) holds = absurd (omega arith)
any_there t (y ∷ xs) x (zero, lt, at) holds = or_left (t y) (list_any t xs) (subst (λ (z : ℕ). t z ≡ true) (sym at) holds)
any_there t (y ∷ xs) x (suc k, lt, at) holds = or_right (t y) (list_any t xs) (any_there t xs x (k, omega arith, at) holds)

has_page_line : (pages : List ℕ) (addr : ℕ) → Contains pages (addr / 4096) → HasLine addr (flat_map page_lines pages)
has_page_line pages addr there =
    let page = addr / 4096 in
    let i = addr % 4096 / 64 in
    let same : addr / 8 / 8 ≡ (page_at page + 64 * i) / 64 = omega arith in
    any_there (λ line. nat_eq (addr / 8 / 8) (line / 64)) (flat_map page_lines pages) (page_at page + 64 * i)
    (in_flat page_lines pages page (page_at page + 64 * i) there (page_line page i (omega arith))) (eq-eqb (addr / 8 / 8) ((page_at page + 64 * i) / 64) same)

some_page : (pages : List ℕ) (page : ℕ) → Contains pages page → 0 < length pages
some_page pages page (k, lt, at) = omega (arith, lt)

zeroed_older : (pages : List ℕ) (words : List Word) (addr : ℕ) → addr / 8 < length words → Contains pages (addr / 4096) → (word_at (made_all (zero_events pages) words) addr).older ≡ []
zeroed_older pages words addr lt there =
    ap (λ (w : Word). w.older)
    (ap (λ (es : List Inner). word_at (made_all es words) addr) (sym (some_zeroed pages (some_page pages (addr / 4096) there)) ∙ sym (ap (λ (es : List Inner). flat_map page_zeros pages ++ (es ++ Fence ∷ [])) (all_lines pages)))
    ∙ run_at (flat_map page_zeros pages ++ rest) words addr lt ∙ fold-append (come addr) (word_at words addr) (flat_map page_zeros pages) rest
    ∙ fold-append (come addr) (fold (come addr) (word_at words addr) (flat_map page_zeros pages)) (flushes_at (flat_map page_lines pages)) (Fence ∷ []))
    ∙ flushed_durable addr (flat_map page_lines pages) (fold (come addr) (word_at words addr) (flat_map page_zeros pages)) (has_page_line pages addr there)
  where
    rest : List Inner
    rest = flushes_at (flat_map page_lines pages) ++ Fence ∷ []

pub zeroed_durable : (pages : List ℕ) (words : List Word) (addr : ℕ) → addr % 8 ≡ 0 → addr / 8 < length words → Contains pages (addr / 4096) → IsDurable (made_all (zero_events pages) words) addr 0
zeroed_durable pages words addr whole lt there =
    let i = addr % 4096 / 8 in
    let same : word_of (page_at (addr / 4096)) i ≡ addr = omega (arith, whole) in
    record {
      present =
          subst (λ (at : ℕ). value (made_all (zero_events pages) words) at ≡ 0) same
          (zeroed pages words (addr / 4096) i there (omega arith) (subst (λ (at : ℕ). at / 8 < length words) (sym same) lt));
      older = zeroed_older pages words addr lt there;
    }
