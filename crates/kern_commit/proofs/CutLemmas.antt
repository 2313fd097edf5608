-- Lists of steps in a row: a cut of one of them is a cut of the whole.
use Rattle.std.proofs.Common.{◌≡◌, ◌⊎◌, inl, inr, ℕ, ◌+◌, ◌-◌, ◌*◌, ◌<◌, ◌≤◌, zero, suc, List, [], ◌∷◌, ◌++◌, length, map, take, get_or, refl, sym, ap, subst, ◌∙◌, arith}
use Rattle.std.specs.List.{range_with_len, flat_map}
use Rattle.std.specs.Prelude.{OnOk, OnErr, Result, Ok, Err}
use Rattle.std.proofs.lemmas.Bool.{cases_lt}
use Rattle.std.proofs.lemmas.List.{take_all, take-append-le, take_more, flat_map_more}
use Rattle.std.proofs.lemmas.List.FromFn.{map-range_with_len_more}
use Rattle.std.proofs.lemmas.List.Sums.{fold-append}
use Rattle.pm_words.specs.Word.{Word}
use Rattle.zo_layout.specs.Layout.{page_at, word_of}
use Rattle.kern_model.specs.declared.inner.Inner.{Inner}
use Rattle.kern_model.specs.declared.inner.Inner.TheVariants.{Store, Flush, Fence}
use Rattle.kern_model.specs.Inner.{made, made_all, IsCut}
use Rattle.kern_model.specs.KernelCalls.{zero_events}
use Rattle.kern_model.proofs.PhaseLemmas.{take_past}
use Rattle.kern_commit.specs.Pages.{page_zeros, page_flushes}

pub cut_before : (a b : List Inner) (old new : List Word) → IsCut a old new → IsCut (a ++ b) old new
cut_before a b old new (k, is) = by (cases_lt (length a) k)
  where
    by : (length a < k) ⊎ (k ≤ length a) → IsCut (a ++ b) old new
    by (inl past) = (length a, is ∙ ap (λ (es : List Inner). made_all es old) (take_all k a (omega (arith, past)) ∙ sym (take_all (length a) a (omega arith)) ∙ sym (take-append-le (length a) a b (omega arith))))
    by (inr le) = (k, is ∙ ap (λ (es : List Inner). made_all es old) (sym (take-append-le k a b le)))

pub cut_after : (a b : List Inner) (old new : List Word) → IsCut b (made_all a old) new → IsCut (a ++ b) old new
cut_after a b old new (k, is) =
    let rest : k ≡ length a + k - length a = omega arith in
    (length a + k, is ∙ ap (λ (n : ℕ). made_all (take n b) (made_all a old)) rest ∙ sym (fold-append made old a (take (length a + k - length a) b)) ∙ ap (λ (es : List Inner). made_all es old) (sym (take_past (length a + k) a b (omega arith))))

-- steps of each page in a row
pub cut_in_pages : (f : ℕ → List Inner) (pages : List ℕ) (i d : ℕ) (old new : List Word) → i < length pages → IsCut (f (get_or pages i d)) (made_all (flat_map f (take i pages)) old) new → IsCut (flat_map f pages) old new
cut_in_pages f [] i d old new lt cut = absurd (omega arith)
cut_in_pages f (p ∷ ps) zero d old new lt cut = cut_before (f p) (flat_map f ps) old new cut
cut_in_pages f (p ∷ ps) (suc i) d old new lt cut =
    cut_after (f p) (flat_map f ps) old new
    (cut_in_pages f ps i d (made_all (f p) old) new (omega arith) (subst (λ (mid : List Word). IsCut (f (get_or ps i d)) mid new) (fold-append made old (f p) (flat_map f (take i ps))) cut))

pub pages_more : (f : ℕ → List Inner) (pages : List ℕ) (i d : ℕ) (old : List Word) → i < length pages → made_all (f (get_or pages i d)) (made_all (flat_map f (take i pages)) old) ≡ made_all (flat_map f (take (i + 1) pages)) old
pages_more f pages i d old lt =
    sym (fold-append made old (flat_map f (take i pages)) (f (get_or pages i d)))
    ∙ ap (λ (es : List Inner). made_all es old) (flat_map_more f [] (take i pages) (get_or pages i d) ∙ ap (flat_map f) (sym (take_more pages i d lt)))

-- one step for each number of a row
cut_in_row : (f : ℕ → Inner) (a n i : ℕ) (old new : List Word) → i < n → IsCut (f (a + i) ∷ []) (made_all (map f (range_with_len a i)) old) new → IsCut (map f (range_with_len a n)) old new
cut_in_row f a zero i old new lt cut = absurd (omega arith)
cut_in_row f a (suc n) zero old new lt cut =
    cut_before (f a ∷ []) (map f (range_with_len (a + 1) n)) old new (let here : a + 0 ≡ a = omega arith in subst (λ (j : ℕ). IsCut (f j ∷ []) old new) here cut)
cut_in_row f a (suc n) (suc i) old new lt cut =
    let next : a + suc i ≡ a + 1 + i = omega arith in
    cut_after (f a ∷ []) (map f (range_with_len (a + 1) n)) old new
    (cut_in_row f (a + 1) n i (made old (f a)) new (omega arith) (subst (λ (j : ℕ). IsCut (f j ∷ []) (made_all (map f (range_with_len (a + 1) i)) (made old (f a))) new) next cut))

pub cut_in_first : (f : ℕ → Inner) (n i : ℕ) (old new : List Word) → i < n → IsCut (f i ∷ []) (made_all (map f (range_with_len 0 i)) old) new → IsCut (map f (range_with_len 0 n)) old new
cut_in_first f n i old new lt cut =
    let here : i ≡ 0 + i = omega arith in
    cut_in_row f 0 n i old new lt (subst (λ (j : ℕ). IsCut (f j ∷ []) (made_all (map f (range_with_len 0 i)) old) new) here cut)

pub row_more : (f : ℕ → Inner) (i : ℕ) (old : List Word) → made (made_all (map f (range_with_len 0 i)) old) (f i) ≡ made_all (map f (range_with_len 0 (i + 1))) old
row_more f i old =
    sym (fold-append made old (map f (range_with_len 0 i)) (f i ∷ [])) ∙ ap (λ (es : List Inner). made_all es old) (sym (map-range_with_len_more f 0 i i (omega arith)))

-- The steps of pages.

pub zeros_are : (page n : ℕ) → n ≡ 512 → map (λ i. Store (word_of (page_at page) i) 0) (range_with_len 0 n) ≡ page_zeros page
unfolding page_zeros
zeros_are page n all = ap (λ (k : ℕ). map (λ i. Store (word_of (page_at page) i) 0) (range_with_len 0 k)) all

pub flushes_are : (page n : ℕ) → n ≡ 64 → map (λ i. Flush (page_at page + 64 * i)) (range_with_len 0 n) ≡ page_flushes page
unfolding page_flushes
flushes_are page n all = ap (λ (k : ℕ). map (λ i. Flush (page_at page + 64 * i)) (range_with_len 0 k)) all

-- what zeroes pages, where there are some
abbrev pub zero_all : List ℕ → List Inner
zero_all pages = flat_map page_zeros pages ++ (flat_map page_flushes pages ++ Fence ∷ [])

pub some_zeroed : (pages : List ℕ) → 0 < length pages → zero_all pages ≡ zero_events pages
unfolding page_zeros page_flushes
some_zeroed [] some = absurd (omega arith)
some_zeroed (page ∷ pages) some = refl

-- a fact that holds in any case holds where there is an error
pub where_err : {P T E : Type 0} (r : Result T E) → P → OnErr r P
where_err (Ok v) fact = tt
where_err (Err e) fact = fact

pub where_ok : {P T E : Type 0} (r : Result T E) → P → OnOk r P
where_ok (Ok v) fact = fact
where_ok (Err e) fact = tt
