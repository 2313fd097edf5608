-- Words while pages are zeroed, and crashes where nothing is committed.
use Rattle.std.proofs.Common.{◌≡◌, ◌≢◌, ◌⊎◌, inl, inr, ℕ, ◌+◌, ◌*◌, ◌/◌, ◌<◌, zero, suc, List, [], ◌∷◌, ◌++◌, take, length, map, get_or, nat_eq, refl, sym, ap, subst, ◌∙◌, arith, All, Contains}
use Rattle.std.specs.Prelude.{fold, ⊤}
use Rattle.std.specs.List.{range_with_len, flat_map}
use Rattle.std.proofs.lemmas.Bool.{cases_eq, cond_both}
use Rattle.std.proofs.lemmas.List.Elements.{All-nil, All-cons, All-head, All-tail, All-append, Contains-push_cases}
use Rattle.zo_layout.specs.Layout.{committed_word, page_at, word_of}
use Rattle.pm_words.specs.Word.{Word, settled, stored, crash_list}
use Rattle.pm_words.specs.Memory.{word_at, IsAddress}
use Rattle.pm_words.specs.Crash.{MayLeave}
use Rattle.kern_model.specs.declared.inner.Inner.{Inner}
use Rattle.kern_model.specs.declared.inner.Inner.TheVariants.{Store, Flush, Fence}
use Rattle.kern_model.specs.Inner.{made_all, finish_any, redo_events}
use Rattle.kern_model.specs.JournalLaws.{IsDurable, MayCome}
use Rattle.kern_model.specs.KernelCalls.{zeros_of, lines_of_page, zero_events}
use Rattle.kern_model.proofs.WordSteps.{come, run_at, Spares, run_spared, within_shortened}
use Rattle.kern_model.proofs.PhaseLemmas.{kept_by, one_value}
use Rattle.kern_model.proofs.GivenSteps.{zeroes_spare}
use Rattle.kern_model.proofs.CutLemmas.{durable_crashed, none_committed}

-- Each step stores 0, or stores nothing.

abbrev pub Clears : Inner → Type 0
Clears (Store at v) = v ≡ 0
Clears (Flush at) = ⊤
Clears Fence = ⊤

map_clears : (f : ℕ → Inner) (a n : ℕ) → ((i : ℕ) → Clears (f i)) → All Clears (map f (range_with_len a n))
map_clears f a zero each = All-nil Clears
map_clears f a (suc n) each = All-cons Clears (f a) (map f (range_with_len (a + 1) n)) (each a) (map_clears f (a + 1) n each)

flat_clears : (f : ℕ → List Inner) (pages : List ℕ) → ((page : ℕ) → All Clears (f page)) → All Clears (flat_map f pages)
flat_clears f [] each = All-nil Clears
flat_clears f (page ∷ pages) each = All-append Clears (f page) (flat_map f pages) (each page) (flat_clears f pages each)

pub zeros_clear : (pages : List ℕ) → All Clears (zero_events pages)
zeros_clear [] = All-nil Clears
zeros_clear (page ∷ pages) =
    All-append Clears (flat_map zeros_of (page ∷ pages)) (flat_map lines_of_page (page ∷ pages) ++ Fence ∷ [])
    (flat_clears zeros_of (page ∷ pages) (λ p. map_clears (λ i. Store (word_of (page_at p) i) 0) 0 512 (λ i. refl)))
    (All-append Clears (flat_map lines_of_page (page ∷ pages)) (Fence ∷ [])
    (flat_clears lines_of_page (page ∷ pages) (λ p. map_clears (λ i. Flush (page_at p + 64 * i)) 0 64 (λ i. tt)))
    (All-cons Clears Fence [] tt (All-nil Clears)))

-- a crash leaves in the new word what it might have left in the old one, or 0
abbrev WithinOrZero : Word → Word → Type 0
WithinOrZero old new = (value : ℕ) → Contains (crash_list new) value → Contains (crash_list old) value ⊎ (value ≡ 0)

come_clears : (addr : ℕ) (w : Word) (e : Inner) → Clears e → WithinOrZero w (come addr w e)
come_clears addr w (Store a v) none = cond_both (nat_eq (a / 8) (addr / 8)) (stored v w) w (λ (x : Word). WithinOrZero w x) (λ t. new) (λ f value there. inl there)
  where
    new : WithinOrZero w (stored v w)
    new value there = by (Contains-push_cases (w.older ++ w.present ∷ []) v value there)
      where
        by : Contains (w.older ++ w.present ∷ []) value ⊎ (v ≡ value) → Contains (crash_list w) value ⊎ (value ≡ 0)
        by (inl old) = inl old
        by (inr e) = inr (sym e ∙ none)
come_clears addr w (Flush a) z = λ value there.
    inl (within_shortened w (come addr w (Flush a)) (run_spared addr (Flush a ∷ []) w (All-cons (Spares addr) (Flush a) [] tt (All-nil (Spares addr)))) value there)
come_clears addr w Fence z = λ value there.
    inl (within_shortened w (come addr w Fence) (run_spared addr (Fence ∷ []) w (All-cons (Spares addr) Fence [] tt (All-nil (Spares addr)))) value there)

run_clears : (addr : ℕ) (es : List Inner) (w : Word) → All Clears es → WithinOrZero w (fold (come addr) w es)
run_clears addr [] w all value there = inl there
run_clears addr (e ∷ es) w all value there = by (run_clears addr es (come addr w e) (All-tail Clears e es all) value there)
  where
    by : Contains (crash_list (come addr w e)) value ⊎ (value ≡ 0) → Contains (crash_list w) value ⊎ (value ≡ 0)
    by (inl before) = come_clears addr w e (All-head Clears e es all) value before
    by (inr none) = inr none

among : (page : ℕ) (pages : List ℕ) → Contains pages page ⊎ All (λ other. page ≢ other) pages
among page [] = inr (All-nil (λ other. page ≢ other))
among page (p ∷ pages) = by (cases_eq page p) (among page pages)
  where
    by : (page ≡ p) ⊎ (page ≡ p → ⊥) → Contains pages page ⊎ All (λ other. page ≢ other) pages → Contains (p ∷ pages) page ⊎ All (λ other. page ≢ other) (p ∷ pages)
    by (inl e) rest = inl (zero, omega arith, sym e)
    by (inr ne) (inl (k, lt, at)) = inl (suc k, omega arith, at)
    by (inr ne) (inr apart) = inr (All-cons (λ other. page ≢ other) p pages ne apart)

-- what a crash may leave in a word while pages are zeroed: what it might have left before, or 0 in one of the pages
pub cleared : (pages : List ℕ) (es : List Inner) (words : List Word) (addr value : ℕ) → IsAddress (length words) addr → All Clears es → (All (Spares addr) (zero_events pages) → All (Spares addr) es)
    → Contains (crash_list (word_at (made_all es words) addr)) value → Contains (crash_list (word_at words addr)) value ⊎ (Contains pages (addr / 4096) × (value ≡ 0))
cleared pages es words addr value at clears some there = by (among (addr / 4096) pages)
  where
    in_page : Contains pages (addr / 4096) → Contains (crash_list (word_at words addr)) value ⊎ (value ≡ 0) → Contains (crash_list (word_at words addr)) value ⊎ (Contains pages (addr / 4096) × (value ≡ 0))
    in_page given (inl before) = inl before
    in_page given (inr none) = inr (given, none)

    by : Contains pages (addr / 4096) ⊎ All (λ page. addr / 4096 ≢ page) pages → Contains (crash_list (word_at words addr)) value ⊎ (Contains pages (addr / 4096) × (value ≡ 0))
    by (inl given) = in_page given (run_clears addr es (word_at words addr) clears value (subst (λ (w : Word). Contains (crash_list w) value) (run_at es words addr at.inside) there))
    by (inr apart) = inl (within_shortened (word_at words addr) (word_at (made_all es words) addr) (kept_by es words addr at.inside (some (zeroes_spare addr pages at.aligned apart))) value there)

-- Where nothing is committed, nothing is finished, and crashes one after another are one crash.

pub redo_none : (words : List Word) → IsDurable words committed_word 0 → redo_events words ≡ []
redo_none words idle = ap (λ (ps : List (ℕ × ℕ)). finish_any ps) (none_committed words idle)

then_crash : (a b c : List Word) → MayLeave a b → MayLeave b c → MayLeave a c
then_crash a b c one two = record {
  len = two.len ∙ one.len;
  durable = λ k lt. two.durable k (over k lt);
  value = λ k lt.
      let b_k = get_or b k (settled 0) in
      let same : (get_or c k (settled 0)).present ≡ b_k.present = one_value b_k.older b_k.present (get_or c k (settled 0)).present (ap (λ (w : Word). w.older) (one.durable k lt)) (two.value k (over k lt)) in
      subst (λ (n : ℕ). Contains (crash_list (get_or a k (settled 0))) n) (sym same) (one.value k lt);
}
  where
    over : (k : ℕ) → k < length a → k < length b
    over k lt = let len = one.len in omega (arith, len, lt)

take_none : (k : ℕ) → take {A = Inner} k [] ≡ []
take_none zero = refl
take_none (suc k) = refl

pub idle_crashes : (cuts : List ℕ) (words left after : List Word) → committed_word / 8 < length words → IsDurable words committed_word 0 → MayLeave words left → MayCome cuts left after → MayLeave words after
idle_crashes [] words left after inside idle leave same = subst (MayLeave words) (sym same) leave
idle_crashes (k ∷ ks) words left after inside idle leave (mid, cut, rest) =
    let none : take k (redo_events left) ≡ [] = ap (λ (es : List Inner). take k es) (redo_none left (durable_crashed words left committed_word 0 leave inside idle)) ∙ take_none k in
    idle_crashes ks words mid after inside idle (then_crash words left mid leave (subst (λ (es : List Inner). MayLeave (made_all es left) mid) none cut)) rest
