-- What the inner events of a kernel call leave of a word's older values: no more than there were.
use Rattle.std.proofs.Common.{◌≡◌, ◌≢◌, ℕ, ◌+◌, ◌*◌, ◌/◌, ◌%◌, ◌<◌, ◌≤◌, zero, suc, true, List, [], ◌∷◌, ◌++◌, length, map, drop, get_or, nat_eq, refl, sym, ap, subst, ◌∙◌, inl, inr, ◌⊎◌, arith, All, Contains}
use Rattle.std.specs.Prelude.{fold, is_some}
use Rattle.std.specs.List.{range_with_len, list_any, flat_map}
use Rattle.std.proofs.lemmas.Bool.{cases_eq, cases_lt, cond_both, eq-eqb}
use Rattle.std.proofs.lemmas.List.{get_or_past, length-drop, map-append}
use Rattle.std.proofs.lemmas.List.Elements.{All-nil, All-cons, Contains-append_left, Contains-append_right}
use Rattle.std.proofs.lemmas.List.Folds.{list_any_at}
use Rattle.std.proofs.lemmas.List.Sums.{fold-append}
use Rattle.zo_layout.specs.Layout.{page_at}
use Rattle.pm_words.specs.Word.{Word, settled}
use Rattle.pm_words.specs.Memory.{word_at}
use Rattle.kern_model.specs.declared.inner.Inner.{Inner}
use Rattle.kern_model.specs.declared.inner.Inner.TheVariants.{Flush, Fence}
use Rattle.kern_model.specs.Inner.{made_all, lines_of, stores_of, flushes_at, phase, journal_words, count_pair}
use Rattle.kern_model.specs.KernelCalls.{Callers, Row, in_order, zeros_of, lines_of_page, zero_events, stored_events, row_events, row_of, unless_refused, words_after, first_due}
use Rattle.kern_model.proofs.WordSteps.{come, run_at, length_run, Spares, run_spared, HasLine, flushed_durable}
use Rattle.kern_model.proofs.LaidLemmas.{named_at, has_line}
use Rattle.kern_model.proofs.PhaseLemmas.{phase_spares}
use Rattle.kern_model.proofs.GivenSteps.{zeroes_spare}
use Rattle.tr_types.specs.declared.kernel_call.Holder.{Holder}
use Rattle.tr_types.specs.declared.kernel_call.Kcall.{Kcall}

-- the events leave no more older values of the word at an address
abbrev pub Shortens : ℕ → List Inner → Type 0
Shortens addr es = (w : Word) → length (fold (come addr) w es).older ≤ length w.older

shortens_then : (addr : ℕ) (es more : List Inner) → Shortens addr es → Shortens addr more → Shortens addr (es ++ more)
shortens_then addr es more one two w =
    let first = one w in
    let second = two (fold (come addr) w es) in
    let is : length (fold (come addr) w (es ++ more)).older ≡ length (fold (come addr) (fold (come addr) w es) more).older = ap (λ (x : Word). length x.older) (fold-append (come addr) w es more) in
    omega (arith, first, second, is)

spared_shortens : (addr : ℕ) (es : List Inner) → All (Spares addr) es → Shortens addr es
spared_shortens addr es spares w =
    let short = run_spared addr es w spares in
    let is : length (fold (come addr) w es).older ≡ length (drop short.gone w.older) = ap (λ (l : List ℕ). length l) short.older in
    let size = length-drop short.gone w.older in
    omega (arith, is, size)

-- stores, flushes of their lines and a fence
flushed_shortens : (addr : ℕ) (es : List Inner) (lines : List ℕ) → HasLine addr lines → Shortens addr (es ++ (flushes_at lines ++ Fence ∷ []))
flushed_shortens addr es lines has w =
    let is : length (fold (come addr) w (es ++ (flushes_at lines ++ Fence ∷ []))).older ≡ 0 =
    ap (λ (x : Word). length x.older) (fold-append (come addr) w es (flushes_at lines ++ Fence ∷ []) ∙ fold-append (come addr) (fold (come addr) w es) (flushes_at lines) (Fence ∷ []))
    ∙ ap (λ (l : List ℕ). length l) (flushed_durable addr lines (fold (come addr) w es) has) in
    omega (arith, is)

-- some pair is for the word, or none is
Near : List (ℕ × ℕ) → ℕ → Type 0
Near pairs addr = (k : ℕ) × (k < length pairs) × ((get_or pairs k (0, 0)).0 / 8 ≡ addr / 8)

near_cases : (pairs : List (ℕ × ℕ)) (addr : ℕ) → All (λ (p : ℕ × ℕ). p.0 / 8 ≢ addr / 8) pairs ⊎ Near pairs addr
unfolding Near
near_cases [] addr = inl (All-nil (λ (p : ℕ × ℕ). p.0 / 8 ≢ addr / 8))
near_cases (p ∷ ps) addr = by (cases_eq (p.0 / 8) (addr / 8)) (near_cases ps addr)
  where
    by : (p.0 / 8 ≡ addr / 8) ⊎ (p.0 / 8 ≡ addr / 8 → ⊥) → All (λ (q : ℕ × ℕ). q.0 / 8 ≢ addr / 8) ps ⊎ Near ps addr → All (λ (q : ℕ × ℕ). q.0 / 8 ≢ addr / 8) (p ∷ ps) ⊎ Near (p ∷ ps) addr
    by (inl e) rest = inr (zero, omega arith, e)
    by (inr ne) (inl none) = inl (All-cons (λ (q : ℕ × ℕ). q.0 / 8 ≢ addr / 8) p ps ne none)
    by (inr ne) (inr (k, lt, at)) = inr (suc k, omega (arith, lt), at)

phase_shortens : (addr : ℕ) (pairs : List (ℕ × ℕ)) → Shortens addr (phase pairs)
unfolding Near
phase_shortens addr pairs = by (near_cases pairs addr)
  where
    by : All (λ (p : ℕ × ℕ). p.0 / 8 ≢ addr / 8) pairs ⊎ Near pairs addr → Shortens addr (phase pairs)
    by (inl apart) = spared_shortens addr (phase pairs) (phase_spares addr pairs apart)
    by (inr (k, lt, at)) =
        let has = has_line pairs (get_or pairs k (0, 0)).0 (named_at pairs k (0, 0) lt) in
        flushed_shortens addr (stores_of pairs) (lines_of pairs) (ap (λ (n : ℕ). list_any (λ line. nat_eq (n / 8) (line / 64)) (lines_of pairs)) (sym at) ∙ has)

stored_shortens : (addr : ℕ) (pairs : List (ℕ × ℕ)) → Shortens addr (stored_events pairs)
stored_shortens addr [] = λ w. omega arith
stored_shortens addr (p ∷ pairs) =
    let ps = in_order (p ∷ pairs) in
    shortens_then addr (phase (journal_words 0 ps)) (phase (count_pair (length ps)) ++ (phase ps ++ phase (count_pair 0))) (phase_shortens addr (journal_words 0 ps))
    (shortens_then addr (phase (count_pair (length ps))) (phase ps ++ phase (count_pair 0)) (phase_shortens addr (count_pair (length ps)))
    (shortens_then addr (phase ps) (phase (count_pair 0)) (phase_shortens addr ps) (phase_shortens addr (count_pair 0))))

-- Pages that are zeroed.

page_lines : ℕ → List ℕ
page_lines page = map (λ i. page_at page + 64 * i) (range_with_len 0 64)

maps_twice : (f : ℕ → ℕ) (xs : List ℕ) → map (λ i. Flush (f i)) xs ≡ map (λ line. Flush line) (map f xs)
maps_twice f [] = refl
maps_twice f (x ∷ xs) = ap (λ (es : List Inner). Flush (f x) ∷ es) (maps_twice f xs)

lines_are : (pages : List ℕ) → flat_map lines_of_page pages ≡ flushes_at (flat_map page_lines pages)
unfolding page_lines
lines_are [] = refl
lines_are (page ∷ pages) =
    ap (λ (es : List Inner). es ++ flat_map lines_of_page pages) (maps_twice (λ i. page_at page + 64 * i) (range_with_len 0 64))
    ∙ ap (λ (es : List Inner). map (λ line. Flush line) (page_lines page) ++ es) (lines_are pages)
    ∙ sym (map-append (λ line. Flush line) (page_lines page) (flat_map page_lines pages))

further : (y x : ℕ) (xs : List ℕ) → Contains xs x → Contains (y ∷ xs) x
further y x xs (k, lt, at) = (suc k, omega (arith, lt), at)

in_row : (f : ℕ → ℕ) (a n i : ℕ) → i < n → Contains (map f (range_with_len a n)) (f (a + i))
in_row f a zero i lt = absurd (omega (arith, lt))
in_row f a (suc n) zero lt = subst (λ (j : ℕ). Contains (f a ∷ map f (range_with_len (a + 1) n)) (f j)) (omega arith) (zero, omega arith, refl)
in_row f a (suc n) (suc i) lt =
    further (f a) (f (a + suc i)) (map f (range_with_len (a + 1) n)) (subst (λ (j : ℕ). Contains (map f (range_with_len (a + 1) n)) (f j)) (omega arith) (in_row f (a + 1) n i (omega (arith, lt))))

in_flat : (pages : List ℕ) (page line : ℕ) → Contains pages page → Contains (page_lines page) line → Contains (flat_map page_lines pages) line
in_flat [] page line (k, lt, at) there = absurd (omega (arith, lt))
in_flat (p ∷ pages) page line (zero, lt, at) there = Contains-append_left (page_lines p) (flat_map page_lines pages) line (subst (λ (q : ℕ). Contains (page_lines q) line) (sym at) there)
in_flat (p ∷ pages) page line (suc k, lt, at) there = Contains-append_right (page_lines p) (flat_map page_lines pages) line (in_flat pages page line (k, omega (arith, lt), at) there)

line_there : (pages : List ℕ) (addr : ℕ) → Contains pages (addr / 4096) → HasLine addr (flat_map page_lines pages)
unfolding page_lines
line_there pages addr there =
    let i = addr % 4096 / 64 in
    let line = page_at (addr / 4096) + 64 * (0 + i) in
    let row : Contains (page_lines (addr / 4096)) line = in_row (λ j. page_at (addr / 4096) + 64 * j) 0 64 i (omega arith) in
    any line (in_flat pages (addr / 4096) line there row) (let same : addr / 8 / 8 ≡ line / 64 = omega arith in eq-eqb (addr / 8 / 8) (line / 64) same)
  where
    any : (line : ℕ) → Contains (flat_map page_lines pages) line → nat_eq (addr / 8 / 8) (line / 64) ≡ true → HasLine addr (flat_map page_lines pages)
    any line (k, lt, at) test =
        list_any_at (λ (l : ℕ). nat_eq (addr / 8 / 8) (l / 64)) (flat_map page_lines pages) k line lt (ap (λ (l : ℕ). nat_eq (addr / 8 / 8) (l / 64)) at ∙ test)

among_cases : (pages : List ℕ) (page : ℕ) → All (λ p. page ≢ p) pages ⊎ Contains pages page
among_cases [] page = inl (All-nil (λ p. page ≢ p))
among_cases (p ∷ ps) page = by (cases_eq page p) (among_cases ps page)
  where
    by : (page ≡ p) ⊎ (page ≡ p → ⊥) → All (λ q. page ≢ q) ps ⊎ Contains ps page → All (λ q. page ≢ q) (p ∷ ps) ⊎ Contains (p ∷ ps) page
    by (inl e) rest = inr (zero, omega arith, sym e)
    by (inr ne) (inl none) = inl (All-cons (λ q. page ≢ q) p ps ne none)
    by (inr ne) (inr some) = inr (further p page ps some)

zeros_shorten : (addr : ℕ) (pages : List ℕ) → addr % 8 ≡ 0 → Shortens addr (zero_events pages)
zeros_shorten addr [] whole = λ w. omega arith
zeros_shorten addr (page ∷ pages) whole = by (among_cases (page ∷ pages) (addr / 4096))
  where
    by : All (λ p. addr / 4096 ≢ p) (page ∷ pages) ⊎ Contains (page ∷ pages) (addr / 4096) → Shortens addr (zero_events (page ∷ pages))
    by (inl apart) = spared_shortens addr (zero_events (page ∷ pages)) (zeroes_spare addr (page ∷ pages) whole apart)
    by (inr there) =
        subst (λ (es : List Inner). Shortens addr (flat_map zeros_of (page ∷ pages) ++ (es ++ Fence ∷ []))) (sym (lines_are (page ∷ pages)))
        (flushed_shortens addr (flat_map zeros_of (page ∷ pages)) (flat_map page_lines (page ∷ pages)) (line_there (page ∷ pages) addr there))

row_shortens : (addr : ℕ) (row : Row) → addr % 8 ≡ 0 → Shortens addr (unless_refused row [] (row_events row))
row_shortens addr row whole =
    cond_both (is_some (first_due row.refusals)) [] (row_events row) (Shortens addr) (λ e w. omega arith)
    (λ e. shortens_then addr (zero_events row.granted) (stored_events row.pairs) (zeros_shorten addr row.granted whole) (stored_shortens addr row.pairs))

made_shorter : (words : List Word) (es : List Inner) (addr : ℕ) → Shortens addr es → length (word_at (made_all es words) addr).older ≤ length (word_at words addr).older
made_shorter words es addr short = by (cases_lt (addr / 8) (length words))
  where
    by : (addr / 8 < length words) ⊎ (length words ≤ addr / 8) → length (word_at (made_all es words) addr).older ≤ length (word_at words addr).older
    by (inl lt) = let is : length (word_at (made_all es words) addr).older ≡ length (fold (come addr) (word_at words addr) es).older = ap (λ (w : Word). length w.older) (run_at es words addr lt) in let le = short (word_at words addr) in omega (arith, is, le)
    by (inr le) =
        let size = length_run es words in
        let none : length (word_at (made_all es words) addr).older ≡ 0 = ap (λ (w : Word). length w.older) (get_or_past (made_all es words) (addr / 8) (settled 0) (omega (arith, size, le))) in
        omega (arith, none)

-- a kernel call, refused or not
pub call_shorter : (callers : Callers) (words : List Word) (holders : List Holder) (thread now : ℕ) (kcall : Kcall) (addr : ℕ)
    → length (word_at (words_after callers words holders thread now kcall) addr).older ≤ length (word_at words addr).older
call_shorter callers words holders thread now kcall addr =
    let row = row_of callers words holders thread now kcall in
    let start = addr / 8 * 8 in
    let same : start / 8 ≡ addr / 8 = omega arith in
    subst (λ (k : ℕ). length (get_or (words_after callers words holders thread now kcall) k (settled 0)).older ≤ length (get_or words k (settled 0)).older) same
    (made_shorter words (unless_refused row [] (row_events row)) start (row_shortens start row (omega arith)))
