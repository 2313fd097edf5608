-- What a phase of the journal leaves: a list of words that are stored, flushed and fenced.
use Rattle.std.proofs.Common.{◌≡◌, ◌≢◌, ℕ, ◌+◌, ◌-◌, ◌*◌, ◌/◌, ◌%◌, ◌<◌, ◌≤◌, zero, suc, Bool, if◌then◌else◌, List, [], ◌∷◌, ◌++◌, take, length, get_or, nat_eq, refl, sym, ap, subst, ◌∙◌, inl, inr, ◌⊎◌, arith, All, Contains}
use Rattle.std.specs.Prelude.{fold}
use Rattle.std.proofs.lemmas.Bool.{cases_eq, cases_lt, eq-eqb, ne_eqb}
use Rattle.std.proofs.lemmas.List.Elements.{All-nil, All-cons, All-head, All-tail, All-append, All-map, All-take, Contains-push_cases}
use Rattle.std.proofs.lemmas.List.Sums.{fold-append}
use Rattle.zo_layout.specs.Layout.{pair_address, pair_value, pair_capacity, committed_word, journal_pages}
use Rattle.pm_words.specs.Word.{Word, stored, crash_list}
use Rattle.pm_words.specs.Memory.{word_at, IsAddress}
use Rattle.kern_model.specs.declared.inner.Inner.{Inner}
use Rattle.kern_model.specs.declared.inner.Inner.TheVariants.{Store, Flush, Fence}
use Rattle.kern_model.specs.Inner.{made_all, lines_of, stores_of, flushes_at, phase}
use Rattle.kern_model.specs.Inner.{IsHome, laid_over, journal_words, count_pair}
use Rattle.kern_model.specs.JournalLaws.{IsDurable, IsUnnamed, AreDone}
use Rattle.kern_model.proofs.WordSteps.{come, run_at, Spares, Shortened, run_spared, still_durable, within_shortened, flushed_durable}
use Rattle.kern_model.proofs.LaidLemmas.{IsNamed, named_at, has_line, laid_named}

-- the stores of a phase lay the pairs over a word
stored_present : (addr : ℕ) (p : ℕ × ℕ) (w : Word) → addr % 8 ≡ 0 → p.0 % 8 ≡ 0 → (come addr w (Store p.0 p.1)).present ≡ (if nat_eq p.0 addr then p.1 else w.present)
stored_present addr p w one two = by (cases_eq p.0 addr)
  where
    by : (p.0 ≡ addr) ⊎ (p.0 ≡ addr → ⊥) → (come addr w (Store p.0 p.1)).present ≡ (if nat_eq p.0 addr then p.1 else w.present)
    by (inl e) =
        ap (λ (b : Bool). (if b then stored p.1 w else w).present) (eq-eqb (p.0 / 8) (addr / 8) (ap (λ (n : ℕ). n / 8) e))
        ∙ sym (ap (λ (b : Bool). if b then p.1 else w.present) (eq-eqb p.0 addr e))
    by (inr ne) =
        ap (λ (b : Bool). (if b then stored p.1 w else w).present) (ne_eqb (p.0 / 8) (addr / 8) (λ e. ne (omega (arith, e, one, two))))
        ∙ sym (ap (λ (b : Bool). if b then p.1 else w.present) (ne_eqb p.0 addr ne))

stores_laid : (addr : ℕ) (pairs : List (ℕ × ℕ)) (w : Word) → addr % 8 ≡ 0 → All (λ (p : ℕ × ℕ). p.0 % 8 ≡ 0) pairs → (fold (come addr) w (stores_of pairs)).present ≡ laid_over pairs addr w.present
stores_laid addr [] w one all = refl
stores_laid addr (p ∷ ps) w one all =
    stores_laid addr ps (come addr w (Store p.0 p.1)) one (All-tail (λ (q : ℕ × ℕ). q.0 % 8 ≡ 0) p ps all)
    ∙ ap (λ (v : ℕ). laid_over ps addr v) (stored_present addr p w one (All-head (λ (q : ℕ × ℕ). q.0 % 8 ≡ 0) p ps all))

-- a phase stores at its pairs' places alone
rest_spares : (addr : ℕ) (lines : List ℕ) → All (Spares addr) (flushes_at lines ++ Fence ∷ [])
rest_spares addr lines =
    All-append (Spares addr) (flushes_at lines) (Fence ∷ []) (All-map (Spares addr) (λ (line : ℕ). Flush line) lines (λ k d lt. tt)) (All-cons (Spares addr) Fence [] tt (All-nil (Spares addr)))

pub phase_spares : (addr : ℕ) (pairs : List (ℕ × ℕ)) → All (λ (p : ℕ × ℕ). p.0 / 8 ≢ addr / 8) pairs → All (Spares addr) (phase pairs)
phase_spares addr pairs apart =
    All-append (Spares addr) (stores_of pairs) (flushes_at (lines_of pairs) ++ Fence ∷ []) (All-map (Spares addr) (λ (p : ℕ × ℕ). Store p.0 p.1) pairs apart) (rest_spares addr (lines_of pairs))

-- a word that no event stores in
pub kept_by : (es : List Inner) (words : List Word) (addr : ℕ) → addr / 8 < length words → All (Spares addr) es → Shortened (word_at words addr) (word_at (made_all es words) addr)
kept_by es words addr lt spares = subst (λ (w : Word). Shortened (word_at words addr) w) (sym (run_at es words addr lt)) (run_spared addr es (word_at words addr) spares)

pub durable_kept : (es : List Inner) (words : List Word) (addr value : ℕ) → addr / 8 < length words → All (Spares addr) es → IsDurable words addr value → IsDurable (made_all es words) addr value
durable_kept es words addr value lt spares durable =
    let short = kept_by es words addr lt spares in
    record { present = short.present ∙ durable.present; older = still_durable (word_at words addr) (word_at (made_all es words) addr) short durable.older }

-- a word that a phase makes durable
pub phase_done : (words : List Word) (pairs : List (ℕ × ℕ)) (addr : ℕ) → IsAddress (length words) addr → All (λ (p : ℕ × ℕ). p.0 % 8 ≡ 0) pairs → IsNamed pairs addr
    → IsDurable (made_all (phase pairs) words) addr (laid_over pairs addr (word_at words addr).present)
phase_done words pairs addr at all named = record {
  present = ap (λ (w : Word). w.present) is ∙ (run_spared addr rest stored_all (rest_spares addr (lines_of pairs))).present ∙ stores_laid addr pairs (word_at words addr) at.aligned all;
  older = ap (λ (w : Word). w.older) (is ∙ fold-append (come addr) stored_all (flushes_at (lines_of pairs)) (Fence ∷ [])) ∙ flushed_durable addr (lines_of pairs) stored_all (has_line pairs addr named);
}
  where
    rest : List Inner
    rest = flushes_at (lines_of pairs) ++ Fence ∷ []

    stored_all : Word
    stored_all = fold (come addr) (word_at words addr) (stores_of pairs)

    is : word_at (made_all (phase pairs) words) addr ≡ fold (come addr) stored_all rest
    is = run_at (phase pairs) words addr at.inside ∙ fold-append (come addr) (word_at words addr) (stores_of pairs) rest

-- all pairs of a phase are durable after it
pub all_done : (words : List Word) (pairs : List (ℕ × ℕ)) → All (λ (p : ℕ × ℕ). IsAddress (length words) p.0) pairs → AreDone pairs (made_all (phase pairs) words)
all_done words pairs each k d lt =
    let p = get_or pairs k d in
    let named = named_at pairs k d lt in
    let done = phase_done words pairs p.0 (each k d lt) (λ j e h. (each j e h).aligned) named in
    record { present = done.present ∙ laid_named pairs p.0 (word_at words p.0).present p.1 named; older = done.older }

pub done_kept : (es : List Inner) (words : List Word) (pairs : List (ℕ × ℕ)) → All (λ (p : ℕ × ℕ). IsAddress (length words) p.0) pairs → All (λ (p : ℕ × ℕ). All (Spares p.0) es) pairs
    → AreDone pairs words → AreDone pairs (made_all es words)
done_kept es words pairs each spares done k d lt =
    durable_kept es words (get_or pairs k d).0 (laid_over pairs (get_or pairs k d).0 (get_or pairs k d).1) (each k d lt).inside (spares k d lt) (done k d lt)

-- the first events of two lists in a row
pub take_past : (k : ℕ) (a b : List Inner) → length a ≤ k → take k (a ++ b) ≡ a ++ take (k - length a) b
take_past k [] b le = let same : k ≡ k - 0 = omega arith in ap (λ (n : ℕ). take n b) same
take_past zero (e ∷ a) b le = absurd (omega arith)
take_past (suc k) (e ∷ a) b le =
    let same : k - length a ≡ suc k - suc (length a) = omega arith in
    ap (λ (es : List Inner). e ∷ es) (take_past k a b (omega arith) ∙ ap (λ (n : ℕ). a ++ take n b) same)

-- a part of the journal's pages
pub record IsInJournal (count addr : ℕ) : Type 0 where
  pub first : 4096 ≤ addr
  pub last : addr < 4096 * (1 + journal_pages (count / 512))

pub home_apart : (count addr a : ℕ) → IsHome count addr → IsInJournal count a → a / 8 ≢ addr / 8
home_apart count addr a home in_journal same = by (cases_lt addr 4096)
  where
    by : (addr < 4096) ⊎ (4096 ≤ addr) → ⊥
    by (inl lt) = let first = in_journal.first in omega (arith, first, lt, same)
    by (inr ge) = let past = home.outside ge in let last = in_journal.last in omega (arith, past, last, same)

pub count_in : (count : ℕ) → IsInJournal count committed_word
count_in count = record { first = omega arith; last = omega arith }

-- the words of pairs are in the journal, behind its word 0
pub words_in : (count i : ℕ) (pairs : List (ℕ × ℕ)) → i + length pairs ≤ pair_capacity (count / 512) → All (λ (p : ℕ × ℕ). IsInJournal count p.0) (journal_words i pairs)
words_in count i [] room = All-nil (λ (p : ℕ × ℕ). IsInJournal count p.0)
words_in count i (p ∷ ps) room =
    All-cons (λ (q : ℕ × ℕ). IsInJournal count q.0) (pair_address i, p.0) ((pair_value i, p.1) ∷ journal_words (i + 1) ps) (record { first = omega arith; last = omega arith })
    (All-cons (λ (q : ℕ × ℕ). IsInJournal count q.0) (pair_value i, p.1) (journal_words (i + 1) ps) (record { first = omega arith; last = omega arith }) (words_in count (i + 1) ps (omega arith)))

pub words_behind : (i : ℕ) (pairs : List (ℕ × ℕ)) → All (λ (p : ℕ × ℕ). 4160 ≤ p.0) (journal_words i pairs)
words_behind i [] = All-nil (λ (p : ℕ × ℕ). 4160 ≤ p.0)
words_behind i (p ∷ ps) =
    All-cons (λ (q : ℕ × ℕ). 4160 ≤ q.0) (pair_address i, p.0) ((pair_value i, p.1) ∷ journal_words (i + 1) ps) (omega arith)
    (All-cons (λ (q : ℕ × ℕ). 4160 ≤ q.0) (pair_value i, p.1) (journal_words (i + 1) ps) (omega arith) (words_behind (i + 1) ps))

-- which words each phase spares
pub home_from_words : (count addr : ℕ) (pairs : List (ℕ × ℕ)) → length pairs ≤ pair_capacity (count / 512) → IsHome count addr → All (Spares addr) (phase (journal_words 0 pairs))
home_from_words count addr pairs room home = phase_spares addr (journal_words 0 pairs) (λ k d lt. home_apart count addr (get_or (journal_words 0 pairs) k d).0 home (words_in count 0 pairs (omega arith) k d lt))

pub count_from_words : (pairs : List (ℕ × ℕ)) → All (Spares committed_word) (phase (journal_words 0 pairs))
count_from_words pairs = phase_spares committed_word (journal_words 0 pairs) (λ k d lt e. let behind = words_behind 0 pairs k d lt in absurd (omega (arith, behind, e)))

pub home_from_count : (count addr n : ℕ) → IsHome count addr → All (Spares addr) (phase (count_pair n))
home_from_count count addr n home =
    phase_spares addr (count_pair n) (All-cons (λ (p : ℕ × ℕ). p.0 / 8 ≢ addr / 8) (committed_word, n) [] (home_apart count addr committed_word home (count_in count)) (All-nil (λ (p : ℕ × ℕ). p.0 / 8 ≢ addr / 8)))

pub words_from_count : (addr n : ℕ) → 4160 ≤ addr → All (Spares addr) (phase (count_pair n))
words_from_count addr n behind =
    phase_spares addr (count_pair n) (All-cons (λ (p : ℕ × ℕ). p.0 / 8 ≢ addr / 8) (committed_word, n) [] (λ e. omega (arith, behind, e)) (All-nil (λ (p : ℕ × ℕ). p.0 / 8 ≢ addr / 8)))

pub journal_from_homes : (count addr : ℕ) (pairs : List (ℕ × ℕ)) → All (λ (p : ℕ × ℕ). IsHome count p.0) pairs → IsInJournal count addr → All (Spares addr) (phase pairs)
journal_from_homes count addr pairs homes in_journal = phase_spares addr pairs (λ k d lt e. home_apart count (get_or pairs k d).0 addr (homes k d lt) in_journal (sym e))

pub unnamed_spared : (count addr : ℕ) (pairs : List (ℕ × ℕ)) → All (λ (p : ℕ × ℕ). IsHome count p.0) pairs → IsHome count addr → IsUnnamed pairs addr → All (Spares addr) (phase pairs)
unnamed_spared count addr pairs homes home none =
    phase_spares addr pairs (λ k d lt e. none k d lt (let one = home.inside.aligned in let two = (homes k d lt).inside.aligned in omega (arith, one, two, e)))

-- the phase of word 0 of the journal
count_named : (n : ℕ) → IsNamed (count_pair n) committed_word
count_named n = refl

pub count_done : (words : List Word) (n : ℕ) → IsAddress (length words) committed_word → IsDurable (made_all (phase (count_pair n)) words) committed_word n
count_done words n at =
    let done = phase_done words (count_pair n) committed_word at (All-cons (λ (p : ℕ × ℕ). p.0 % 8 ≡ 0) (committed_word, n) [] refl (All-nil (λ (p : ℕ × ℕ). p.0 % 8 ≡ 0))) (count_named n) in
    record { present = done.present; older = done.older }

-- a durable word has one value to leave
pub one_value : (older : List ℕ) (present value : ℕ) → older ≡ [] → Contains (older ++ present ∷ []) value → value ≡ present
one_value older present value none there =
    by (Contains-push_cases [] present value (subst (λ (l : List ℕ). Contains (l ++ present ∷ []) value) none there))
  where
    by : Contains [] value ⊎ (present ≡ value) → value ≡ present
    by (inl (k, lt, is)) = absurd (omega (arith, lt))
    by (inr e) = sym e

-- after some of its events a crash leaves the value before or the new one
pub count_either : (words : List Word) (n k value old : ℕ) → committed_word / 8 < length words → IsDurable words committed_word old
    → Contains (crash_list (word_at (made_all (take k (phase (count_pair n))) words) committed_word)) value → (value ≡ old) ⊎ (value ≡ n)
count_either words n zero value old lt durable there = inl (one_value (word_at words committed_word).older (word_at words committed_word).present value durable.older there ∙ durable.present)
count_either words n (suc k) value old lt durable there = by (Contains-push_cases (w.older ++ w.present ∷ []) n value (within_shortened (stored n w) left short value there))
  where
    w : Word
    w = word_at words committed_word

    rest : List Inner
    rest = take k (Flush 4096 ∷ Fence ∷ [])

    left : Word
    left = word_at (made_all (take (suc k) (phase (count_pair n))) words) committed_word

    short : Shortened (stored n w) left
    short =
        subst (λ (x : Word). Shortened (stored n w) x) (sym (run_at (take (suc k) (phase (count_pair n))) words committed_word lt))
        (run_spared committed_word rest (stored n w) (All-take (Spares committed_word) k (Flush 4096 ∷ Fence ∷ []) (rest_spares committed_word (4096 ∷ []))))

    by : Contains (w.older ++ w.present ∷ []) value ⊎ (n ≡ value) → (value ≡ old) ⊎ (value ≡ n)
    by (inl before) = inl (one_value w.older w.present value durable.older before ∙ durable.present)
    by (inr e) = inr (sym e)
