-- The marks of a word, and a word after flushes, fences and stores.
use Rattle.std.proofs.Common.{◌≡◌, ◌≢◌, ℕ, zero, suc, ◌+◌, ◌-◌, ◌/◌, ◌<◌, ◌≤◌, ◌==◌, Bool, cond, if◌then◌else◌, List, [], ◌∷◌, length, drop, map, slice_index_or, refl, sym, ap, subst, ◌∙◌, inl, inr, ◌⊎◌, arith, get_or-set_other}
use Rattle.std.specs.List.{enumerate_from}
use Rattle.std.proofs.lemmas.Bool.{cases_eq, cases_lt, eq-eqb, ne_eqb}
use Rattle.std.proofs.lemmas.List.{length-set, length-map, get_or-map, get_or_past, drop_all, drop-drop}
use Rattle.std.proofs.lemmas.List.FromFn.{length-enumerate_from, get_or-enumerate_from}
use Rattle.pm_words.specs.Marks.{with_first, trimmed, mark_at, written, put_mark, less_marks}
use Rattle.pm_words.specs.Memory.{word_at, store_at, flush_at, fence_by, each_word}
use Rattle.pm_words.specs.Word.{Word, settled, stored, flushed, fenced}
use Rattle.zo_laws.specs.RunWords.{Spares, OthersLaw}

-- marks

mark_with_first : (x : ℕ) (xs : List ℕ) (t : ℕ) → mark_at (with_first x xs) t ≡ mark_at (x ∷ xs) t
mark_with_first zero [] zero = refl
mark_with_first zero [] (suc t) = refl
mark_with_first (suc x) [] t = ap (λ (b : Bool). mark_at (if b then [] else suc x ∷ []) t) (ne_eqb (suc x) 0 (λ e. omega arith))
mark_with_first x (y ∷ ys) t = refl

mark_trimmed : (xs : List ℕ) (t : ℕ) → mark_at (trimmed xs) t ≡ mark_at xs t
mark_trimmed [] t = refl
mark_trimmed (x ∷ xs) zero = mark_with_first x (trimmed xs) zero
mark_trimmed (x ∷ xs) (suc t) = mark_with_first x (trimmed xs) (suc t) ∙ mark_trimmed xs t

written_same : (xs : List ℕ) (thread gone : ℕ) → mark_at (written xs thread gone) thread ≡ gone
written_same [] zero gone = refl
written_same [] (suc thread) gone = written_same [] thread gone
written_same (x ∷ xs) zero gone = refl
written_same (x ∷ xs) (suc thread) gone = written_same xs thread gone

written_other : (xs : List ℕ) (thread gone t : ℕ) → t ≢ thread → mark_at (written xs thread gone) t ≡ mark_at xs t
written_other [] zero gone zero ne = absurd (ne refl)
written_other [] zero gone (suc t) ne = refl
written_other [] (suc thread) gone zero ne = refl
written_other [] (suc thread) gone (suc t) ne = written_other [] thread gone t (λ e. ne (ap suc e))
written_other (x ∷ xs) zero gone zero ne = absurd (ne refl)
written_other (x ∷ xs) zero gone (suc t) ne = refl
written_other (x ∷ xs) (suc thread) gone zero ne = refl
written_other (x ∷ xs) (suc thread) gone (suc t) ne = written_other xs thread gone t (λ e. ne (ap suc e))

pub mark_put_same : (marks : List ℕ) (thread gone : ℕ) → mark_at (put_mark marks thread gone) thread ≡ gone
unfolding put_mark
mark_put_same marks thread gone = mark_trimmed (written marks thread gone) thread ∙ written_same marks thread gone

pub mark_put_other : (marks : List ℕ) (thread gone t : ℕ) → t ≢ thread → mark_at (put_mark marks thread gone) t ≡ mark_at marks t
unfolding put_mark
mark_put_other marks thread gone t ne = mark_trimmed (written marks thread gone) t ∙ written_other marks thread gone t ne

mark_lowered : (gone : ℕ) (xs : List ℕ) (t : ℕ) → mark_at (map (λ mark. mark - gone) xs) t ≡ mark_at xs t - gone
mark_lowered gone [] t = let none : 0 ≡ 0 - gone = omega arith in none
mark_lowered gone (x ∷ xs) zero = refl
mark_lowered gone (x ∷ xs) (suc t) = mark_lowered gone xs t

pub mark_less : (gone : ℕ) (marks : List ℕ) (t : ℕ) → mark_at (less_marks gone marks) t ≡ mark_at marks t - gone
unfolding less_marks
mark_less gone marks t = mark_trimmed (map (λ mark. mark - gone) marks) t ∙ mark_lowered gone marks t

-- words

pub length_each_word : (f : ℕ → Word → Word) (words : List Word) → length (each_word f words) ≡ length words
length_each_word f words = length-map (enumerate_from 0 words) (λ p. f p.0 p.1) ∙ length-enumerate_from 0 words

pub each_word_at : (f : ℕ → Word → Word) (words : List Word) (k : ℕ) (d : Word) → k < length words → slice_index_or (each_word f words) k d ≡ f k (slice_index_or words k d)
each_word_at f words k d lt =
    let inside : k < length (enumerate_from 0 words) = let l = length-enumerate_from 0 words in omega arith in
    let place : 0 + k ≡ k = omega arith in
    get_or-map (λ (p : ℕ × Word). f p.0 p.1) (enumerate_from 0 words) k (0, d) d inside
    ∙ ap (λ (p : ℕ × Word). f p.0 p.1) (get_or-enumerate_from 0 words k (0, d) lt)
    ∙ ap (λ (j : ℕ). f j (slice_index_or words k d)) place

-- a word past the end is durable and has no mark
pub past_end : (words : List Word) (addr : ℕ) → length words ≤ addr / 8 → word_at words addr ≡ settled 0
past_end words addr past = get_or_past words (addr / 8) (settled 0) past

pub store_aside : (other word addr : ℕ) (words : List Word) → other / 8 ≢ addr / 8 → word_at (store_at other word words) addr ≡ word_at words addr
store_aside other word addr words ne = get_or-set_other words (other / 8) (addr / 8) (stored word (word_at words other)) (settled 0) (λ e. ne (sym e))

pub length_store : (addr word : ℕ) (words : List Word) → length (store_at addr word words) ≡ length words
length_store addr word words = length-set words (addr / 8) (stored word (word_at words addr))

pub length_flush : (thread addr : ℕ) (words : List Word) → length (flush_at thread addr words) ≡ length words
length_flush thread addr words = length_each_word (λ place w. if place / 8 == addr / 64 then flushed thread w else w) words

pub length_fence : (thread : ℕ) (words : List Word) → length (fence_by thread words) ≡ length words
length_fence thread words = length-map words (fenced thread)

-- a word of the line is flushed, all others stay
pub flush_here : (thread line addr : ℕ) (words : List Word) → addr / 8 < length words → line / 64 ≡ addr / 64 → word_at (flush_at thread line words) addr ≡ flushed thread (word_at words addr)
flush_here thread line addr words inside same =
    let here : addr / 8 / 8 ≡ line / 64 = omega (arith, same) in
    each_word_at (λ place w. if place / 8 == line / 64 then flushed thread w else w) words (addr / 8) (settled 0) inside
    ∙ ap (λ (b : Bool). cond b (flushed thread (word_at words addr)) (word_at words addr)) (eq-eqb (addr / 8 / 8) (line / 64) here)

pub flush_aside : (thread line addr : ℕ) (words : List Word) → addr / 8 < length words → line / 64 ≢ addr / 64 → word_at (flush_at thread line words) addr ≡ word_at words addr
flush_aside thread line addr words inside other =
    each_word_at (λ place w. if place / 8 == line / 64 then flushed thread w else w) words (addr / 8) (settled 0) inside
    ∙ ap (λ (b : Bool). cond b (flushed thread (word_at words addr)) (word_at words addr)) (ne_eqb (addr / 8 / 8) (line / 64) (λ e. other (let eq : addr / 8 / 8 ≡ line / 64 = e in omega (arith, eq))))

pub fence_here : (thread addr : ℕ) (words : List Word) → addr / 8 < length words → word_at (fence_by thread words) addr ≡ fenced thread (word_at words addr)
fence_here thread addr words inside = get_or-map (fenced thread) words (addr / 8) (settled 0) (settled 0) inside

-- what a flush may make of a word, and a fence
pub flush_cases : (thread line addr : ℕ) (words : List Word) → (word_at (flush_at thread line words) addr ≡ flushed thread (word_at words addr)) ⊎ (word_at (flush_at thread line words) addr ≡ word_at words addr)
flush_cases thread line addr words = by (cases_lt (addr / 8) (length words)) (cases_eq (line / 64) (addr / 64))
  where
    by : (addr / 8 < length words) ⊎ (length words ≤ addr / 8) → (line / 64 ≡ addr / 64) ⊎ (line / 64 ≡ addr / 64 → ⊥)
        → (word_at (flush_at thread line words) addr ≡ flushed thread (word_at words addr)) ⊎ (word_at (flush_at thread line words) addr ≡ word_at words addr)
    by (inl inside) (inl same) = inl (flush_here thread line addr words inside same)
    by (inl inside) (inr other) = inr (flush_aside thread line addr words inside other)
    by (inr past) line_is =
        let len = length_flush thread line words in
        let past' : length (flush_at thread line words) ≤ addr / 8 = omega (arith, len, past) in
        inr (past_end (flush_at thread line words) addr past' ∙ sym (past_end words addr past))

-- the thread's next fence makes the present value durable
abbrev pub IsMarked : ℕ → ℕ → List Word → Type 0
IsMarked thread addr words = length (word_at words addr).older ≤ mark_at (word_at words addr).marks thread

abbrev IsMarkedWord : ℕ → Word → Type 0
IsMarkedWord thread w = length w.older ≤ mark_at w.marks thread

flushed_marked : (thread : ℕ) (w : Word) → IsMarkedWord thread (flushed thread w)
flushed_marked thread w = let same = mark_put_same w.marks thread (length w.older) in omega (arith, same)

pub flush_marks : (thread line addr : ℕ) (words : List Word) → line / 64 ≡ addr / 64 → IsMarked thread addr (flush_at thread line words)
flush_marks thread line addr words same = by (cases_lt (addr / 8) (length words))
  where
    by : (addr / 8 < length words) ⊎ (length words ≤ addr / 8) → IsMarked thread addr (flush_at thread line words)
    by (inl inside) = subst (λ (w : Word). IsMarkedWord thread w) (sym (flush_here thread line addr words inside same)) (flushed_marked thread (word_at words addr))
    by (inr past) =
        let len = length_flush thread line words in
        let past' : length (flush_at thread line words) ≤ addr / 8 = omega (arith, len, past) in
        subst (λ (w : Word). IsMarkedWord thread w) (sym (past_end (flush_at thread line words) addr past')) (omega arith)

pub flush_keeps_marked : (thread line addr : ℕ) (words : List Word) → IsMarked thread addr words → IsMarked thread addr (flush_at thread line words)
flush_keeps_marked thread line addr words marked = by (flush_cases thread line addr words)
  where
    by : (word_at (flush_at thread line words) addr ≡ flushed thread (word_at words addr)) ⊎ (word_at (flush_at thread line words) addr ≡ word_at words addr) → IsMarked thread addr (flush_at thread line words)
    by (inl e) = subst (λ (w : Word). IsMarkedWord thread w) (sym e) (flushed_marked thread (word_at words addr))
    by (inr e) = subst (λ (w : Word). IsMarkedWord thread w) (sym e) marked

pub flush_older : (thread line addr : ℕ) (words : List Word) → (word_at (flush_at thread line words) addr).older ≡ (word_at words addr).older
flush_older thread line addr words = by (flush_cases thread line addr words)
  where
    by : (word_at (flush_at thread line words) addr ≡ flushed thread (word_at words addr)) ⊎ (word_at (flush_at thread line words) addr ≡ word_at words addr) → (word_at (flush_at thread line words) addr).older ≡ (word_at words addr).older
    by (inl e) = ap (λ (w : Word). w.older) e
    by (inr e) = ap (λ (w : Word). w.older) e

pub flush_present : (thread line addr : ℕ) (words : List Word) → (word_at (flush_at thread line words) addr).present ≡ (word_at words addr).present
flush_present thread line addr words = by (flush_cases thread line addr words)
  where
    by : (word_at (flush_at thread line words) addr ≡ flushed thread (word_at words addr)) ⊎ (word_at (flush_at thread line words) addr ≡ word_at words addr) → (word_at (flush_at thread line words) addr).present ≡ (word_at words addr).present
    by (inl e) = ap (λ (w : Word). w.present) e
    by (inr e) = ap (λ (w : Word). w.present) e

-- what is spared

pub spares_nothing : (thread addr : ℕ) (words : List Word) → Spares thread addr words words
spares_nothing thread addr words = record { len = refl; present = refl; gone = 0; older = refl; marks = omega arith }

spares_same : (thread addr : ℕ) (before after : List Word) → length after ≡ length before → word_at after addr ≡ word_at before addr → Spares thread addr before after
spares_same thread addr before after len same = record {
  len = len;
  present = ap (λ (w : Word). w.present) same;
  gone = 0;
  older = ap (λ (w : Word). w.older) same;
  marks = ap (λ (w : Word). mark_at w.marks thread) same ∙ (let none : mark_at (word_at before addr).marks thread ≡ mark_at (word_at before addr).marks thread - 0 = omega arith in none);
}

pub spares_store : (thread addr other word : ℕ) (words : List Word) → other / 8 ≢ addr / 8 → Spares thread addr words (store_at other word words)
spares_store thread addr other word words ne = spares_same thread addr words (store_at other word words) (length_store other word words) (store_aside other word addr words ne)

spares_flush : (thread addr another line : ℕ) (words : List Word) → another ≢ thread → Spares thread addr words (flush_at another line words)
spares_flush thread addr another line words ne = record {
  len = length_flush another line words;
  present = flush_present another line addr words;
  gone = 0;
  older = flush_older another line addr words;
  marks = marks_are (flush_cases another line addr words) ∙ (let none : mark_at (word_at words addr).marks thread ≡ mark_at (word_at words addr).marks thread - 0 = omega arith in none);
}
  where
    marks_are : (word_at (flush_at another line words) addr ≡ flushed another (word_at words addr)) ⊎ (word_at (flush_at another line words) addr ≡ word_at words addr)
        → mark_at (word_at (flush_at another line words) addr).marks thread ≡ mark_at (word_at words addr).marks thread
    marks_are (inl e) = ap (λ (w : Word). mark_at w.marks thread) e ∙ mark_put_other (word_at words addr).marks another (length (word_at words addr).older) thread (λ e. ne (sym e))
    marks_are (inr e) = ap (λ (w : Word). mark_at w.marks thread) e

pub spares_fence : (thread addr another : ℕ) (words : List Word) → Spares thread addr words (fence_by another words)
spares_fence thread addr another words = by (cases_lt (addr / 8) (length words))
  where
    gone : ℕ
    gone = mark_at (word_at words addr).marks another

    by : (addr / 8 < length words) ⊎ (length words ≤ addr / 8) → Spares thread addr words (fence_by another words)
    by (inl inside) =
        let here = fence_here another addr words inside in
        record {
          len = length_fence another words;
          present = ap (λ (w : Word). w.present) here;
          gone = mark_at (word_at words addr).marks another;
          older = ap (λ (w : Word). w.older) here;
          marks = ap (λ (w : Word). mark_at w.marks thread) here ∙ mark_less (mark_at (word_at words addr).marks another) (word_at words addr).marks thread;
        }
    by (inr past) =
        let len = length_fence another words in
        let past' : length (fence_by another words) ≤ addr / 8 = omega (arith, len, past) in
        spares_same thread addr words (fence_by another words) len (past_end (fence_by another words) addr past' ∙ sym (past_end words addr past))

spares_both : (thread addr : ℕ) (before between after : List Word) → Spares thread addr before between → Spares thread addr between after → Spares thread addr before after
spares_both thread addr before between after one two = record {
  len = two.len ∙ one.len;
  present = two.present ∙ one.present;
  gone = one.gone + two.gone;
  older = two.older ∙ ap (λ (l : List ℕ). drop two.gone l) one.older ∙ drop-drop two.gone one.gone (word_at before addr).older;
  marks = let a = one.marks in let b = two.marks in omega (arith, a, b);
}

pub others : OthersLaw
others = record { nothing = spares_nothing; store = spares_store; flush = spares_flush; fence = spares_fence; both = spares_both }

pub spared_marked : (thread addr : ℕ) (before after : List Word) → Spares thread addr before after → IsMarked thread addr before → IsMarked thread addr after
spared_marked thread addr before after spares marked =
    let left = ap (λ (l : List ℕ). length l) spares.older ∙ length_dropped spares.gone (word_at before addr).older in
    let mark = spares.marks in
    omega (arith, left, mark, marked)
  where
    length_dropped : (n : ℕ) (xs : List ℕ) → length (drop n xs) ≡ length xs - n
    length_dropped zero xs = let none : length xs ≡ length xs - 0 = omega arith in none
    length_dropped (suc n) [] = let none : 0 ≡ 0 - suc n = omega arith in none
    length_dropped (suc n) (x ∷ xs) = let rest = length_dropped n xs in omega (arith, rest)

pub spared_durable : (thread addr : ℕ) (before after : List Word) → Spares thread addr before after → (word_at before addr).older ≡ [] → (word_at after addr).older ≡ []
spared_durable thread addr before after spares durable = spares.older ∙ ap (λ (l : List ℕ). drop spares.gone l) durable ∙ dropped_none spares.gone
  where
    dropped_none : (n : ℕ) → let empty : List ℕ = [] in drop n empty ≡ empty
    dropped_none zero = refl
    dropped_none (suc n) = refl

-- a fence makes durable what is marked
pub fence_settles : (thread addr : ℕ) (words : List Word) → IsMarked thread addr words → (word_at (fence_by thread words) addr).older ≡ []
fence_settles thread addr words marked = by (cases_lt (addr / 8) (length words))
  where
    by : (addr / 8 < length words) ⊎ (length words ≤ addr / 8) → (word_at (fence_by thread words) addr).older ≡ []
    by (inl inside) = ap (λ (w : Word). w.older) (fence_here thread addr words inside) ∙ drop_all (mark_at (word_at words addr).marks thread) (word_at words addr).older marked
    by (inr past) =
        let len = length_fence thread words in
        let past' : length (fence_by thread words) ≤ addr / 8 = omega (arith, len, past) in
        ap (λ (w : Word). w.older) (past_end (fence_by thread words) addr past')
