-- What flushes and fences of threads leave of the words.
use Rattle.std.proofs.Common.{◌≡◌, ◌⊎◌, ℕ, ◌+◌, ◌/◌, ◌<◌, ◌≤◌, Bool, if◌then◌else◌, List, length, get_or, nat_eq, refl, sym, ap, subst, ◌∙◌, inl, inr, arith}
use Rattle.std.specs.List.{enumerate_from}
use Rattle.std.proofs.lemmas.Bool.{cases_lt, cond_both}
use Rattle.std.proofs.lemmas.List.{get_or-map, length-map, get_or_past}
use Rattle.std.proofs.lemmas.List.FromFn.{get_or-enumerate_from, length-enumerate_from}
use Rattle.pm_words.specs.Word.{Word, settled, flushed, fenced}
use Rattle.pm_words.specs.Marks.{mark_at}
use Rattle.pm_words.specs.Memory.{word_at, each_word, flush_at, fence_by}
use Rattle.kern_model.proofs.WordSteps.{Shortened, same_word}

-- each word by itself

pub length_flush : (thread addr : ℕ) (words : List Word) → length (flush_at thread addr words) ≡ length words
length_flush thread addr words =
    length-map (enumerate_from 0 words) (λ (p : ℕ × Word). if nat_eq (p.0 / 8) (addr / 64) then flushed thread p.1 else p.1) ∙ length-enumerate_from 0 words

pub length_fence : (thread : ℕ) (words : List Word) → length (fence_by thread words) ≡ length words
length_fence thread words = length-map words (fenced thread)

each_at : (f : ℕ → Word → Word) (words : List Word) (k : ℕ) → k < length words → get_or (each_word f words) k (settled 0) ≡ f k (get_or words k (settled 0))
each_at f words k lt =
    let size = length-enumerate_from 0 words in
    let place : 0 + k ≡ k = omega arith in
    get_or-map (λ (p : ℕ × Word). f p.0 p.1) (enumerate_from 0 words) k (0, settled 0) (settled 0) (omega (arith, size, lt))
    ∙ ap (λ (p : ℕ × Word). f p.0 p.1) (get_or-enumerate_from 0 words k (0, settled 0) lt)
    ∙ ap (λ (n : ℕ). f n (get_or words k (settled 0))) place

-- past the memory nothing changes
past_stays : (old new : List Word) (addr : ℕ) → length new ≡ length old → length old ≤ addr / 8 → Shortened (word_at old addr) (word_at new addr)
past_stays old new addr len past =
    subst (λ (w : Word). Shortened (word_at old addr) w) (get_or_past old (addr / 8) (settled 0) past ∙ sym (get_or_past new (addr / 8) (settled 0) (omega (arith, len, past))))
    (same_word (word_at old addr))

flushed_short : (thread line place : ℕ) (w : Word) → Shortened w (if nat_eq (place / 8) line then flushed thread w else w)
flushed_short thread line place w =
    cond_both (nat_eq (place / 8) line) (flushed thread w) w (λ (x : Word). Shortened w x) (λ e. record { gone = 0; older = refl; present = refl }) (λ e. same_word w)

pub flush_short : (thread at addr : ℕ) (words : List Word) → Shortened (word_at words addr) (word_at (flush_at thread at words) addr)
flush_short thread at addr words = by (cases_lt (addr / 8) (length words))
  where
    f : ℕ → Word → Word
    f place w = if nat_eq (place / 8) (at / 64) then flushed thread w else w

    by : (addr / 8 < length words) ⊎ (length words ≤ addr / 8) → Shortened (word_at words addr) (word_at (flush_at thread at words) addr)
    by (inl inside) = subst (λ (w : Word). Shortened (word_at words addr) w) (sym (each_at f words (addr / 8) inside)) (flushed_short thread (at / 64) (addr / 8) (word_at words addr))
    by (inr past) = past_stays words (flush_at thread at words) addr (length_flush thread at words) past

pub fence_short : (thread addr : ℕ) (words : List Word) → Shortened (word_at words addr) (word_at (fence_by thread words) addr)
fence_short thread addr words = by (cases_lt (addr / 8) (length words))
  where
    by : (addr / 8 < length words) ⊎ (length words ≤ addr / 8) → Shortened (word_at words addr) (word_at (fence_by thread words) addr)
    by (inl inside) =
        subst (λ (w : Word). Shortened (word_at words addr) w) (sym (get_or-map (fenced thread) words (addr / 8) (settled 0) (settled 0) inside))
        (record { gone = mark_at (word_at words addr).marks thread; older = refl; present = refl })
    by (inr past) = past_stays words (fence_by thread words) addr (length_fence thread words) past
