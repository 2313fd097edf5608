-- The memory of a list of words: its steps, and what a crash leaves.
use Rattle.std.proofs.Common.{◌≡◌, ◌≢◌, ◌⊎◌, inl, inr, ℕ, zero, suc, ◌+◌, ◌-◌, ◌*◌, ◌/◌, ◌%◌, ◌≤◌, ◌<◌, ◌==◌, Bool, true, false, if◌then◌else◌, List, [], ◌∷◌, ◌++◌, length, length-append, slice_index_or, refl, sym, ap, ◌∙◌, arith, eq-eqb, ne_eqb, mod-lt, get_or-set_same}
use Rattle.std.specs.Int.{w64, to_le_bytes}
use Rattle.std.proofs.lemmas.Bool.{cases_eq, cases_lt, cond-true, cond-false}
use Rattle.std.proofs.Math.Seq.{get_or-append_seam}
use Rattle.pm_words.specs.Hash.{fnv64_of}
use Rattle.pm_words.specs.Marks.{with_first, trimmed, written, put_mark, less_marks}
use Rattle.pm_words.specs.Memory.{word_at, store_at, cas_at, flush_at, fence_by}
use Rattle.pm_words.specs.Word.{Word, settled, stored, flushed, fenced, crash_list}
use Rattle.pm_words.specs.Crash.{picked, after_crash}
use Rattle.pm_words.specs.declared.choice.Choice.{Choice}
use Rattle.pm_words.specs.declared.choice.Choice.TheVariants as pick
use Rattle.zo_laws.proofs.WordMarks.{store_aside, flush_here, flush_aside, fence_here, past_end, length_flush, length_fence, length_each_word, each_word_at}
use Rattle.zo_units.specs.Memory.{Store, Exchange, Flush, Fence, floor, stored_in, exchanged_in, memory_of, raised}
use Rattle.zo_units.specs.MemoryLaws.{MemoryLaw, CrashLeaves, picked_place, crash_places, crash_image}

-- a word past the end stays as it is
no_marks : (thread : ℕ) → let none : List ℕ = [] in trimmed (written none thread 0) ≡ none
no_marks zero = refl
no_marks (suc thread) = ap (with_first 0) (no_marks thread)

flushed_none : (thread : ℕ) → flushed thread (settled 0) ≡ settled 0
unfolding put_mark
flushed_none thread = λ i. record { older = []; present = 0; marks = no_marks thread i }

fenced_none : (thread : ℕ) → fenced thread (settled 0) ≡ settled 0
unfolding less_marks
fenced_none thread = refl

store_word : (addr value : ℕ) (words : List Word) (a : ℕ) → addr / 8 < length words → word_at (store_at addr value words) a ≡ (if a / 8 == addr / 8 then stored value (word_at words a) else word_at words a)
store_word addr value words a inside = by (cases_eq (a / 8) (addr / 8))
  where
    by : (a / 8 ≡ addr / 8) ⊎ (a / 8 ≢ addr / 8) → word_at (store_at addr value words) a ≡ (if a / 8 == addr / 8 then stored value (word_at words a) else word_at words a)
    by (inl same) =
        ap (λ (k : ℕ). slice_index_or (store_at addr value words) k (settled 0)) same
        ∙ get_or-set_same words (addr / 8) (stored value (word_at words addr)) (settled 0) inside
        ∙ ap (λ (k : ℕ). stored value (slice_index_or words k (settled 0))) (sym same)
        ∙ sym (cond-true (a / 8 == addr / 8) (stored value (word_at words a)) (word_at words a) (eq-eqb (a / 8) (addr / 8) same))
    by (inr other) =
        store_aside addr value a words (λ e. other (sym e))
        ∙ sym (cond-false (a / 8 == addr / 8) (stored value (word_at words a)) (word_at words a) (ne_eqb (a / 8) (addr / 8) other))

store_memory : (addr value : ℕ) (words : List Word) (tops : ℕ → ℕ) → addr / 8 < length words → memory_of (store_at addr value words) (raised (addr / 8) tops) ≡ stored_in addr value (memory_of words tops)
store_memory addr value words tops inside = λ i. record { word = λ a. store_word addr value words a inside i; top = λ a. raised (addr / 8) tops (a / 8) }

flush_word : (thread addr : ℕ) (words : List Word) (a : ℕ) → word_at (flush_at thread addr words) a ≡ (if a / 64 == addr / 64 then flushed thread (word_at words a) else word_at words a)
flush_word thread addr words a = by (cases_lt (a / 8) (length words)) (cases_eq (a / 64) (addr / 64))
  where
    by : (a / 8 < length words) ⊎ (length words ≤ a / 8) → (a / 64 ≡ addr / 64) ⊎ (a / 64 ≢ addr / 64) → word_at (flush_at thread addr words) a ≡ (if a / 64 == addr / 64 then flushed thread (word_at words a) else word_at words a)
    by (inl inside) (inl same) = flush_here thread addr a words inside (sym same) ∙ sym (cond-true (a / 64 == addr / 64) (flushed thread (word_at words a)) (word_at words a) (eq-eqb (a / 64) (addr / 64) same))
    by (inl inside) (inr other) = flush_aside thread addr a words inside (λ e. other (sym e)) ∙ sym (cond-false (a / 64 == addr / 64) (flushed thread (word_at words a)) (word_at words a) (ne_eqb (a / 64) (addr / 64) other))
    by (inr past) line =
        let len = length_flush thread addr words in
        let past_too : length (flush_at thread addr words) ≤ a / 8 = omega (arith, len, past) in
        past_end (flush_at thread addr words) a past_too ∙ none (a / 64 == addr / 64)
        ∙ ap (λ (w : Word). if a / 64 == addr / 64 then flushed thread w else w) (sym (past_end words a past))
      where
        none : (b : Bool) → settled 0 ≡ (if b then flushed thread (settled 0) else settled 0)
        none true = sym (flushed_none thread)
        none false = refl

fence_word : (thread : ℕ) (words : List Word) (a : ℕ) → word_at (fence_by thread words) a ≡ fenced thread (word_at words a)
fence_word thread words a = by (cases_lt (a / 8) (length words))
  where
    by : (a / 8 < length words) ⊎ (length words ≤ a / 8) → word_at (fence_by thread words) a ≡ fenced thread (word_at words a)
    by (inl inside) = fence_here thread a words inside
    by (inr past) =
        let len = length_fence thread words in
        let past_too : length (fence_by thread words) ≤ a / 8 = omega (arith, len, past) in
        past_end (fence_by thread words) a past_too ∙ sym (fenced_none thread) ∙ ap (fenced thread) (sym (past_end words a past))

exchange_memory : (addr old new : ℕ) (words : List Word) (tops : ℕ → ℕ) → addr / 8 < length words
    → memory_of (cas_at addr old new words) (if (word_at words addr).present == old then raised (addr / 8) tops else tops) ≡ exchanged_in addr old new (memory_of words tops)
exchange_memory addr old new words tops inside = by ((word_at words addr).present == old)
  where
    by : (b : Bool) → memory_of (if b then store_at addr new words else words) (if b then raised (addr / 8) tops else tops) ≡ (if b then stored_in addr new (memory_of words tops) else memory_of words tops)
    by true = store_memory addr new words tops inside
    by false = refl

pub memories : MemoryLaw
memories (Store addr value) words tops inside = store_memory addr value words tops inside
memories (Exchange addr old new) words tops inside = exchange_memory addr old new words tops inside
memories (Flush thread addr) words tops inside = λ i. record { word = λ a. flush_word thread addr words a i; top = λ a. tops (a / 8) }
memories (Fence thread) words tops inside = λ i. record { word = λ a. fence_word thread words a i; top = λ a. tops (a / 8) }

-- a crash

get_within : (xs : List ℕ) (k d e : ℕ) → k < length xs → slice_index_or xs k d ≡ slice_index_or xs k e
get_within [] k d e low = absurd (omega (arith, low))
get_within (x ∷ xs) zero d e low = refl
get_within (x ∷ xs) (suc k) d e low = get_within xs k d e (omega (arith, low))

get_one : (k : ℕ) → let zero_only : List ℕ = 0 ∷ [] in slice_index_or zero_only k 0 ≡ 0
get_one zero = refl
get_one (suc k) = refl

pick_low : (choice : Choice) (address : ℕ) (w : Word) → picked_place choice address w ≤ length w.older
pick_low pick.All address w = omega arith
pick_low pick.None address w = omega arith
pick_low (pick.Seed seed) address w = below (fnv64_of (to_le_bytes w64 seed ++ to_le_bytes w64 address))
  where
    below : (hash : ℕ) → hash % length (crash_list w) ≤ length w.older
    below hash =
        let len = length-append w.older (w.present ∷ []) in
        let some : 0 < length (crash_list w) = omega (arith, len) in
        let low = mod-lt hash some in
        omega (arith, len, low)

pick_value : (choice : Choice) (address : ℕ) (w : Word) → picked choice address w.older w.present ≡ slice_index_or (crash_list w) (picked_place choice address w) 0
pick_value pick.All address w = sym (get_or-append_seam w.older w.present [] 0)
pick_value pick.None address w = get_within (crash_list w) 0 w.present 0 (let len = length-append w.older (w.present ∷ []) in omega (arith, len))
pick_value (pick.Seed seed) address w =
    get_within (crash_list w) (picked_place (pick.Seed seed) address w) w.present 0
    (let len = length-append w.older (w.present ∷ []) in let low = pick_low (pick.Seed seed) address w in omega (arith, len, low))

image_is : (choice : Choice) (words : List Word) (a : ℕ) → crash_image choice words a ≡ slice_index_or (crash_list (word_at words a)) (picked_place choice (8 * (a / 8)) (word_at words a)) 0
image_is choice words a = by (cases_lt (a / 8) (length words))
  where
    by : (a / 8 < length words) ⊎ (length words ≤ a / 8) → crash_image choice words a ≡ slice_index_or (crash_list (word_at words a)) (picked_place choice (8 * (a / 8)) (word_at words a)) 0
    by (inl inside) =
        ap (λ (w : Word). w.present) (each_word_at (λ place w. settled (picked choice (8 * place) w.older w.present)) words (a / 8) (settled 0) inside)
        ∙ pick_value choice (8 * (a / 8)) (word_at words a)
    by (inr past) =
        let len = length_each_word (λ place w. settled (picked choice (8 * place) w.older w.present)) words in
        let past_too : length (after_crash choice words) ≤ a / 8 = omega (arith, len, past) in
        ap (λ (w : Word). w.present) (past_end (after_crash choice words) a past_too)
        ∙ sym (get_one (picked_place choice (8 * (a / 8)) (settled 0)))
        ∙ ap (λ (w : Word). slice_index_or (crash_list w) (picked_place choice (8 * (a / 8)) w) 0) (sym (past_end words a past))

pub crashes : CrashLeaves
crashes choice words tops t = record {
  low = λ a. omega arith;
  high = λ a. let low = pick_low choice (8 * (a / 8)) (word_at words a) in let fits = t.older a in omega (arith, low, fits);
  is = λ a.
      let m = memory_of words tops in
      let k : crash_places choice m a - floor m a ≡ picked_place choice (8 * (a / 8)) (word_at words a) = omega arith in
      image_is choice words a ∙ ap (λ (j : ℕ). slice_index_or (crash_list (word_at words a)) j 0) (sym k);
  alike = λ a b same. ap (λ (k : ℕ). tops k - length (slice_index_or words k (settled 0)).older + picked_place choice (8 * k) (slice_index_or words k (settled 0))) same;
}
