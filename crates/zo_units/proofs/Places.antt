-- Words of the memory and their places: what each event leaves of them.
use Rattle.std.proofs.Common.{◌≡◌, ◌≢◌, ◌⊎◌, inl, inr, ℕ, zero, suc, ◌+◌, ◌-◌, ◌/◌, ◌≤◌, ◌==◌, Bool, true, false, if◌then◌else◌, List, [], ◌∷◌, length, length-append, drop, Option, refl, sym, ap, ap₂, subst, ◌∙◌, arith, eq-eqb, ne_eqb}
use Rattle.std.proofs.lemmas.Bool.{cases_eq, cond-true, cond-false}
use Rattle.pm_words.specs.Marks.{mark_at}
use Rattle.pm_words.specs.Word.{Word, stored, flushed, fenced}
use Rattle.zo_laws.proofs.WordMarks.{mark_put_same, mark_put_other, mark_less}
use Rattle.zo_units.specs.Memory.{Memory, Event, Store, Exchange, Flush, Fence, at, floor, marked, IsTidy, stored_in, exchanged_in, flushed_in, fenced_in, after}
use Rattle.zo_units.specs.MemoryLaws.{Rises, RiseLaw, MendLaw, run}
use Rattle.zo_units.specs.Units.{Commitment, IsStill}

pub length_dropped : (n : ℕ) (xs : List ℕ) → length (drop n xs) ≡ length xs - n
length_dropped zero xs = let none : length xs ≡ length xs - 0 = omega arith in none
length_dropped (suc n) [] = let none : 0 ≡ 0 - suc n = omega arith in none
length_dropped (suc n) (x ∷ xs) = let rest = length_dropped n xs in omega (arith, rest)

pub dropped_none : (n : ℕ) → let empty : List ℕ = [] in drop n empty ≡ empty
dropped_none zero = refl
dropped_none (suc n) = refl

pub empty_is : (xs : List ℕ) → length xs ≡ 0 → xs ≡ []
empty_is [] e = refl
empty_is (x ∷ xs) e = absurd (omega (arith, e))

-- a word with its place, and another one later on
pub record IsTidyWord (w : Word) (top : ℕ) : Type 0 where
  pub older : length w.older ≤ top
  pub marks : (thread : ℕ) → mark_at w.marks thread ≤ length w.older

pub record RisesTo (w : Word) (low : ℕ) (v : Word) (now : ℕ) : Type 0 where
  pub floor : low - length w.older ≤ now - length v.older
  pub top : low ≤ now
  pub marks : (thread : ℕ) → low - length w.older + mark_at w.marks thread ≤ now - length v.older + mark_at v.marks thread

pub record Steps (w : Word) (top : ℕ) (v : Word) (now : ℕ) : Type 0 where
  pub tidy : IsTidyWord v now
  pub rises : RisesTo w top v now

steps_not : (w : Word) (top : ℕ) → IsTidyWord w top → Steps w top w top
steps_not w top t = record { tidy = t; rises = record { floor = omega arith; top = omega arith; marks = λ thread. omega arith } }

steps_stored : (value : ℕ) (w : Word) (top : ℕ) → IsTidyWord w top → Steps w top (stored value w) (top + 1)
steps_stored value w top t =
    let len = length-append w.older (w.present ∷ []) in
    let low = t.older in
    record {
      tidy = record { older = omega (arith, len, low); marks = λ thread. let mark = t.marks thread in omega (arith, len, mark) };
      rises = record { floor = omega (arith, len, low); top = omega arith; marks = λ thread. omega (arith, len, low) };
    }

marks_flushed : (thread another : ℕ) (w : Word) → (mark_at (flushed thread w).marks another ≡ length w.older) ⊎ (mark_at (flushed thread w).marks another ≡ mark_at w.marks another)
marks_flushed thread another w = by (cases_eq another thread)
  where
    by : (another ≡ thread) ⊎ (another ≢ thread) → (mark_at (flushed thread w).marks another ≡ length w.older) ⊎ (mark_at (flushed thread w).marks another ≡ mark_at w.marks another)
    by (inl same) = inl (ap (λ (t : ℕ). mark_at (flushed thread w).marks t) same ∙ mark_put_same w.marks thread (length w.older))
    by (inr other) = inr (mark_put_other w.marks thread (length w.older) another other)

steps_flushed : (thread : ℕ) (w : Word) (top : ℕ) → IsTidyWord w top → Steps w top (flushed thread w) top
steps_flushed thread w top t = record {
  tidy = record { older = t.older; marks = λ another. low another (marks_flushed thread another w) };
  rises = record { floor = omega arith; top = omega arith; marks = λ another. up another (marks_flushed thread another w) };
}
  where
    low : (another : ℕ) → (mark_at (flushed thread w).marks another ≡ length w.older) ⊎ (mark_at (flushed thread w).marks another ≡ mark_at w.marks another) → mark_at (flushed thread w).marks another ≤ length w.older
    low another (inl e) = omega (arith, e)
    low another (inr e) = let mark = t.marks another in omega (arith, e, mark)

    up : (another : ℕ) → (mark_at (flushed thread w).marks another ≡ length w.older) ⊎ (mark_at (flushed thread w).marks another ≡ mark_at w.marks another)
        → top - length w.older + mark_at w.marks another ≤ top - length w.older + mark_at (flushed thread w).marks another
    up another (inl e) = let mark = t.marks another in omega (arith, e, mark)
    up another (inr e) = omega (arith, e)

steps_fenced : (thread : ℕ) (w : Word) (top : ℕ) → IsTidyWord w top → Steps w top (fenced thread w) top
steps_fenced thread w top t =
    let gone = mark_at w.marks thread in
    let len = length_dropped gone w.older in
    let low = t.older in
    let own = t.marks thread in
    record {
      tidy = record {
        older = omega (arith, len, low);
        marks = λ another. let left = mark_less gone w.marks another in let mark = t.marks another in omega (arith, len, left, mark);
      };
      rises = record {
        floor = omega (arith, len, low, own);
        top = omega arith;
        marks = λ another. let left = mark_less gone w.marks another in let mark = t.marks another in omega (arith, len, left, mark, low, own);
      };
    }

-- a memory and another one, word by word
pub word_tidy : (m : Memory) (a : ℕ) → IsTidy m → IsTidyWord (m.word a) (m.top a)
word_tidy m a t = record { older = t.older a; marks = λ thread. t.marks thread a }

pub record IsStep (m n : Memory) : Type 0 where
  pub each : (a : ℕ) → Steps (m.word a) (m.top a) (n.word a) (n.top a)
  pub words : (a b : ℕ) → a / 8 ≡ b / 8 → n.word a ≡ n.word b
  pub tops : (a b : ℕ) → a / 8 ≡ b / 8 → n.top a ≡ n.top b

step_tidy : (m n : Memory) → IsStep m n → IsTidy n
step_tidy m n s = record { older = λ a. (s.each a).tidy.older; marks = λ thread a. (s.each a).tidy.marks thread; words = s.words; tops = s.tops }

step_rises : (m n : Memory) → IsStep m n → Rises m n
step_rises m n s = record { floors = λ a. (s.each a).rises.floor; tops = λ a. (s.each a).rises.top; marks = λ thread a. (s.each a).rises.marks thread }

-- a store, here and elsewhere
pub word_stored : (addr value : ℕ) (m : Memory) (a : ℕ) → a / 8 ≡ addr / 8 → (stored_in addr value m).word a ≡ stored value (m.word a)
word_stored addr value m a same = cond-true (a / 8 == addr / 8) (stored value (m.word a)) (m.word a) (eq-eqb (a / 8) (addr / 8) same)

pub top_stored : (addr value : ℕ) (m : Memory) (a : ℕ) → a / 8 ≡ addr / 8 → (stored_in addr value m).top a ≡ m.top a + 1
top_stored addr value m a same = cond-true (a / 8 == addr / 8) (m.top a + 1) (m.top a) (eq-eqb (a / 8) (addr / 8) same)

pub word_aside : (addr value : ℕ) (m : Memory) (a : ℕ) → a / 8 ≢ addr / 8 → (stored_in addr value m).word a ≡ m.word a
word_aside addr value m a other = cond-false (a / 8 == addr / 8) (stored value (m.word a)) (m.word a) (ne_eqb (a / 8) (addr / 8) other)

pub top_aside : (addr value : ℕ) (m : Memory) (a : ℕ) → a / 8 ≢ addr / 8 → (stored_in addr value m).top a ≡ m.top a
top_aside addr value m a other = cond-false (a / 8 == addr / 8) (m.top a + 1) (m.top a) (ne_eqb (a / 8) (addr / 8) other)

not_step : (m : Memory) → IsTidy m → IsStep m m
not_step m t = record { each = λ a. steps_not (m.word a) (m.top a) (word_tidy m a t); words = t.words; tops = t.tops }

store_step : (addr value : ℕ) (m : Memory) → IsTidy m → IsStep m (stored_in addr value m)
store_step addr value m t = record {
  each = λ a. by a (cases_eq (a / 8) (addr / 8));
  words = λ a b e. ap₂ (λ (k : ℕ) (w : Word). if k == addr / 8 then stored value w else w) e (t.words a b e);
  tops = λ a b e. ap₂ (λ (k : ℕ) (top : ℕ). if k == addr / 8 then top + 1 else top) e (t.tops a b e);
}
  where
    by : (a : ℕ) → (a / 8 ≡ addr / 8) ⊎ (a / 8 ≢ addr / 8) → Steps (m.word a) (m.top a) ((stored_in addr value m).word a) ((stored_in addr value m).top a)
    by a (inl same) =
        subst (λ (w : Word). Steps (m.word a) (m.top a) w ((stored_in addr value m).top a)) (sym (word_stored addr value m a same))
        (subst (λ (top : ℕ). Steps (m.word a) (m.top a) (stored value (m.word a)) top) (sym (top_stored addr value m a same)) (steps_stored value (m.word a) (m.top a) (word_tidy m a t)))
    by a (inr other) =
        subst (λ (w : Word). Steps (m.word a) (m.top a) w ((stored_in addr value m).top a)) (sym (word_aside addr value m a other))
        (subst (λ (top : ℕ). Steps (m.word a) (m.top a) (m.word a) top) (sym (top_aside addr value m a other)) (steps_not (m.word a) (m.top a) (word_tidy m a t)))

-- an exchange is a store, or nothing
pub exchange_cases : (P : Memory → Type 0) (addr old new : ℕ) (m : Memory) → P (stored_in addr new m) → P m → P (exchanged_in addr old new m)
exchange_cases P addr old new m one two = by (at m addr == old)
  where
    by : (b : Bool) → P (if b then stored_in addr new m else m)
    by true = one
    by false = two

flush_step : (thread addr : ℕ) (m : Memory) → IsTidy m → IsStep m (flushed_in thread addr m)
flush_step thread addr m t = record {
  each = λ a. by a (a / 64 == addr / 64);
  words = λ a b e. let line : a / 64 ≡ b / 64 = omega (arith, e) in ap₂ (λ (k : ℕ) (w : Word). if k == addr / 64 then flushed thread w else w) line (t.words a b e);
  tops = t.tops;
}
  where
    by : (a : ℕ) (b : Bool) → Steps (m.word a) (m.top a) (if b then flushed thread (m.word a) else m.word a) (m.top a)
    by a true = steps_flushed thread (m.word a) (m.top a) (word_tidy m a t)
    by a false = steps_not (m.word a) (m.top a) (word_tidy m a t)

fence_step : (thread : ℕ) (m : Memory) → IsTidy m → IsStep m (fenced_in thread m)
fence_step thread m t = record {
  each = λ a. steps_fenced thread (m.word a) (m.top a) (word_tidy m a t);
  words = λ a b e. ap (fenced thread) (t.words a b e);
  tops = t.tops;
}

pub event_step : (event : Event) (m : Memory) → IsTidy m → IsStep m (after event m)
event_step (Store addr value) m t = store_step addr value m t
event_step (Exchange addr old new) m t = exchange_cases (IsStep m) addr old new m (store_step addr new m t) (not_step m t)
event_step (Flush thread addr) m t = flush_step thread addr m t
event_step (Fence thread) m t = fence_step thread m t

pub tidy_after : (event : Event) (m : Memory) → IsTidy m → IsTidy (after event m)
tidy_after event m t = step_tidy m (after event m) (event_step event m t)

pub rises_after : (event : Event) (m : Memory) → IsTidy m → Rises m (after event m)
rises_after event m t = step_rises m (after event m) (event_step event m t)

pub rises_both : (m n o : Memory) → Rises m n → Rises n o → Rises m o
rises_both m n o one two = record {
  floors = λ a. let x = one.floors a in let y = two.floors a in omega (arith, x, y);
  tops = λ a. let x = one.tops a in let y = two.tops a in omega (arith, x, y);
  marks = λ thread a. let x = one.marks thread a in let y = two.marks thread a in omega (arith, x, y);
}

pub rises_none : (m : Memory) → Rises m m
rises_none m = record { floors = λ a. omega arith; tops = λ a. omega arith; marks = λ thread a. omega arith }

tidy_run : (events : List Event) (m : Memory) → IsTidy m → IsTidy (run events m)
tidy_run [] m t = t
tidy_run (event ∷ events) m t = tidy_run events (after event m) (tidy_after event m t)

rises_run : (events : List Event) (m : Memory) → IsTidy m → Rises m (run events m)
rises_run [] m t = rises_none m
rises_run (event ∷ events) m t =
    rises_both m (after event m) (run events (after event m)) (rises_after event m t) (rises_run events (after event m) (tidy_after event m t))

pub still_rises : (m n : Memory) (last : Option Commitment) → Rises m n → IsStill m last → IsStill n last
still_rises m n last rises still c is opened = still c is (let up = rises.floors c.addr in omega (arith, up, opened))

pub rise : RiseLaw
rise = record { tidy = tidy_run; rises = rises_run; still = still_rises }

-- marks and fences
flush_marks : (thread addr a : ℕ) (m : Memory) → IsTidy m → a / 64 ≡ addr / 64 → marked (flushed_in thread addr m) thread a ≡ m.top a
flush_marks thread addr a m t same =
    ap (λ (w : Word). m.top a - length w.older + mark_at w.marks thread) (cond-true (a / 64 == addr / 64) (flushed thread (m.word a)) (m.word a) (eq-eqb (a / 64) (addr / 64) same))
    ∙ (let mark = mark_put_same (m.word a).marks thread (length (m.word a).older) in let low = t.older a in
    let sum : m.top a - length (m.word a).older + mark_at (flushed thread (m.word a)).marks thread ≡ m.top a = omega (arith, mark, low) in sum)

fence_settles : (thread a : ℕ) (m : Memory) → IsTidy m → floor (fenced_in thread m) a ≡ marked m thread a
fence_settles thread a m t =
    let len = length_dropped (mark_at (m.word a).marks thread) (m.word a).older in
    let low = t.older a in
    let own = t.marks thread a in
    omega (arith, len, low, own)

pub mend : MendLaw
mend = record {
  flush = flush_marks;
  fence = fence_settles;
  mended = λ thread addr c events m t line place opened.
      let begun = flushed_in thread addr m in
      let begun_tidy = tidy_after (Flush thread addr) m t in
      let mark = flush_marks thread addr c.addr m t line in
      let up = (rises_run events begun begun_tidy).marks thread c.addr in
      let done = fence_settles thread c.addr (run events begun) (tidy_run events begun begun_tidy) in
      omega (arith, mark, up, done, place, opened);
}
