-- What the journal's events leave, whole or cut by crashes.
use Rattle.std.specs.Prelude.{◌≡◌, ◌≢◌, ℕ, ◌<◌, ◌≤◌, List, [], ◌∷◌, ◌++◌, map, length, take, nat_eq, All, Contains, ◌⊎◌}
use Rattle.std.specs.List.{IsDistinct}
use Rattle.zo_layout.specs.Layout.{committed_word, pair_capacity}
use Rattle.pm_words.specs.Word.{Word, crash_list}
use Rattle.pm_words.specs.Memory.{word_at, HasPages}
use Rattle.pm_words.specs.Crash.{MayLeave}
use Rattle.kern_model.specs.KernelView.{pages_of}
use Rattle.kern_model.specs.declared.inner.Inner.{Inner}
use Rattle.kern_model.specs.Inner.{made_all, IsHome, IsReadable, committed, committed_count, kernel_word, laid_over, phase, journal_words, count_pair, journal_events, redo_events}

-- a word has a value, and a crash leaves it
pub record IsDurable (words : List Word) (addr value : ℕ) : Type 0 where
  pub present : (word_at words addr).present ≡ value
  pub older : (word_at words addr).older ≡ []

-- a word has its present value still, and a crash leaves nothing in it that it mightn't have left before
pub record Keeps (old new : Word) : Type 0 where
  pub present : new.present ≡ old.present
  pub list : (value : ℕ) → Contains (crash_list new) value → Contains (crash_list old) value

-- no pair is for the word at an address
abbrev pub IsUnnamed : List (ℕ × ℕ) → ℕ → Type 0
IsUnnamed pairs addr = All (λ p. p.0 ≢ addr) pairs

-- Pairs can be given to the journal: they are for different words outside its pages, it has room for them, and nothing is
-- committed in it.
pub record IsReady (words : List Word) (pairs : List (ℕ × ℕ)) : Type 0 where
  pub size : HasPages (length words)
  pub room : length pairs ≤ pair_capacity (pages_of words)
  pub different : IsDistinct nat_eq (map (λ p. p.0) pairs)
  pub homes : All (λ p. IsHome (length words) p.0) pairs
  pub idle : IsDurable words committed_word 0

-- after the whole list: each pair is durable, nothing is committed, and every other word outside the journal has its value still
pub record IsApplied (pairs : List (ℕ × ℕ)) (old new : List Word) : Type 0 where
  pub len : length new ≡ length old
  pub done : All (λ p. IsDurable new p.0 p.1) pairs
  pub idle : IsDurable new committed_word 0
  pub others : (addr : ℕ) → IsHome (length old) addr → IsUnnamed pairs addr → Keeps (word_at old addr) (word_at new addr)

abbrev pub ApplyLaw : Type 0
ApplyLaw = (words : List Word) (pairs : List (ℕ × ℕ)) → IsReady words pairs → IsApplied pairs words (made_all (journal_events pairs) words)

-- Crashes one after another, each inside of a `redo` that was begun after the one before it; the numbers say how many of its events
-- each `redo` made.
abbrev pub MayCome : List ℕ → List Word → List Word → Type 0
MayCome [] words after = after ≡ words
MayCome (k ∷ ks) words after = (mid : List Word) × MayLeave (made_all (take k (redo_events words)) words) mid × MayCome ks mid after

-- the steps of storing a list of pairs, up to those that store 0 in word 0 of the journal again
abbrev pub steps_to_stored : List (ℕ × ℕ) → List Inner
steps_to_stored pairs = phase (journal_words 0 pairs) ++ (phase (count_pair (length pairs)) ++ phase pairs)

-- A crash that came when `count` steps were made comes too late to undo them: it leaves word 0 of the journal other than 0, or more than
-- these first steps were made.
abbrev pub IsThrough : List Inner → ℕ → List Word → Type 0
IsThrough steps count left = ((word_at left committed_word).present ≢ 0) ⊎ (length steps < count)

-- After a crash and a whole `redo`: all pairs are stored where the crash came too late, else each of their words has a value that a crash might
-- have left before. So has every other word outside the journal; and nothing is committed.
pub record IsAllOrNone (pairs : List (ℕ × ℕ)) (count : ℕ) (left old new : List Word) : Type 0 where
  pub len : length new ≡ length old
  pub all : IsThrough (steps_to_stored pairs) count left → All (λ p. IsDurable new p.0 p.1) pairs
  pub none : (IsThrough (steps_to_stored pairs) count left → ⊥) → All (λ p. Contains (crash_list (word_at old p.0)) (word_at new p.0).present) pairs
  pub idle : IsDurable new committed_word 0
  pub others : (addr : ℕ) → IsHome (length old) addr → IsUnnamed pairs addr → Contains (crash_list (word_at old addr)) (word_at new addr).present

-- A crash after any number of the list's events, then any number of crashes inside of `redo`: what is left can be finished, and a whole `redo` gives
-- all or none, as the first crash left word 0 of the journal.
abbrev pub CrashLaw : Type 0
CrashLaw =
    (words : List Word) (pairs : List (ℕ × ℕ)) (k : ℕ) (cuts : List ℕ) (left after : List Word) → IsReady words pairs
    → MayLeave (made_all (take k (journal_events pairs)) words) left → MayCome cuts left after
    → IsReadable after × IsAllOrNone pairs k left words (made_all (redo_events after) after)

-- the words of the journal that say how many pairs are committed, and which, are durable
pub record IsSettled (words : List Word) : Type 0 where
  pub count : (word_at words committed_word).older ≡ []
  pub pairs : All (λ p. (word_at words p.0).older ≡ []) (journal_words 0 (committed words))

-- each of these pairs is durable, with the last value for its word
abbrev pub AreDone : List (ℕ × ℕ) → List Word → Type 0
AreDone pairs words = All (λ p. IsDurable words p.0 (laid_over pairs p.0 p.1)) pairs

-- after crashes inside of `redo`: a whole `redo` makes each committed pair durable, every other word outside the journal has a value that a crash
-- might have left before, and nothing is committed; and where nothing was committed even before that `redo`, the pairs were durable already
pub record IsRedone (old after new : List Word) : Type 0 where
  pub len : length new ≡ length old
  pub done : AreDone (committed old) new
  pub idle : IsDurable new committed_word 0
  pub others : (addr : ℕ) → IsHome (length old) addr → IsUnnamed (committed old) addr → Contains (crash_list (word_at old addr)) (word_at new addr).present
  pub early : committed_count after ≡ 0 → AreDone (committed old) after

-- any number of crashes inside of `redo` change nothing of what a whole one does for the pairs
abbrev pub CutLaw : Type 0
CutLaw =
    (words : List Word) (cuts : List ℕ) (after : List Word) → HasPages (length words) → IsReadable words → IsSettled words → MayCome cuts words after
    → IsReadable after × IsRedone words after (made_all (redo_events after) after)

-- after a whole `redo`: nothing is committed, and durably so where something was or where word 0 of the journal was durable; the committed pairs are
-- durable, the words outside the journal have the values that the kernel read, and the kernel reads what it read
pub record IsFinished (old new : List Word) : Type 0 where
  pub len : length new ≡ length old
  pub idle : committed_count new ≡ 0
  pub durable : (committed_count old ≢ 0) ⊎ ((word_at old committed_word).older ≡ []) → IsDurable new committed_word 0
  pub done : AreDone (committed old) new
  pub values : (addr : ℕ) → IsHome (length old) addr → (word_at new addr).present ≡ kernel_word old addr
  pub view : (addr : ℕ) → IsHome (length old) addr → kernel_word new addr ≡ kernel_word old addr
  pub others : (addr : ℕ) → IsHome (length old) addr → IsUnnamed (committed old) addr → Keeps (word_at old addr) (word_at new addr)

abbrev pub ViewLaw : Type 0
ViewLaw = (words : List Word) → HasPages (length words) → IsReadable words → IsFinished words (made_all (redo_events words) words)

-- where nothing is committed, the kernel reads the words themselves
abbrev pub IdleLaw : Type 0
IdleLaw = (words : List Word) (addr : ℕ) → committed_count words ≡ 0 → kernel_word words addr ≡ (word_at words addr).present
