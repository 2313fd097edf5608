use Rattle.std.specs.Prelude.{◌≡◌, ℕ, ◌-◌, ◌≤◌, ◌==◌, List, [], ◌∷◌, ◌++◌, length, drop, max, nat_eq, cond, if◌then◌else◌, fold, slice_index_or}
use Rattle.pm_words.specs.Marks.{put_mark}
use Rattle.pm_words.specs.Word.{Word, settled, stored, flushed, fenced, crash_list}

-- the whole history of a word, which is `before` and then `present`; the floor is the place in it of the durable value,
-- and `marks` has the place in it of each thread that has a mark
pub record Full : Type 0 where
  pub before : List ℕ
  pub present : ℕ
  pub floor : ℕ
  pub marks : List (ℕ × ℕ)

abbrev pub history : Full → List ℕ
history f = f.before ++ f.present ∷ []

-- the place of a thread's mark; 0, at or below every floor, where it has none
abbrev pub place_of : List (ℕ × ℕ) → ℕ → ℕ
place_of [] thread = 0
place_of (m ∷ ms) thread = cond (nat_eq thread m.0) m.1 (place_of ms thread)

abbrev pub without : ℕ → List (ℕ × ℕ) → List (ℕ × ℕ)
without thread [] = []
without thread (m ∷ ms) = cond (nat_eq thread m.0) (without thread ms) (m ∷ without thread ms)

-- what comes to a word: a value is stored, or stored exactly where another one is present; a thread flushes its line, or makes
-- a fence; a crash leaves the value at an index of the crash list
pub data Event : Type 0 where
  Store : ℕ → Event
  Cas : ℕ → ℕ → Event
  Flush : ℕ → Event
  Fence : ℕ → Event
  Crash : ℕ → Event

abbrev pub full_stored : ℕ → Full → Full
full_stored value f = record { before = history f; present = value; floor = f.floor; marks = f.marks }

-- the whole history after an event
abbrev pub full_step : Full → Event → Full
full_step f (Store value) = full_stored value f
full_step f (Cas old new) = if f.present == old then full_stored new f else f
full_step f (Flush thread) = record { before = f.before; present = f.present; floor = f.floor; marks = (thread, length f.before) ∷ without thread f.marks }
full_step f (Fence thread) = record { before = f.before; present = f.present; floor = max f.floor (place_of f.marks thread); marks = without thread f.marks }
full_step f (Crash index) = record { before = []; present = slice_index_or (drop f.floor (history f)) index f.present; floor = 0; marks = [] }

-- what is kept after an event
abbrev pub word_step : Word → Event → Word
word_step w (Store value) = stored value w
word_step w (Cas old new) = if w.present == old then stored new w else w
word_step w (Flush thread) = flushed thread w
word_step w (Fence thread) = fenced thread w
word_step w (Crash index) = settled (slice_index_or (crash_list w) index w.present)

-- the marks past the floor, as they are kept
abbrev pub past : ℕ → List (ℕ × ℕ) → List ℕ
past floor [] = []
past floor (m ∷ ms) = put_mark (past floor ms) m.0 (m.1 - floor)

-- what is kept of a whole history
abbrev pub seen : Full → Word
seen f = record { older = drop f.floor f.before; present = f.present; marks = past f.floor f.marks }

-- the floor and the marks are places in the history
pub record IsFull (f : Full) : Type 0 where
  pub floor : f.floor ≤ length f.before
  pub marks : (thread : ℕ) → place_of f.marks thread ≤ length f.before

-- a word shows a whole history: its present value, the values from the floor on, and the marks past the floor
pub record Shows (f : Full) (w : Word) : Type 0 where
  pub seen : w ≡ seen f
  pub list : crash_list w ≡ drop f.floor (history f)

-- after any events, what was kept shows what the whole history would
abbrev pub KeepsAll : Type 0
KeepsAll = (events : List Event) (f : Full) → IsFull f → Shows (fold full_step f events) (fold word_step (seen f) events)
