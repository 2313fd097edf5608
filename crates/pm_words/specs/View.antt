use Rattle.std.specs.Prelude.{◌≡◌, ◌≢◌, ℕ, ◌+◌, ◌-◌, ◌*◌, ◌/◌, ◌<◌, ◌≤◌, List, [], ◌∷◌, ◌++◌, map, length, take, drop, nat_eq, unwrap_or, cond, Contains, ⊤}
use Rattle.std.specs.List.{enumerate_from}
use Rattle.std.specs.Option.{IfSome}
use Rattle.std.specs.Map.{lookup}
use Rattle.pm_words.specs.declared.pending.Older.{Older}
use Rattle.pm_words.specs.declared.pending.Mark.{Mark}
use Rattle.pm_words.specs.Marks.{put_mark}
use Rattle.pm_words.specs.Word.{Word}
use Rattle.pm_words.specs.Memory.{HasPages}

-- what is kept of a line of words: the values that they had before their present ones, in the order in which they were stored over,
-- and the marks
pub record Held : Type 0 where
  pub older : List Older
  pub marks : List Mark

-- what a line has that has no entry
abbrev pub no_held : Held
no_held = record { older = []; marks = [] }

-- how many of a line's older values go at a thread's fence
abbrev pub look : List Mark → ℕ → ℕ
look [] thread = 0
look (m ∷ ms) thread = cond (nat_eq thread m.thread) m.gone (look ms thread)

-- a mark, once `gone` older values have gone
abbrev pub lowered : ℕ → Mark → Mark
lowered gone m = record { thread = m.thread; gone = m.gone - gone }

-- the older values of the word at a place
abbrev pub values_at : ℕ → List Older → List ℕ
values_at place [] = []
values_at place (x ∷ xs) = cond (nat_eq place x.place) (x.value ∷ values_at place xs) (values_at place xs)

-- how many older values of the word at a place are among the first `gone` of its line
abbrev pub count_at : ℕ → ℕ → List Older → ℕ
count_at place gone older = length (values_at place (take gone older))

-- the marks of the word at a place by the numbers of threads
abbrev pub marks_of : ℕ → List Older → List Mark → List ℕ
marks_of place older [] = []
marks_of place older (m ∷ ms) = put_mark (marks_of place older ms) m.thread (count_at place m.gone older)

-- what is kept of a line, by its place among all lines
abbrev pub held_at : List (ℕ × Held) → ℕ → Held
held_at entries line = unwrap_or (lookup (nat_eq line) entries) no_held

-- what is kept of the word at a place
abbrev pub older_at : List (ℕ × Held) → ℕ → List ℕ
older_at entries place = values_at place (held_at entries (place / 8)).older

abbrev pub look_at : List (ℕ × Held) → ℕ → ℕ → ℕ
look_at entries place thread = count_at place (look (held_at entries (place / 8)).marks thread) (held_at entries (place / 8)).older

abbrev pub marks_at : List (ℕ × Held) → ℕ → List ℕ
marks_at entries place = marks_of place (held_at entries (place / 8)).older (held_at entries (place / 8)).marks

-- the word at a place, with this present value
abbrev pub word_of : List (ℕ × Held) → ℕ → ℕ → Word
word_of entries place value = record { older = older_at entries place; present = value; marks = marks_at entries place }

-- the words with these present values, whose older values and marks the entries hold
abbrev pub words_of : List (ℕ × Held) → List ℕ → List Word
words_of entries present = map (λ p. word_of entries p.0 p.1) (enumerate_from 0 present)

-- a place shows the same
pub record IsSameAt (old new : List (ℕ × Held)) (place : ℕ) : Type 0 where
  pub older : older_at new place ≡ older_at old place
  pub marks : (t : ℕ) → look_at new place t ≡ look_at old place t

-- a thread has flushed the word at a place
pub record IsFlushedAt (thread : ℕ) (old new : List (ℕ × Held)) (place : ℕ) : Type 0 where
  pub older : older_at new place ≡ older_at old place
  pub own : look_at new place thread ≡ length (older_at old place)
  pub others : (t : ℕ) → t ≢ thread → look_at new place t ≡ look_at old place t

-- a thread's fence has come to the word at a place
pub record IsFencedAt (thread : ℕ) (old new : List (ℕ × Held)) (place : ℕ) : Type 0 where
  pub older : older_at new place ≡ drop (look_at old place thread) (older_at old place)
  pub marks : (t : ℕ) → look_at new place t ≡ look_at old place t - look_at old place thread

-- a value that a store replaces is kept after the others
pub record IsKept (place value : ℕ) (old new : Held) : Type 0 where
  pub older : new.older ≡ old.older ++ record { place = place; value = value } ∷ []
  pub marks : new.marks ≡ old.marks

-- a thread has flushed a line
pub record IsFlushed (thread : ℕ) (old new : Held) : Type 0 where
  pub older : new.older ≡ old.older
  pub own : look new.marks thread ≡ length old.older
  pub others : (t : ℕ) → t ≢ thread → look new.marks t ≡ look old.marks t

-- a thread's fence has come to a line
pub record IsFenced (thread : ℕ) (old new : Held) : Type 0 where
  pub older : new.older ≡ drop (look old.marks thread) old.older
  pub marks : (t : ℕ) → look new.marks t ≡ look old.marks t - look old.marks thread

-- the words of these older values are of one line
abbrev pub AreOfLine : ℕ → List Older → Type 0
AreOfLine line [] = ⊤
AreOfLine line (x ∷ xs) = (x.place / 8 ≡ line) × AreOfLine line xs

-- an entry is one of a line of `count` words, of which one has an older value
pub record IsLine (count line : ℕ) (h : Held) : Type 0 where
  pub inside : 8 * line + 8 ≤ count
  pub some : 0 < length h.older
  pub places : AreOfLine line h.older

-- a durable line has no entry
abbrev pub IsPendingAt : ℕ → List (ℕ × Held) → ℕ → Type 0
IsPendingAt count entries line = IfSome (lookup (nat_eq line) entries) (IsLine count line)

abbrev pub ArePending : ℕ → List (ℕ × Held) → Type 0
ArePending count entries = (line : ℕ) → IsPendingAt count entries line

-- the lines that a thread has marked, as far as they are kept
abbrev pub lines_at : List (ℕ × List ℕ) → ℕ → List ℕ
lines_at marked thread = unwrap_or (lookup (nat_eq thread) marked) []

-- where a thread has a mark, the line is among the thread's
abbrev pub AreNoted : List (ℕ × List ℕ) → List (ℕ × Held) → Type 0
AreNoted marked entries = (t line : ℕ) → 0 < look (held_at entries line).marks t → Contains (lines_at marked t) line

-- what the parts of a memory of `count` words keep
pub record IsSound (count : ℕ) (marked : List (ℕ × List ℕ)) (entries : List (ℕ × Held)) : Type 0 where
  pub pages : HasPages count
  pub pending : ArePending count entries
  pub noted : AreNoted marked entries
