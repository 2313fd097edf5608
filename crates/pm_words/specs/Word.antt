use Rattle.std.specs.Prelude.{ℕ, List, [], ◌∷◌, ◌++◌, length, drop}
use Rattle.pm_words.specs.Marks.{mark_at, put_mark, less_marks}

-- a word of 8 bytes: its present value, what a crash may leave in its place, and what each thread's next fence makes durable
pub record Word : Type 0 where
  -- the values before the present one that a crash may still leave, the durable one first; none where the present value is durable
  pub older : List ℕ
  pub present : ℕ
  -- for each thread, by its number: how many of the older values go at its next fence; 0, where it has no mark that tells, is left out at the end
  pub marks : List ℕ

-- a word whose value is durable
abbrev pub settled : ℕ → Word
settled value = record { older = []; present = value; marks = [] }

-- a word after one more value is stored
abbrev pub stored : ℕ → Word → Word
stored value w = record { older = w.older ++ w.present ∷ []; present = value; marks = w.marks }

-- a word after a thread has flushed its line: the present value is marked, so that all older values go at the thread's fence
abbrev pub flushed : ℕ → Word → Word
flushed thread w = record { older = w.older; present = w.present; marks = put_mark w.marks thread (length w.older) }

-- a word after a thread's fence: the values before the one that the thread has marked go, and its mark goes
abbrev pub fenced : ℕ → Word → Word
fenced thread w = record { older = drop (mark_at w.marks thread) w.older; present = w.present; marks = less_marks (mark_at w.marks thread) w.marks }

-- the values that a crash may leave, the oldest first
abbrev pub crash_list : Word → List ℕ
crash_list w = w.older ++ w.present ∷ []
