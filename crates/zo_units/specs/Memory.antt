-- The memory as calls see it: each word by its byte address, with the place of its present value in the word's whole
-- history. Places are never given twice, so that what holds of a place holds from then on.
use Rattle.std.specs.Prelude.{◌≡◌, ℕ, ◌+◌, ◌-◌, ◌/◌, ◌≤◌, ◌==◌, List, [], length, slice_index_or, if◌then◌else◌}
use Rattle.pm_words.specs.Marks.{mark_at}
use Rattle.pm_words.specs.Memory.{word_at, store_at, cas_at, flush_at, fence_by}
use Rattle.pm_words.specs.Word.{Word, stored, flushed, fenced, crash_list}

-- `top` is the place of the present value; the older values of the word stand at the places directly below it
pub record Memory : Type 0 where
  pub word : ℕ → Word
  pub top : ℕ → ℕ

-- the present values
abbrev pub at : Memory → ℕ → ℕ
at m a = (m.word a).present

-- the place of the durable value
abbrev pub floor : Memory → ℕ → ℕ
floor m a = m.top a - length (m.word a).older

-- the value at a place from the floor on
abbrev pub value_at : Memory → ℕ → ℕ → ℕ
value_at m a place = slice_index_or (crash_list (m.word a)) (place - floor m a) 0

-- the place of the value that the thread's next fence makes durable, or the floor
abbrev pub marked : Memory → ℕ → ℕ → ℕ
marked m thread a = floor m a + mark_at (m.word a).marks thread

-- the present value is durable
abbrev pub IsClean : Memory → ℕ → Type 0
IsClean m a = (m.word a).older ≡ []

-- Older values and marks are places of the history, and the eight bytes of a word are alike.
pub record IsTidy (m : Memory) : Type 0 where
  pub older : (a : ℕ) → length (m.word a).older ≤ m.top a
  pub marks : (thread a : ℕ) → mark_at (m.word a).marks thread ≤ length (m.word a).older
  pub words : (a b : ℕ) → a / 8 ≡ b / 8 → m.word a ≡ m.word b
  pub tops : (a b : ℕ) → a / 8 ≡ b / 8 → m.top a ≡ m.top b

-- what a thread does to the memory
pub data Event : Type 0 where
  Store : (addr value : ℕ) → Event
  Exchange : (addr old new : ℕ) → Event
  Flush : (thread addr : ℕ) → Event
  Fence : (thread : ℕ) → Event

abbrev pub stored_in : ℕ → ℕ → Memory → Memory
stored_in addr value m = record {
  word = λ a. if a / 8 == addr / 8 then stored value (m.word a) else m.word a;
  top = λ a. if a / 8 == addr / 8 then m.top a + 1 else m.top a;
}

-- the new value is stored exactly where the present one is `old`
abbrev pub exchanged_in : ℕ → ℕ → ℕ → Memory → Memory
exchanged_in addr old new m = if at m addr == old then stored_in addr new m else m

-- the line of 64 bytes that the address is in
abbrev pub flushed_in : ℕ → ℕ → Memory → Memory
flushed_in thread addr m = record { word = λ a. if a / 64 == addr / 64 then flushed thread (m.word a) else m.word a; top = m.top }

abbrev pub fenced_in : ℕ → Memory → Memory
fenced_in thread m = record { word = λ a. fenced thread (m.word a); top = m.top }

abbrev pub after : Event → Memory → Memory
after (Store addr value) m = stored_in addr value m
after (Exchange addr old new) m = exchanged_in addr old new m
after (Flush thread addr) m = flushed_in thread addr m
after (Fence thread) m = fenced_in thread m

-- the words of a list, with a place for the present value of each by its number
abbrev pub memory_of : List Word → (ℕ → ℕ) → Memory
memory_of words tops = record { word = λ a. word_at words a; top = λ a. tops (a / 8) }

-- the list after an event
abbrev pub words_after : Event → List Word → List Word
words_after (Store addr value) words = store_at addr value words
words_after (Exchange addr old new) words = cas_at addr old new words
words_after (Flush thread addr) words = flush_at thread addr words
words_after (Fence thread) words = fence_by thread words

-- the places of the present values after it: a store gives the next one
abbrev pub raised : ℕ → (ℕ → ℕ) → ℕ → ℕ
raised number tops k = if k == number then tops k + 1 else tops k

abbrev pub tops_after : Event → List Word → (ℕ → ℕ) → ℕ → ℕ
tops_after (Store addr value) words tops = raised (addr / 8) tops
tops_after (Exchange addr old new) words tops = if (word_at words addr).present == old then raised (addr / 8) tops else tops
tops_after (Flush thread addr) words tops = tops
tops_after (Fence thread) words tops = tops

-- A crash leaves of each word the value at one of its places, at the floor or past it; the eight bytes of a word are alike.
pub record IsLeft (m : Memory) (places image : ℕ → ℕ) : Type 0 where
  pub low : (a : ℕ) → floor m a ≤ places a
  pub high : (a : ℕ) → places a ≤ m.top a
  pub is : (a : ℕ) → image a ≡ value_at m a (places a)
  pub alike : (a b : ℕ) → a / 8 ≡ b / 8 → places a ≡ places b
