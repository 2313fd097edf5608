use Rattle.std.specs.Prelude.{◌≡◌, ℕ, ◌*◌, ◌/◌, ◌%◌, ◌<◌, ◌≤◌, ◌==◌, List, [], length, map, slice_index_or, slice_set, if◌then◌else◌}
use Rattle.std.specs.List.{enumerate_from}
use Rattle.pm_words.specs.Word.{Word, settled, stored, flushed, fenced}

-- the word at a byte address
abbrev pub word_at : List Word → ℕ → Word
word_at words address = slice_index_or words (address / 8) (settled 0)

-- the memory after one value is stored at a byte address: one word changes
abbrev pub store_at : ℕ → ℕ → List Word → List Word
store_at address value words = slice_set words (address / 8) (stored value (word_at words address))

-- the memory after a compare-and-exchange: the new value is stored exactly where the present one is `old`
abbrev pub cas_at : ℕ → ℕ → ℕ → List Word → List Word
cas_at address old new words = if (word_at words address).present == old then store_at address new words else words

-- each word, changed by a function of its place and itself
abbrev pub each_word : (ℕ → Word → Word) → List Word → List Word
each_word f words = map (λ p. f p.0 p.1) (enumerate_from 0 words)

-- the memory after a thread has flushed the line of 8 words that an address is in
abbrev pub flush_at : ℕ → ℕ → List Word → List Word
flush_at thread address words = each_word (λ place w. if place / 8 == address / 64 then flushed thread w else w) words

-- the memory after a thread's fence
abbrev pub fence_by : ℕ → List Word → List Word
fence_by thread words = map (fenced thread) words

-- the present value of each word
abbrev pub present_values : List Word → List ℕ
present_values words = map (λ w. w.present) words

-- the memory in which each of these values is durable
abbrev pub all_durable : List ℕ → List Word
all_durable values = map settled values

-- a byte address of one of `count` words
pub record IsAddress (count address : ℕ) : Type 0 where
  pub aligned : address % 8 ≡ 0
  pub inside : address / 8 < count

-- no word of the line that a byte address is in has an older value that a crash may leave
abbrev pub IsLineDurable : List Word → ℕ → Type 0
IsLineDurable words address = (k : ℕ) → k < length words → k / 8 ≡ address / 64 → (slice_index_or words k (settled 0)).older ≡ []

-- `count` words are this many whole pages of 512 words, from 64 pages to 16,384
pub record IsPages (count pages : ℕ) : Type 0 where
  pub whole : count ≡ 512 * pages
  pub least : 64 ≤ pages
  pub most : pages ≤ 16384

-- `count` words are whole pages, from 64 pages to 16,384
abbrev pub HasPages : ℕ → Type 0
HasPages count = IsPages count (count / 512)
