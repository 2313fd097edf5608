-- The journal as it is read: its pages hold how many pairs are committed, and for each its address and its value. What the
-- kernel reads is the words with these pairs laid over them.
use Rattle.std.specs.Prelude.{ℕ, ◌/◌, ◌≤◌, ◌==◌, List, map, length, fold, All, if◌then◌else◌}
use Rattle.std.specs.List.{range_with_len}
use Rattle.zo_layout.specs.Layout.{page_at, owner_table, committed_word, pair_address, pair_value, pair_capacity}
use Rattle.pm_words.specs.Word.{Word}
use Rattle.pm_words.specs.Memory.{word_at, IsAddress}
use Rattle.kern_model.specs.KernelView.{pages_of}

-- an address of one of `count` words of an image, outside the journal's pages: from the journal's first page on, only past its last
pub record IsHome (count addr : ℕ) : Type 0 where
  pub inside : IsAddress count addr
  pub outside : page_at 1 ≤ addr → page_at (owner_table (count / 512)) ≤ addr

-- how many pairs are committed: what stands in word 0 of the journal
abbrev pub committed_count : List Word → ℕ
committed_count words = (word_at words committed_word).present

-- pair i of the journal, an address and a value
abbrev pub pair_at : List Word → ℕ → ℕ × ℕ
pair_at words i = ((word_at words (pair_address i)).present, (word_at words (pair_value i)).present)

-- the committed pairs in their order
abbrev pub committed : List Word → List (ℕ × ℕ)
committed words = map (pair_at words) (range_with_len 0 (committed_count words))

-- the value that the last pair for an address gives it, and the default where no pair names it
abbrev pub laid_over : List (ℕ × ℕ) → ℕ → ℕ → ℕ
laid_over pairs addr default = fold (λ value p. if p.0 == addr then p.1 else value) default pairs

-- what the kernel reads at an address: the committed pairs, laid over the words
abbrev pub kernel_word : List Word → ℕ → ℕ
kernel_word words addr = laid_over (committed words) addr (word_at words addr).present

-- The journal says something that can be finished: no more pairs than it has room for, and each for a word of the image
-- outside the journal's pages.
pub record IsReadable (words : List Word) : Type 0 where
  pub room : committed_count words ≤ pair_capacity (pages_of words)
  pub homes : All (λ p. IsHome (length words) p.0) (committed words)
