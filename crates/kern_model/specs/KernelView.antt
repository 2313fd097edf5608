-- What the kernel's pages say of the pages of an image.
use Rattle.std.specs.Prelude.{ℕ, ◌/◌, List, length, fold, filter, ◌==◌}
use Rattle.std.specs.List.{range_with_len}
use Rattle.pm_words.specs.Word.{Word}
use Rattle.pm_words.specs.Memory.{word_at, store_at}
use Rattle.zo_layout.specs.Layout.{owner_word}

-- the present word at an address
abbrev pub value : List Word → ℕ → ℕ
value words addr = (word_at words addr).present

-- how many pages a memory has
abbrev pub pages_of : List Word → ℕ
pages_of words = length words / 512

-- whose a page is: 0 nobody's, 1 to 256 a coffer's, 65535 the kernel's
abbrev pub owner_of : List Word → ℕ → ℕ
owner_of words page = (word_at words (owner_word (pages_of words) page)).present

-- the pages that are nobody's, the least first
abbrev pub free_pages : List Word → List ℕ
free_pages words = filter (λ page. owner_of words page == 0) (range_with_len 0 (pages_of words))

-- the memory after these pages have become the coffer's
abbrev pub given_to : ℕ → List ℕ → List Word → List Word
given_to coffer pages words = fold (λ now page. store_at (owner_word (pages_of words) page) coffer now) words pages
