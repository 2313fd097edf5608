-- What the kernel reads in the words of an image: its tables, with the committed pairs laid over the words.
use Rattle.std.specs.Prelude.{ℕ, List}
use Rattle.pm_words.specs.Word.{Word}
use Rattle.kern_model.specs.KernelView.{pages_of}
use Rattle.kern_model.specs.Journal.{kernel_word, laid_over}
use Rattle.kern_model.specs.KernelTables.{Coffer, owner_in, pages_owned, pages_free, coffers_in}

-- whose a page is
abbrev pub kernel_owner : List Word → ℕ → ℕ
kernel_owner words page = owner_in (pages_of words) (kernel_word words) page

-- the pages of a coffer, the least first
abbrev pub coffer_pages : List Word → ℕ → List ℕ
coffer_pages words id = pages_owned (pages_of words) (kernel_word words) id

-- the pages that are nobody's, the least first
abbrev pub spare_pages : List Word → List ℕ
spare_pages words = pages_free (pages_of words) (kernel_word words)

-- the coffers in order of their numbers
abbrev pub coffers : List Word → List Coffer
coffers words = coffers_in (pages_of words) (kernel_word words)

-- what is read once these pairs (address, word) are stored over what was read
abbrev pub read_after : List (ℕ × ℕ) → (ℕ → ℕ) → ℕ → ℕ
read_after pairs at addr = laid_over pairs addr (at addr)
