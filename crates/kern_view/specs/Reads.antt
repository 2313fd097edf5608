-- What is read once for all: the committed pairs, and the paths of the coffers.
use Rattle.std.specs.Prelude.{◌≡◌, ℕ, List, map, Option, Some, None, if◌then◌else◌}
use Rattle.pm_words.specs.Word.{Word}
use Rattle.kern_model.specs.KernelView.{pages_of}
use Rattle.kern_model.specs.Journal.{committed, kernel_word, laid_over}
use Rattle.kern_model.specs.KernelTables.{all_ids, path_in, stands_in}

-- these pairs say at each address what the committed ones say
abbrev pub AreLaid : List Word → List (ℕ × ℕ) → Type 0
AreLaid words pairs = (addr default : ℕ) → laid_over pairs addr default ≡ laid_over (committed words) addr default

-- the path of a coffer that is there
abbrev pub path_there : ℕ → (ℕ → ℕ) → ℕ → Option (List ℕ)
path_there pages at id = if stands_in pages at id then Some (path_in pages at id) else None

-- the paths of the coffers by their numbers, from number 1 on
abbrev pub paths_there : List Word → List (Option (List ℕ))
paths_there words = map (path_there (pages_of words) (kernel_word words)) all_ids
