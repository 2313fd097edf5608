-- What the kernel reads where nothing is committed.
use Rattle.std.proofs.Common.{◌≡◌, ℕ, List, length, map, ap}
use Rattle.std.specs.List.{range_with_len}
use Rattle.pm_words.specs.Word.{Word}
use Rattle.pm_words.specs.Memory.{word_at}
use Rattle.kern_model.specs.Journal.{committed_count, kernel_word, laid_over, pair_at}
use Rattle.kern_model.specs.KernelView.{pages_of, owner_of, free_pages}
use Rattle.kern_model.specs.KernelTables.{pages_owned, pages_free}
use Rattle.kern_model.specs.Kernel.{coffer_pages, spare_pages, kernel_owner}
use Rattle.kern_model.specs.Given.{pages_held}

pub idle_word : (words : List Word) (addr : ℕ) → committed_count words ≡ 0 → kernel_word words addr ≡ (word_at words addr).present
idle_word words addr none = ap (λ (n : ℕ). laid_over (map (pair_at words) (range_with_len 0 n)) addr (word_at words addr).present) none

pub idle_reads : (words : List Word) → committed_count words ≡ 0 → kernel_word words ≡ (λ (addr : ℕ). (word_at words addr).present)
idle_reads words none = λ i addr. idle_word words addr none i

pub idle_owner : (words : List Word) (page : ℕ) → committed_count words ≡ 0 → kernel_owner words page ≡ owner_of words page
idle_owner words page none = idle_word words _ none

pub idle_spare : (words : List Word) → committed_count words ≡ 0 → spare_pages words ≡ free_pages words
idle_spare words none = ap (pages_free (pages_of words)) (idle_reads words none)

pub idle_pages : (words : List Word) (id : ℕ) → committed_count words ≡ 0 → length (coffer_pages words id) ≡ pages_held words id
idle_pages words id none = ap (λ (at : ℕ → ℕ). length (pages_owned (pages_of words) at id)) (idle_reads words none)
