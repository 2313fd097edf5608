-- Whose each page is, as a list by page: 0 nobody's, 1 to 256 a coffer's by its number, 65535 the kernel's.
use Rattle.std.specs.Prelude.{◌≡◌, ℕ, ◌<◌, List, length, map, filter, slice_index, ◌==◌}
use Rattle.std.specs.List.{range_with_len}
use Rattle.pm_words.specs.Word.{Word}
use Rattle.kern_model.specs.KernelView.{pages_of}
use Rattle.kern_model.specs.Kernel.{kernel_owner, coffer_pages}

-- the owners of all pages of an image
abbrev pub owners_of : List Word → List ℕ
owners_of words = map (kernel_owner words) (range_with_len 0 (pages_of words))

-- the pages of an owner, the least first
abbrev pub pages_with : ℕ → List ℕ → List ℕ
pages_with owner owners = filter (λ page. slice_index owners page == owner) (range_with_len 0 (length owners))

-- The list says what the owner table says, page by page and owner by owner.
pub record TellsOwners (words : List Word) : Type 0 where
  pub count : length (owners_of words) ≡ pages_of words
  pub each : (page : ℕ) → page < pages_of words → slice_index (owners_of words) page ≡ kernel_owner words page
  pub pages : (owner : ℕ) → pages_with owner (owners_of words) ≡ coffer_pages words owner
