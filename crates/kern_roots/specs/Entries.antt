-- The entry of one coffer, as the kernel reads it in words.
use Rattle.std.specs.Prelude.{ℕ, List, Bool, ◌&&◌}
use Rattle.std.specs.Int.{w64, to_le_bytes}
use Rattle.zo_layout.specs.Layout.{coffer_entry, coffer_path_word}
use Rattle.pm_words.specs.Word.{Word}
use Rattle.kern_model.specs.KernelView.{pages_of}
use Rattle.kern_model.specs.Journal.{kernel_word}
use Rattle.kern_model.specs.KernelTables.{Coffer, is_id, stands_in, coffer_in, path_in}

-- there is a coffer of this number
abbrev pub has_id : ℕ → (ℕ → ℕ) → ℕ → Bool
has_id pages at id = is_id id && stands_in pages at id

abbrev pub has_coffer : List Word → ℕ → Bool
has_coffer words id = has_id (pages_of words) (kernel_word words) id

-- the coffer of a number, and its path
abbrev pub coffer_of : List Word → ℕ → Coffer
coffer_of words id = coffer_in (pages_of words) (kernel_word words) id

abbrev pub path_of : List Word → ℕ → List ℕ
path_of words id = path_in (pages_of words) (kernel_word words) id

-- the eight bytes of word i of a coffer's path, the lowest first
abbrev pub path_piece : ℕ → (ℕ → ℕ) → ℕ → ℕ → List ℕ
path_piece pages at id i = to_le_bytes w64 (at (coffer_path_word (coffer_entry pages id) i))
