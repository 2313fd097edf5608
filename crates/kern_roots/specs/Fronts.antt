-- Looking for the coffer of a path by the path's fronts.
use Rattle.std.specs.Prelude.{◌≡◌, ◌≢◌, ℕ, List, length, take, filter, Bool, true, Option, Some, None, ◌&&◌, ◌||◌, ◌==◌, nat_le, slice_index}
use Rattle.pm_words.specs.Word.{Word}
use Rattle.tr_types.specs.Paths.{begins_with}
use Rattle.kern_model.specs.Kernel.{coffers}
use Rattle.kern_model.specs.KernelTables.{Coffer}
use Rattle.kern_model.specs.PathMap.{longest, is_coffer, coffer_above}
use Rattle.kern_roots.specs.Entries.{has_coffer, path_of}

-- a name of a path ends before the byte at a place: the path ends there too, or the byte is a `/`
abbrev pub ends_name : List ℕ → ℕ → Bool
ends_name path end = (end == length path) || (slice_index path end == 47)

-- the number of the coffer that has just this path
abbrev pub IsCofferAt : List Word → List ℕ → Option ℕ → Type 0
IsCofferAt words path None = (id : ℕ) → has_coffer words id ≡ true → path_of words id ≢ path
IsCofferAt words path (Some id) = (has_coffer words id ≡ true) × (path_of words id ≡ path)

-- the number of the coffer whose path is the first `end` bytes of a path, where a name ends there
abbrev pub IsCofferAtFront : List Word → List ℕ → ℕ → Option ℕ → Type 0
IsCofferAtFront words path end None = (id : ℕ) → has_coffer words id ≡ true → begins_with path (path_of words id) ≡ true → length (path_of words id) ≢ end
IsCofferAtFront words path end (Some id) =
    (has_coffer words id ≡ true) × (path_of words id ≡ take end path) × (begins_with path (path_of words id) ≡ true)

-- of the coffers that a path begins with, and that have paths of at most `most` bytes, the one with the longest path
abbrev pub coffer_within : List Coffer → List ℕ → ℕ → Option Coffer
coffer_within coffers path most = longest (filter (λ c. begins_with path c.path && nat_le (length c.path) most) coffers)

-- there is a coffer `other`, and the coffer that it lies directly under is `id`
abbrev pub is_child_of : List Word → ℕ → ℕ → Bool
is_child_of words other id = has_coffer words other && is_coffer id (coffer_above (coffers words) (path_of words other))
