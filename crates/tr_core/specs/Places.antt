-- The calls of threads, by their numbers.
use Rattle.std.specs.Prelude.{ℕ, List, slice_get, Option, Some, None}
use Rattle.tr_core.specs.declared.calls.Waiting.{Waiting}

abbrev pub flat : Option (Option Waiting) → Option Waiting
flat None = None
flat (Some place) = place

-- the call of a thread, of the places of all
abbrev pub place_in : List (Option Waiting) → ℕ → Option Waiting
place_in places thread = flat (slice_get places thread)
