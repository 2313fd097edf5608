-- What is true of the first fault of any words.
use Rattle.std.specs.Prelude.{◌≡◌, ℕ, List}
use Rattle.pm_words.specs.Word.{Word}
use Rattle.kern_model.specs.KernelRules.{IsFirstFault, IsSoundKernel}

-- there is at most one first fault, and none where no rule fails
abbrev pub FaultLaw : Type 0
FaultLaw =
    ((words : List Word) (place other : ℕ) → IsFirstFault words place → IsFirstFault words other → place ≡ other)
    × ((words : List Word) (place : ℕ) → IsSoundKernel words → IsFirstFault words place → ⊥)
