-- Calls that go on until all is done, or a fault stops them.
use Rattle.std.specs.Prelude.{◌≡◌, ℕ, ◌<◌, ◌≤◌, List, ◌++◌, length, MatchResult}
use Rattle.std.specs.declared.result.Result.{Result}
use Rattle.std.specs.declared.option.Option.{Option}
use Rattle.std.specs.Io.KnownBytes.{Appends, Consumes, IsAtEnd}
use Rattle.tr_outside.specs.Causes.{HasCause}

-- known bytes grew by a front of `bytes`
abbrev pub AppendsFront : Option (List ℕ) → Option (List ℕ) → List ℕ → Type 0
AppendsFront old new bytes = (front : List ℕ) × (rest : List ℕ) × (bytes ≡ front ++ rest) × Appends old new front

-- a sink was handed `bytes`: it took all of them at Ok, and a front of them at a fault
pub record WritesAll {T E : Type 0} (old new : Option (List ℕ)) (before now : ℕ) (bytes : List ℕ) (result : Result T E) : Type 0 where
  pub taken : MatchResult result (λ _. Appends old new bytes) (λ _. AppendsFront old new bytes)
  pub cause : HasCause before now result

-- `bytes` are all that a source had left, or its first `limit` bytes where it had more
pub record ReadsUpTo (limit : ℕ) (old new : Option (List ℕ)) (bytes : List ℕ) : Type 0 where
  pub taken : Consumes old new bytes
  pub bound : length bytes ≤ limit
  pub end : length bytes < limit → IsAtEnd new

-- known bytes lost at most `limit` from their front
abbrev pub ConsumesAtMost : ℕ → Option (List ℕ) → Option (List ℕ) → Type 0
ConsumesAtMost limit old new = (bytes : List ℕ) × (length bytes ≤ limit) × Consumes old new bytes
