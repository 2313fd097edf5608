-- An adapter over the runtime, as its callers see it.
use Rattle.std.specs.Prelude.{ℕ, List, Option, Some, None}

-- what the stream tells of its bytes once it is open, and the faults counted
pub record AdapterState : Type 0 where
  pub known : Option (List ℕ)
  pub faults : ℕ

-- what a stream tells of its bytes, where it is open
abbrev pub known_of : {F : Type 0} → (F → Option (List ℕ)) → Option F → Option (List ℕ)
known_of tells None = None
known_of tells (Some stream) = tells stream
