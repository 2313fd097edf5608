-- How a count of faults tells why a call failed.
use Rattle.std.specs.Prelude.{◌≡◌, ℕ, ◌+◌, ◌-◌, ◌^◌, ◌≤◌, min, MatchResult, OnErr}
use Rattle.std.specs.declared.result.Result.{Result}

-- one fault more, where the counter's last value stays
abbrev pub one_more : ℕ → ℕ
one_more count = min (count + 1) (2 ^ 64 - 1)

-- the count has risen, or stands at the counter's last value
abbrev pub Rose : ℕ → ℕ → Type 0
Rose before now = one_more before ≤ now

-- a call with this result left the count at `now`: it never falls, and where the call failed it rose
pub record HasCause {T E : Type 0} (before now : ℕ) (result : Result T E) : Type 0 where
  pub later : before ≤ now
  pub failed : OnErr result (Rose before now)

-- the call counted its own failure, and nothing else
abbrev pub CountsItself : {T E : Type 0} → ℕ → ℕ → Result T E → Type 0
CountsItself before now result = MatchResult result (λ _. now ≡ before) (λ _. now ≡ one_more before)
