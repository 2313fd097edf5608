-- What a load of a lease shows.
use Rattle.std.specs.Prelude.{ℕ, Bool, false}
use Rattle.tr_types.specs.declared.action.Answer.{Answer}
use Rattle.tr_types.specs.declared.action.Answer.TheVariants.{Word}
use Rattle.zo_lease.specs.Words.{is_kept}
use Rattle.zo_plan.specs.declared.held.Held.{Held}

-- a load of the lease that was answered so has shown the call's own word, not expired at the tick `now`
abbrev pub is_shown : Held → Answer → ℕ → Bool
is_shown held (Word word) now = is_kept held.own word now
is_shown held answer now = false
