-- A machine as its callers see it.
use Rattle.std.specs.Prelude.{◌≡◌, ℕ, List, Bool, false}
use Rattle.bus_model.specs.Machine.{Bus}

pub record MachineView : Type 0 where
  pub bus : Bus
  -- the processes that have ended, each with its threads
  pub ended : List ℕ
  -- a crash has come: nothing lives, and nothing can be started
  pub down : Bool
  -- memory ran out in an earlier call: nothing is said of the bus then
  pub failed : Bool

-- something can be done on it
abbrev pub IsUp : MachineView → Type 0
IsUp v = (v.failed ≡ false) × (v.down ≡ false)
