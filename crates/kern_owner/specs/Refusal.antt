-- Why no pages are given.
use Rattle.std.specs.Prelude.{◌≡◌, ℕ, ◌<◌, ◌≤◌}
use Rattle.kern_owner.specs.declared.handed.OwnerFault.{OwnerFault}
use Rattle.kern_owner.specs.declared.handed.OwnerFault.TheVariants as fault

-- Where fewer pages are free than were asked for, the error has these two numbers. Memory can run out only where enough
-- are free.
abbrev pub IsRefused : ℕ → ℕ → OwnerFault → Type 0
IsRefused asked free (fault.NoPages a f) = (a ≡ asked) × (f ≡ free) × (free < asked)
IsRefused asked free fault.NoMemory = asked ≤ free
