-- One window: which coffer a thread may reach at a moment.
use Rattle.std.specs.Prelude.{◌≡◌, ◌≢◌, ℕ, List, Contains, false, Some, None}
use Rattle.bus_model.specs.Machine.{Bus, pkru_of}
use Rattle.bus_model.specs.Confined.{IsConfined as IsConfinedAt}
use Rattle.kern_model.specs.Rights.{may_write, closed_pkru}
use Rattle.tr_types.specs.declared.action.Action.TheVariants.{Kernel}
use Rattle.tr_types.specs.declared.entry.Entry.{Entry}
use Rattle.tr_types.specs.declared.entry.Entry.TheVariants as entry
use Rattle.tr_types.specs.declared.kernel_call.Holder.{Holder}
use Rattle.tr_types.specs.declared.kernel_call.Kcall.TheVariants.{Find, Map}
use Rattle.zo_model.specs.Commands.{sought_path}
use Rattle.zo_model.specs.Seats.{LastFind}
use Rattle.tr_model.specs.OneWindow.{HoldsUnder, IsKey, IsOpen, IsReading}
use Rattle.tr_replay.specs.Seats.{Seat}
use Rattle.tr_replay.specs.Worlds.{World, stepped}

-- the key is that of the coffer that the call's last Find showed, which its command consulted there, and the thread holds it
pub record IsOfFind (bus : Bus) (thread key : ℕ) (seat : Seat) : Type 0 where
  pub find : LastFind
  pub found : seat.found ≡ Some find
  pub named : find.path ≡ sought_path seat.command
  pub held : HoldsUnder bus thread find.coffer key

-- A thread has at most one key open. Outside a call its register is the one with which it started, and it holds no coffer.
-- The key is that of the coffer that the command consulted at the call's last Find. While the command only reads, the
-- key allows no store.
pub record IsWindowed (w : World) : Type 0 where
  pub one : (thread key other : ℕ) → IsOpen w.base.machine.bus thread key → IsOpen w.base.machine.bus thread other → key ≡ other
  pub closed : (thread : ℕ) → w.base.seats thread ≡ None → pkru_of w.base.machine.bus thread ≡ closed_pkru
  pub unmapped : (thread : ℕ) (row : Holder) → w.base.seats thread ≡ None → Contains w.base.machine.bus.holders row → row.thread ≢ thread
  pub consulted : (thread key : ℕ) → IsOpen w.base.machine.bus thread key → (seat : Seat) × (w.base.seats thread ≡ Some seat) × IsOfFind w.base.machine.bus thread key seat
  pub reading : (thread key : ℕ) (seat : Seat) → w.base.seats thread ≡ Some seat → IsReading seat.command → IsKey key → may_write (pkru_of w.base.machine.bus thread) key ≡ false

-- a call looks for its coffer only while its window is closed
abbrev pub FindsShut : World → Entry → Type 0
FindsShut w (entry.Act thread now mark (Kernel (Find path also)) answer) = (key : ℕ) → IsOpen w.base.machine.bus thread key → ⊥
FindsShut w e = Unit {0}

-- the path is the one that the call's last Find named, and whose coffer its command consults
pub record IsFoundPath (w : World) (thread : ℕ) (path : List ℕ) : Type 0 where
  pub seat : Seat
  pub runs : w.base.seats thread ≡ Some seat
  pub find : LastFind
  pub found : seat.found ≡ Some find
  pub named : find.path ≡ path
  pub consulted : path ≡ sought_path seat.command

-- a call maps the coffer of the path that its last Find named
abbrev pub MapsFound : World → Entry → Type 0
MapsFound w (entry.Act thread now mark (Kernel (Map path right exclusive)) answer) = IsFoundPath w thread path
MapsFound w e = Unit {0}

-- the entry keeps to one window, and leaves one
abbrev pub LeavesWindows : World → Entry → Type 0
LeavesWindows w e = IsWindowed (stepped w e) × FindsShut w e × MapsFound w e

-- confinement, of the world's machine
abbrev pub IsConfined : World → Entry → Type 0
IsConfined w e = IsConfinedAt w.base.machine e
