-- A trace with one more entry.
use Rattle.std.proofs.Common.{◌≡◌, ◌⊎◌, inl, inr, ℕ, ◌+◌, ◌<◌, ◌≤◌, List, [], ◌∷◌, ◌++◌, length, refl, sym, ap, subst, ◌∙◌, arith, Contains, Some, Option}
use Rattle.bus_model.specs.Machine.{Machine, ProcessWasStarted, ThreadWasStarted, HasEnded, ProcessLives, ThreadLives, HasRegisters, bus_moved}
use Rattle.bus_model.proofs.MachineLemmas.{registers_moved}
use Rattle.zo_hash_dir.proofs.Members.{contains_cases, contains_none}
use Rattle.tr_types.proofs.FoldLemmas.{state_after_more, Each_more}
use Rattle.tr_types.specs.declared.entry.Entry.{Entry}
use Rattle.tr_types.specs.declared.entry.Entry.TheVariants as entry
use Rattle.zo_model.specs.Seats.{Seat}
use Rattle.tr_model.specs.Marks.{IsMarkedEntry}
use Rattle.tr_model.specs.OneWindow.{LeavesWindows}
use Rattle.tr_model.specs.Worlds.{World, Row, IsReady, root_row, stepped, world_of, MayCome, IsInCall, IsSeat}
use Rattle.tr_model.proofs.Confined.{confined}
use Rattle.tr_core.specs.declared.limits.TheConstants.{TRACE_LIMIT}
use Rattle.tr_core.specs.Standing.{IsTimeless}
use Rattle.tr_core.specs.Traces.{IsTraceOf, IsRight, world_after}

pub world_more : (opening : List ℕ) (trace : List Entry) (e : Entry) → world_after opening (trace ++ e ∷ []) ≡ stepped (world_after opening trace) e
world_more opening trace e = state_after_more stepped (world_of opening) trace e

pub length_more : (trace : List Entry) (e : Entry) → length (trace ++ e ∷ []) ≡ length trace + 1
length_more [] e = refl
length_more (x ∷ trace) e = omega (arith, length_more trace e)

-- an entry that may come next in a core's trace
pub record IsNext (w : World) (e : Entry) : Type 0 where
  pub comes : MayCome w e
  pub in_call : IsInCall w e
  pub marked : IsMarkedEntry e
  pub right : IsRight w e
  pub windows : LeavesWindows w e
  pub table : (stepped w e).base.table ≡ root_row ∷ []

pub row_is : (row : Row) → Contains (root_row ∷ []) row → row.standing ≡ IsReady
row_is row among = by (contains_cases root_row [] row among)
  where
    by : (root_row ≡ row) ⊎ Contains [] row → row.standing ≡ IsReady
    by (inl same) = ap (λ (r : Row). r.standing) (sym same)
    by (inr none) = absurd (contains_none row none)

pub grows : (opening : List ℕ) (trace : List Entry) (e : Entry) → IsTraceOf opening trace → IsNext (world_after opening trace) e → length trace < TRACE_LIMIT → IsTraceOf opening (trace ++ e ∷ [])
grows opening trace e run next room = record {
  allowed = Each_more _ _ _ trace e run.allowed next.comes;
  in_call = Each_more _ _ _ trace e run.in_call next.in_call;
  marked = Each_more _ _ _ trace e run.marked next.marked;
  right = Each_more _ _ _ trace e run.right next.right;
  windows = Each_more _ _ _ trace e run.windows next.windows;
  confined = Each_more _ _ _ trace e run.confined (confined (world_after opening trace) e next.comes);
  unlost = λ row among. row_is row (subst (λ (t : List Row). Contains t row) (ap (λ (w : World). w.base.table) (world_more opening trace e) ∙ next.table) among);
  within = omega (arith, length_more trace e);
}

-- What stays of a machine.

-- the bus after an entry is that of the machine
pub moved_bus : (w : World) (e : Entry) → (stepped w e).base.machine.bus ≡ bus_moved w.base.machine.bus e
moved_bus w (entry.Mkfs pages) = refl
moved_bus w (entry.Process process cred) = refl
moved_bus w (entry.Thread thread process) = refl
moved_bus w (entry.Tick n) = refl
moved_bus w (entry.Call thread command) = refl
moved_bus w (entry.Act thread now mark action answer) = refl
moved_bus w (entry.Reply thread reply) = refl
moved_bus w (entry.Stray thread addr word answer) = refl
moved_bus w (entry.Wild thread now action answer) = refl
moved_bus w (entry.Corrupt process) = refl
moved_bus w (entry.Kill process) = refl
moved_bus w (entry.Crash pick) = refl
moved_bus w (entry.CrashIn thread now call k pick) = refl
moved_bus w (entry.Recovery action) = refl
moved_bus w (entry.Recovered ready quarantined) = refl
moved_bus w (entry.Lost path) = refl
moved_bus w (entry.Skip line why) = refl
moved_bus w (entry.Quarantine path) = refl
moved_bus w (entry.Coffers list) = refl

pub registers_next : (w : World) (e : Entry) → MayCome w e → HasRegisters w.base.machine.bus → HasRegisters (stepped w e).base.machine.bus
registers_next w e comes k = subst HasRegisters (sym (moved_bus w e)) (registers_moved w.base.machine e comes k)

-- Where nothing has ended, whatever was started lives.

none_ended : (m : Machine) (process : ℕ) → IsTimeless m → HasEnded m process → ⊥
none_ended m process k ended = contains_none process (subst (λ (l : List ℕ). Contains l process) k.ended ended)

pub thread_lives : (m : Machine) (thread : ℕ) → IsTimeless m → ThreadWasStarted m.bus thread → ThreadLives m thread
thread_lives m thread k was = (was, λ process is ended. none_ended m process k ended)

pub process_lives : (m : Machine) (process : ℕ) → IsTimeless m → ProcessWasStarted m.bus process → ProcessLives m process
process_lives m process k was = (was, none_ended m process k)

-- a thread with a seat is within its call
pub seated_in : (seat : Option Seat) (s : Seat) → seat ≡ Some s → IsSeat seat
seated_in seat s is = subst IsSeat (sym is) tt
