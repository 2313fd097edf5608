-- How a core stands between two calls: its machine is that of its trace, each call that is under way waits with its next
-- step ready, and all other threads hold nothing. As long as calls don't cross, one is under way at most.
use Rattle.std.specs.Prelude.{◌≡◌, ℕ, List, [], Contains, Option, Some, None, false}
use Rattle.bus_model.specs.Machine.{Bus, Machine, ProcessWasStarted, HasRegisters}
use Rattle.bus_machine.specs.View.{MachineView}
use Rattle.tr_types.specs.declared.action.Answer.{Answer}
use Rattle.tr_types.specs.declared.entry.Mark.{Mark}
use Rattle.tr_types.specs.declared.entry.Mark.TheVariants.{Plain}
use Rattle.tr_types.specs.declared.permission.Cred.{Cred}
use Rattle.zo_model.specs.Alone.{root_cred}
use Rattle.tr_model.specs.OneWindow.{IsWindowed}
use Rattle.tr_model.specs.Worlds.{World, IsDenoted}
use Rattle.tr_dispatch.specs.Rooted.{IsRooted, IsAtRest}
use Rattle.tr_dispatch.specs.Sessions.{IsBare, KnowsAt, LeadsTo, RunsOn, GivesAction}
use Rattle.tr_dispatch.specs.declared.session.SessionStep.{SessionStep}
use Rattle.tr_dispatch.specs.declared.session.SessionStep.TheVariants as step
use Rattle.tr_dispatch.specs.declared.session.Stage.{Stage}
use Rattle.tr_core.specs.declared.calls.Waiting.{Waiting}

-- the mark of a step
abbrev pub mark_of : SessionStep → Mark
mark_of (step.Act action mark) = mark
mark_of (step.Over reply) = Plain

-- that of a thread's next step, where it has a call
abbrev pub due_of : Option Waiting → Option Mark
due_of None = None
due_of (Some waiting) = Some (mark_of waiting.call.value.next)

-- A call whose next step is ready: its session gave this step where it knew what its stage asked for, and that still stands.
pub record IsReady (w : World) (thread : ℕ) (waiting : Waiting) : Type 0 where
  pub thread_is : waiting.call.value.session.thread ≡ thread
  pub before : Stage
  pub told : Answer
  pub knows : KnowsAt thread waiting.call.value.session.command before told w
  pub leads : LeadsTo thread waiting.call.value.session.command before told waiting.call.value.session.stage waiting.call.value.next
  pub runs : RunsOn waiting.call.value.session.stage waiting.call.value.next
  pub gives : GivesAction waiting.call.value.next

-- how a thread stands
abbrev pub StandsAs : World → ℕ → Option Waiting → Type 0
StandsAs w thread None = (w.base.seats thread ≡ None) × IsBare w.base.machine.bus thread
StandsAs w thread (Some waiting) = IsReady w thread waiting

-- no tick has passed, no process has ended, and no crash has come, since no event does any of these
pub record IsTimeless (m : Machine) : Type 0 where
  pub clock : m.clock ≡ 0
  pub latest : m.latest ≡ 0
  pub ended : m.ended ≡ []
  pub up : m.down ≡ false

-- all users are uid 0, and each thread is of a process that was started
pub record AreRoots (bus : Bus) : Type 0 where
  pub creds : (process : ℕ) (cred : Cred) → Contains bus.processes (process, cred) → cred ≡ root_cred
  pub housed : (thread process : ℕ) → Contains bus.threads (thread, process) → ProcessWasStarted bus process

-- how a core stands, whose trace has come to this world
pub record Stands (w : World) (m : MachineView) (calls : ℕ → Option Waiting) : Type 0 where
  pub works : m.failed ≡ false
  pub bus : m.bus ≡ w.base.machine.bus
  pub ended : m.ended ≡ w.base.machine.ended
  pub down : m.down ≡ w.base.machine.down
  pub rooted : IsRooted w
  pub denoted : IsDenoted w
  pub windowed : IsWindowed w
  pub registers : HasRegisters w.base.machine.bus
  pub timeless : IsTimeless w.base.machine
  pub users : AreRoots w.base.machine.bus
  pub each : (thread : ℕ) → StandsAs w thread (calls thread)
  -- one call at most is under way, and where none is, all is at rest
  pub alone : (t u : ℕ) (one other : Waiting) → calls t ≡ Some one → calls u ≡ Some other → t ≡ u
  pub rests : ((thread : ℕ) → calls thread ≡ None) → IsAtRest w
