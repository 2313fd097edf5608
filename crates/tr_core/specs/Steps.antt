-- What a core does on its machine and trace.
use Rattle.std.specs.Prelude.{◌≡◌, ℕ, ◌<◌, List, [], ◌∷◌, ◌++◌, Option, Some, None, false}
use Rattle.bus_model.specs.Machine.{Bus, ProcessWasStarted, ThreadWasStarted, Answers, IsStored, bus_after, with_process, with_thread}
use Rattle.bus_machine.specs.Calls.{with_bus}
use Rattle.bus_machine.specs.View.{MachineView}
use Rattle.tr_types.specs.declared.action.Action.{Action}
use Rattle.tr_types.specs.declared.action.Action.TheVariants.{Store}
use Rattle.tr_types.specs.declared.action.Answer.{Answer}
use Rattle.tr_types.specs.declared.action.Answer.TheVariants.{Done}
use Rattle.tr_types.specs.declared.command.Command.{Command}
use Rattle.tr_types.specs.declared.entry.Entry.{Entry}
use Rattle.tr_types.specs.declared.entry.Entry.TheVariants as entry
use Rattle.tr_types.specs.declared.entry.Mark.{Mark}
use Rattle.tr_types.specs.declared.limits.TheConstants.{PROCESSES, THREADS}
use Rattle.zo_model.specs.Commands.{IsCommand}
use Rattle.tr_dispatch.specs.Sessions.{LeadsTo, SessionStepsFrom, RunsOn, GivesAction}
use Rattle.tr_dispatch.specs.declared.session.Session.{Session}
use Rattle.tr_dispatch.specs.declared.session.SessionStep.{SessionStep}
use Rattle.tr_dispatch.specs.declared.session.SessionStep.TheVariants as step
use Rattle.tr_dispatch.specs.declared.session.Stage.TheVariants as stage
use Rattle.tr_core.specs.declared.calls.Waiting.{Waiting}
use Rattle.tr_core.specs.declared.event.FaultEvent.{FaultEvent}
use Rattle.tr_core.specs.declared.event.FaultEvent.TheVariants as event

-- a call that begins, with its first step ready
pub record Begins (thread : ℕ) (command : Command) (waiting : Waiting) : Type 0 where
  pub thread_is : waiting.call.value.session.thread ≡ thread
  pub command_is : waiting.call.value.session.command ≡ command
  pub leads : LeadsTo thread command stage.Begin Done waiting.call.value.session.stage waiting.call.value.next
  pub runs : RunsOn waiting.call.value.session.stage waiting.call.value.next
  pub gives : GivesAction waiting.call.value.next

-- an action of a call was done, and its session has told the next step
pub record Acts (session : Session) (thread now : ℕ) (mark : Mark) (action : Action) (old new : MachineView) (trace longer : List Entry) (after : Waiting) : Type 0 where
  pub answer : Answer
  pub answers : Answers old.bus thread now action answer
  pub machine : new ≡ with_bus old (bus_after thread now action answer old.bus)
  pub gains : longer ≡ trace ++ entry.Act thread now mark action answer ∷ []
  pub thread_is : after.call.value.session.thread ≡ session.thread
  pub command_is : after.call.value.session.command ≡ session.command
  pub leads : SessionStepsFrom session answer after.call.value.session after.call.value.next
  pub runs : RunsOn after.call.value.session.stage after.call.value.next
  pub gives : IsCommand session.command → GivesAction after.call.value.next

-- the step that was ready was made
abbrev pub StepsBy : Session → SessionStep → ℕ → ℕ → MachineView → MachineView → List Entry → List Entry → Option Waiting → Type 0
StepsBy session (step.Act action mark) thread now old new trace longer (Some after) = Acts session thread now mark action old new trace longer after
StepsBy session (step.Over reply) thread now old new trace longer None = (new ≡ old) × (longer ≡ trace ++ entry.Reply thread reply ∷ [])
StepsBy session next thread now old new trace longer after = ⊥

abbrev pub Steps : Waiting → ℕ → ℕ → MachineView → MachineView → List Entry → List Entry → Option Waiting → Type 0
Steps waiting thread now old new trace longer after = StepsBy waiting.call.value.session waiting.call.value.next thread now old new trace longer after

-- no crash has come, and no process has ended
abbrev pub NobodyHasEnded : MachineView → Type 0
NobodyHasEnded m = (m.down ≡ false) × (m.ended ≡ [])

-- the machine can do the event
abbrev pub CanHappen : Bus → FaultEvent → Type 0
CanHappen bus (event.Mkfs pages) = Unit {0}
CanHappen bus (event.Process process cred) = (process < PROCESSES) × (ProcessWasStarted bus process → ⊥)
CanHappen bus (event.Thread thread process) = (thread < THREADS) × (ThreadWasStarted bus thread → ⊥) × ProcessWasStarted bus process
CanHappen bus (event.Stray thread addr word) = ThreadWasStarted bus thread

-- it has come about on the machine, with this entry
pub record Strays (thread addr word : ℕ) (old new : MachineView) (e : Entry) : Type 0 where
  pub answer : Answer
  pub stored : IsStored old.bus thread addr answer
  pub machine : new ≡ with_bus old (bus_after thread 0 (Store addr word) answer old.bus)
  pub entry_is : e ≡ entry.Stray thread addr word answer

abbrev pub HappensBy : FaultEvent → MachineView → MachineView → Entry → Type 0
HappensBy (event.Mkfs pages) old new e = (new ≡ old) × (e ≡ entry.Mkfs pages)
HappensBy (event.Process process cred) old new e = (new ≡ with_bus old (with_process process cred old.bus)) × (e ≡ entry.Process process cred)
HappensBy (event.Thread thread process) old new e = (new ≡ with_bus old (with_thread thread process old.bus)) × (e ≡ entry.Thread thread process)
HappensBy (event.Stray thread addr word) old new e = Strays thread addr word old new e

abbrev pub Happens : FaultEvent → MachineView → MachineView → List Entry → List Entry → Type 0
Happens event old new trace longer = (e : Entry) × HappensBy event old new e × (longer ≡ trace ++ e ∷ [])
