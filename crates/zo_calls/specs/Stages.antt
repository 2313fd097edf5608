-- What holds of each stage of a call, whatever it has heard: its machines work on its own leases.
use Rattle.std.specs.Prelude.{◌≡◌, ◌≢◌, ◌⊎◌, ℕ, ◌+◌, ◌<◌, length, All, if◌then◌else◌, ◌==◌}
use Rattle.tr_types.specs.declared.entry.Mark.{Mark}
use Rattle.tr_types.specs.declared.entry.Mark.TheVariants.{Plain, Check as Checks}
use Rattle.zo_lease.specs.declared.take.Take.{Take}
use Rattle.zo_lease.specs.declared.check.Check.{Check}
use Rattle.zo_lease.specs.declared.pop.Pop.{Pop}
use Rattle.zo_lease.specs.declared.push.Push.{Push}
use Rattle.zo_lease.specs.declared.give_back.GiveBack.{GiveBack}
use Rattle.zo_lease.specs.declared.watch.Watch.{Watch}
use Rattle.zo_plan.specs.declared.deed.Deed.{Deed}
use Rattle.zo_plan.specs.declared.deed.Deed.TheVariants as deed
use Rattle.zo_plan.specs.declared.held.Held.{Held}
use Rattle.zo_plan.specs.declared.place.Place.{Place}
use Rattle.zo_plan.specs.Runs.{Running as PlanRunning}
use Rattle.zo_calls.specs.declared.caller.Caller.{Caller}
use Rattle.zo_calls.specs.declared.op.OpRun.{OpRun}
use Rattle.zo_calls.specs.declared.stage.Stage.{Stage}
use Rattle.zo_calls.specs.declared.stage.Stage.TheVariants as stage
use Rattle.zo_calls.specs.declared.stage.Change.{Change}
use Rattle.zo_calls.specs.declared.stage.Change.TheVariants as change
use Rattle.zo_calls.specs.declared.stage.Reading.{Reading}
use Rattle.zo_calls.specs.declared.stage.Reading.TheVariants as reading
use Rattle.zo_calls.specs.declared.stage.Drawing.{Drawing}
use Rattle.zo_calls.specs.declared.stage.Ending.{Ending}
use Rattle.zo_calls.specs.declared.stage.Ending.TheVariants as ending
use Rattle.tr_types.specs.declared.command.Reply.{Reply}
use Rattle.tr_types.specs.declared.command.Reply.TheVariants as reply
use Rattle.zo_calls.specs.declared.stage.Guard.{Guard}
use Rattle.zo_calls.specs.declared.stage.Watched.{Watched}
use Rattle.zo_calls.specs.declared.step.OpStep.{OpStep}
use Rattle.zo_calls.specs.declared.step.OpStep.TheVariants as step
use Rattle.zo_calls.specs.Acts.{MarksStore}
use Rattle.zo_calls.specs.Places.{dir_lease_of, pool_lease_of}
use Rattle.tr_types.specs.declared.command.Command.{Command}
use Rattle.tr_types.specs.declared.command.Command.TheVariants.{Create, Stat}
use Rattle.zo_lease.specs.Takes.{IsFirstTake}
use Rattle.zo_lease.specs.Watches.{IsFirstWatch}

-- the directory's lease is held
abbrev pub IsHeld : Caller → Held → Type 0
IsHeld caller held = held.lease ≡ dir_lease_of caller

pub record TakesDir (caller : Caller) (take : Take) : Type 0 where
  pub lease : take.lease.addr ≡ dir_lease_of caller
  pub bidder : take.bidder.thread ≡ caller.thread

-- the directory's lease is looked at, by the word that the call put there
pub record Looks (held : Held) (check : Check) : Type 0 where
  pub lease : check.addr ≡ held.lease
  pub own : check.own ≡ held.own
  pub mark : check.mark ≡ Checks

pub record Pops (caller : Caller) (pop : Pop) : Type 0 where
  pub lease : pop.lease.addr ≡ pool_lease_of caller
  pub bidder : pop.bidder.thread ≡ caller.thread

pub record Pushes (caller : Caller) (push : Push) : Type 0 where
  pub lease : push.lease.addr ≡ pool_lease_of caller
  pub bidder : push.bidder.thread ≡ caller.thread

-- the directory's lease is given back, or the pool's
pub record GivesDir (caller : Caller) (give : GiveBack) : Type 0 where
  pub lease : give.gift.addr ≡ dir_lease_of caller
  pub look : give.gift.look ≡ Checks
  pub put : give.gift.put ≡ 0

pub record GivesPool (caller : Caller) (give : GiveBack) : Type 0 where
  pub lease : give.gift.addr ≡ pool_lease_of caller
  pub look : give.gift.look ≡ Plain
  pub put : give.gift.put ≡ 0

-- a store of a run is marked as one
abbrev pub IsMarked : Deed → Type 0
IsMarked (deed.Store addr word mark) = MarksStore mark
IsMarked d = Unit {0}

abbrev pub AreMarked : PlanRunning → Type 0
AreMarked run = All (λ d. IsMarked d.deed) run.left

-- how many pages a new file takes, whose name is linked at this place
abbrev pub pages_for : Place → ℕ
pages_for place = (if place.free == 0 then 1 else 0) + 1

-- pages are still to be drawn
abbrev pub IsWanting : Drawing → Type 0
IsWanting drawing = length drawing.drawn.items < pages_for drawing.place

abbrev pub Sees : Caller → Watched → Type 0
Sees caller watched = watched.lease.addr ≡ dir_lease_of caller

abbrev pub ChangeStands : Caller → Change → Type 0
ChangeStands caller (change.Taking take) = TakesDir caller take
ChangeStands caller (change.Looking looking) = IsHeld caller looking.held
ChangeStands caller (change.Mapping held) = IsHeld caller held
ChangeStands caller (change.Checking checking) = IsHeld caller checking.held × Looks checking.held checking.check
ChangeStands caller (change.Popping popping) = Pops caller popping.pop × IsHeld caller popping.drawing.held × IsWanting popping.drawing
ChangeStands caller (change.PopGuard popping guard) = Pops caller popping.pop × IsHeld caller popping.drawing.held × IsWanting popping.drawing × Looks popping.drawing.held guard.check
ChangeStands caller (change.Enlarging drawing) = IsHeld caller drawing.held
ChangeStands caller (change.Pushing pushing) = Pushes caller pushing.push × IsHeld caller pushing.held
ChangeStands caller (change.PushGuard pushing guard) = Pushes caller pushing.push × IsHeld caller pushing.held × Looks pushing.held guard.check
ChangeStands caller (change.Running running) = IsHeld caller running.held × AreMarked running.run
ChangeStands caller (change.GivingBack giving) = GivesDir caller giving.give
ChangeStands caller (change.GivingPool giving) = GivesPool caller giving.give

abbrev pub ReadingStands : Caller → Reading → Type 0
ReadingStands caller (reading.Opening watch) = watch.lease.addr ≡ dir_lease_of caller
ReadingStands caller (reading.Looking look) = Sees caller look.watched
ReadingStands caller (reading.Counting count) = Sees caller count.watched
ReadingStands caller (reading.Mapping watched) = Sees caller watched
ReadingStands caller (reading.Kind file watched) = Sees caller watched
ReadingStands caller (reading.Map file watched) = Sees caller watched
ReadingStands caller (reading.Counter closing) = Sees caller closing.watched
ReadingStands caller (reading.Lease closing) = Sees caller closing.watched

abbrev pub StageStands : Caller → Stage → Type 0
StageStands caller (stage.Changing change) = ChangeStands caller change
StageStands caller (stage.Watching reading) = ReadingStands caller reading
StageStands caller stage.Over = Unit {0}

abbrev pub Stands : OpRun → Type 0
Stands op = StageStands op.caller op.stage

-- A call that changes begins with a take of the directory's lease, one that reads with a look at it; and none where the coffer has
-- no root page.
abbrev pub FirstMachine : Caller → Command → Stage → Type 0
FirstMachine caller (Create path mode) (stage.Changing (change.Taking take)) = IsFirstTake (dir_lease_of caller) caller.thread 0 take
FirstMachine caller (Stat path) (stage.Watching (reading.Opening watch)) = IsFirstWatch (dir_lease_of caller) 0 watch
FirstMachine caller command s = ⊥

pub record FirstStage (caller : Caller) (command : Command) (s : Stage) : Type 0 where
  pub none : caller.mapped.root ≡ 0 → s ≡ stage.Over
  pub some : caller.mapped.root ≢ 0 → FirstMachine caller command s

abbrev pub Begins : OpRun → Type 0
Begins op = FirstStage op.caller op.command op.stage

-- nothing is awaited
abbrev pub IsIdle : OpRun → Type 0
IsIdle op = op.stage ≡ stage.Over

-- the reply ends the call, and all else goes on
abbrev pub Settles : OpRun → OpStep → Type 0
Settles new (step.Over reply) = IsIdle new
Settles new step = Stands new

-- the reply with which a call ends that has given its lease back
abbrev pub ended_by : Ending → Reply
ended_by ending.Exists = reply.Exists
ended_by ending.Made = reply.Made
ended_by (ending.Short short) = reply.NoSpace short.need short.free
ended_by (ending.Busy addr word now) = reply.Busy addr word now
ended_by (ending.Expired addr word) = reply.Expired addr word

-- Where the lease was taken away, another step takes the place of `Exists`; the other replies stand.
abbrev pub UnlessGiven : Ending → OpStep → OpStep → Type 0
UnlessGiven ending.Exists other result = result ≡ other
UnlessGiven end other result = result ≡ step.Over (ended_by end)
