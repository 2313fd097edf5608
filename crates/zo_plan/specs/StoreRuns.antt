-- A run of a plan: what it gives, action by action, and what each answer makes of it.
use Rattle.std.specs.Prelude.{ℕ, List, [], ◌∷◌, ◌++◌, map, Bool, true, false, Option, Some, None, if◌then◌else◌}
use Rattle.tr_types.specs.declared.action.Action.TheVariants as action
use Rattle.tr_types.specs.declared.action.Answer.{Answer}
use Rattle.tr_types.specs.declared.action.Answer.TheVariants.{Fault}
use Rattle.tr_types.specs.declared.entry.Mark.TheVariants as mark
use Rattle.zo_plan.specs.declared.plan.Put.{Put}
use Rattle.zo_plan.specs.declared.plan.Plan.{Plan}
use Rattle.zo_plan.specs.declared.stores.StoreStep.{StoreStep}
use Rattle.zo_plan.specs.declared.stores.StoreStep.TheVariants as step
use Rattle.zo_plan.specs.Operands.{real}

-- A store that a run gives: its address and word, whether it is the commit, and whether it comes behind the commit.
pub record Due : Type 0 where
  pub addr : ℕ
  pub word : ℕ
  pub commits : Bool
  pub late : Bool

abbrev pub due : List ℕ → Bool → Bool → Put → Due
due drawn commits late put = record { addr = real drawn put.at; word = real drawn put.word; commits = commits; late = late }

-- the stores that prepare the change, from one on, then all that come behind them
abbrev pub due_from : List ℕ → Plan → List Put → List Due
due_from drawn plan prepares = map (due drawn false false) prepares ++ due drawn true false plan.commit ∷ map (due drawn false true) plan.after.items

-- the stores of a plan, in order
abbrev pub stores_of : List ℕ → Plan → List Due
stores_of drawn plan = due_from drawn plan plan.prepares.items

-- What is left of a run: the stores that it is still to give, and the address of the one given last, where its refusal is damage.
pub record Running : Type 0 where
  pub asked : Option ℕ
  pub left : List Due

-- a run that gives nothing more
abbrev pub over : Running
over = record { asked = None; left = [] }

-- the address at which this answer shows damage, where it does
abbrev pub damaged_at : Answer → Option ℕ → Option ℕ
damaged_at (Fault kind) asked = asked
damaged_at answer asked = None

-- what comes next, and what is left behind it
abbrev pub step_at : Option ℕ → List Due → StoreStep
step_at (Some addr) left = step.Damaged addr
step_at None [] = step.Done
step_at None (d ∷ left) = step.Act (action.Store d.addr d.word) (if d.commits then mark.Commit else mark.Plain)

abbrev pub run_at : Option ℕ → List Due → Running
run_at (Some addr) left = over
run_at None [] = over
run_at None (d ∷ left) = record { asked = if d.late then None else Some d.addr; left = left }
