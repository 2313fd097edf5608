-- A run of a plan under leases: what it gives, action by action, and what each answer makes of it.
use Rattle.std.specs.Prelude.{ℕ, ◌/◌, List, [], ◌∷◌, ◌++◌, map, Bool, true, false, Option, Some, None, if◌then◌else◌, ◌==◌}
use Rattle.tr_types.specs.declared.action.Answer.{Answer}
use Rattle.tr_types.specs.declared.entry.Mark.{Mark}
use Rattle.tr_types.specs.declared.entry.Mark.TheVariants as mark
use Rattle.zo_plan.specs.declared.deed.Deed.{Deed}
use Rattle.zo_plan.specs.declared.deed.Deed.TheVariants.{Store, Count, Raise, Look, Flush, Fence}
use Rattle.zo_plan.specs.declared.deed.Due.{Due}
use Rattle.zo_plan.specs.declared.deed.Verdict.{Verdict}
use Rattle.zo_plan.specs.declared.deed.Verdict.TheVariants.{GoesOn, Taken, Refused, Ends}
use Rattle.zo_plan.specs.declared.held.Held.{Held}
use Rattle.zo_plan.specs.declared.plan.Operand.{Operand}
use Rattle.zo_plan.specs.declared.plan.Operand.TheVariants.{Known, Drawn}
use Rattle.zo_plan.specs.declared.plan.Put.{Put}
use Rattle.zo_plan.specs.declared.plan.Plan.{Plan}
use Rattle.zo_plan.specs.declared.run.Step.{Step}
use Rattle.zo_plan.specs.declared.run.Step.TheVariants as step
use Rattle.zo_plan.specs.Deeds.{action_of, mark_of, judged_due, counted}
use Rattle.zo_lease.specs.Words.{noted_word, counter_word}
use Rattle.zo_plan.specs.Operands.{real}

-- What is due, in order. In each definition below, `drawn` are the drawn pages by their numbers and `leases` those that the call
-- holds; of the first store of a part, only the leases `first` are still to be looked at.

abbrev pub early : Deed → Due
early deed = record { deed = deed; late = false }

abbrev pub late : Deed → Due
late deed = record { deed = deed; late = true }

abbrev pub looks : List Held → List Due
looks leases = map (λ held. early (Look held)) leases

abbrev pub late_looks : List Held → List Due
late_looks leases = map (λ held. late (Look held)) leases

abbrev pub store_of : List ℕ → Mark → Put → Deed
store_of drawn mark put = Store (real drawn put.at) (real drawn put.word) mark

abbrev pub note_beside : List ℕ → Plan → Held → Deed
note_beside drawn plan held = Store (noted_word held.lease) (real drawn plan.at) mark.Note

-- the leases that are looked at before a store there: none for a place in a drawn page
abbrev pub looked_before : Operand → List Held → List Held
looked_before (Known addr) leases = leases
looked_before (Drawn page byte) leases = []

-- the line of a word, by its number
abbrev pub line_of : ℕ → ℕ
line_of addr = addr / 64

-- the line of a store is flushed where the next store that prepares the change doesn't go to it
abbrev pub flush_between : List ℕ → Put → List Put → List Due
flush_between drawn put [] = early (Flush (real drawn put.at)) ∷ []
flush_between drawn put (next ∷ puts) = if line_of (real drawn next.at) == line_of (real drawn put.at) then [] else early (Flush (real drawn put.at)) ∷ []

abbrev pub prepared : List ℕ → List Held → List Held → List Put → List Due
prepared drawn leases first [] = []
prepared drawn leases first (put ∷ puts) =
    looks (looked_before put.at first) ++ early (store_of drawn mark.Plain put) ∷ flush_between drawn put puts ++ prepared drawn leases leases puts

abbrev pub raises : List Held → List Held → List Due
raises leases [] = []
raises leases (held ∷ others) = early (Count (counter_word held.lease)) ∷ looks leases ++ early (Raise (counter_word held.lease)) ∷ raises leases others

abbrev pub notes : List ℕ → Plan → List Held → List Held → List Held → List Due
notes drawn plan leases first [] = []
notes drawn plan leases first (held ∷ others) = looks first ++ early (note_beside drawn plan held) ∷ notes drawn plan leases leases others

abbrev pub follows : List ℕ → List Held → List Held → List Put → List Due
follows drawn leases first [] = []
follows drawn leases first (put ∷ puts) = late_looks first ++ late (store_of drawn mark.Plain put) ∷ follows drawn leases leases puts

-- the commit made durable, and what follows it
abbrev pub from_settling : List ℕ → List Held → Plan → List Due
from_settling drawn leases plan = late (Flush (real drawn plan.commit.at)) ∷ late Fence ∷ follows drawn leases leases plan.after.items

abbrev pub from_commit : List ℕ → List Held → Plan → List Held → List Due
from_commit drawn leases plan first = looks first ++ early (store_of drawn mark.Commit plan.commit) ∷ from_settling drawn leases plan

abbrev pub from_notes : List ℕ → List Held → Plan → List Held → List Held → List Due
from_notes drawn leases plan first left = notes drawn plan leases first left ++ from_commit drawn leases plan leases

abbrev pub from_counters : List ℕ → List Held → Plan → List Held → List Due
from_counters drawn leases plan left = raises leases left ++ from_notes drawn leases plan leases leases

abbrev pub from_prepares : List ℕ → List Held → Plan → List Held → List Put → List Due
from_prepares drawn leases plan first puts = prepared drawn leases first puts ++ early Fence ∷ from_counters drawn leases plan leases

-- all of a plan: the stores that prepare the change, made durable; the counters; the notes; the commit, made durable; the rest
abbrev pub dues_of : List ℕ → List Held → Plan → List Due
dues_of drawn leases plan = from_prepares drawn leases plan leases plan.prepares.items

-- What is left of a run: the action given last, the counter loaded last, what is still to be given, and whether a lease that was
-- taken away behind the commit has ended it.
pub record Running : Type 0 where
  pub asked : Option Due
  pub seen : ℕ
  pub left : List Due
  pub cut : Bool

abbrev pub judged : Option Due → Answer → ℕ → Verdict
judged None answer now = GoesOn
judged (Some d) answer now = judged_due d answer now

abbrev pub seen_after : Option Due → Answer → ℕ → ℕ
seen_after None answer seen = seen
seen_after (Some d) answer seen = counted d.deed answer seen

-- what comes next after this verdict, and what is left behind it
abbrev pub step_at : Verdict → ℕ → List Due → Step
step_at GoesOn seen [] = step.Done
step_at GoesOn seen (d ∷ left) = step.Act (action_of seen d.deed) (mark_of d.deed)
step_at (Taken addr word) seen left = step.Expired addr word
step_at (Refused addr) seen left = step.Damaged addr
step_at Ends seen left = step.Done

abbrev pub over : ℕ → Bool → Running
over seen cut = record { asked = None; seen = seen; left = []; cut = cut }

abbrev pub run_at : Verdict → ℕ → Bool → List Due → Running
run_at GoesOn seen cut [] = over seen cut
run_at GoesOn seen cut (d ∷ left) = record { asked = Some d; seen = seen; left = left; cut = cut }
run_at (Taken addr word) seen cut left = over seen cut
run_at (Refused addr) seen cut left = over seen cut
run_at Ends seen cut left = over seen true

-- the same of a run, with the answer to its last action at the tick `now`
abbrev pub step_of : Running → Answer → ℕ → Step
step_of run answer now = step_at (judged run.asked answer now) (seen_after run.asked answer run.seen) run.left

abbrev pub run_after : Running → Answer → ℕ → Running
run_after run answer now = run_at (judged run.asked answer now) (seen_after run.asked answer run.seen) run.cut run.left

-- a run that has given nothing yet
abbrev pub begun : List ℕ → List Held → Plan → Running
begun drawn leases plan = record { asked = None; seen = 0; left = dues_of drawn leases plan; cut = false }
