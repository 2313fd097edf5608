-- What the machines on leases give, and what they hear.
use Rattle.std.specs.Prelude.{ℕ}
use Rattle.tr_types.specs.declared.action.Action.TheVariants as action
use Rattle.tr_types.specs.declared.action.Answer.{Answer}
use Rattle.tr_types.specs.declared.action.Answer.TheVariants as answer
use Rattle.tr_types.specs.declared.entry.Mark.TheVariants as mark
use Rattle.zo_lease.specs.declared.step.LeaseStep.{LeaseStep}
use Rattle.zo_lease.specs.declared.step.LeaseStep.TheVariants as step
use Rattle.zo_lease.specs.declared.step.End.{End}
use Rattle.zo_lease.specs.declared.step.End.TheVariants as end
use Rattle.zo_lease.specs.declared.step.Heard.{Heard}
use Rattle.zo_lease.specs.declared.step.Heard.TheVariants as hears

abbrev pub load : ℕ → LeaseStep
load addr = step.Act (action.Load addr) mark.Plain

abbrev pub store : ℕ → ℕ → LeaseStep
store addr word = step.Act (action.Store addr word) mark.Plain

abbrev pub end_step : End → LeaseStep
end_step (end.Won value found) = step.Won value found
end_step (end.Busy addr word now) = step.Busy addr word now
end_step (end.Expired addr word) = step.Expired addr word
end_step (end.Damaged addr) = step.Damaged addr

abbrev pub heard : Answer → Heard
heard (answer.Word word) = hears.Word word
heard (answer.Fault kind) = hears.Refused
heard answer = hears.Done
