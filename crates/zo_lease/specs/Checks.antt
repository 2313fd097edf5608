-- A look at a lease that the call holds.
use Rattle.std.specs.Prelude.{ℕ, if◌then◌else◌}
use Rattle.tr_types.specs.declared.action.Action.TheVariants as action
use Rattle.tr_types.specs.declared.entry.Mark.{Mark}
use Rattle.zo_lease.specs.declared.step.Heard.{Heard}
use Rattle.zo_lease.specs.declared.step.Heard.TheVariants as hears
use Rattle.zo_lease.specs.declared.step.LeaseStep.{LeaseStep}
use Rattle.zo_lease.specs.declared.step.LeaseStep.TheVariants as step
use Rattle.zo_lease.specs.declared.step.End.{End}
use Rattle.zo_lease.specs.declared.step.End.TheVariants as end
use Rattle.zo_lease.specs.declared.check.Check.{Check}
use Rattle.zo_lease.specs.declared.check.Stage.{Stage}
use Rattle.zo_lease.specs.declared.check.Stage.TheVariants as check
use Rattle.zo_lease.specs.Words.{is_kept}
use Rattle.zo_lease.specs.Steps.{end_step}

abbrev pub first_check : ℕ → ℕ → Mark → Check
first_check addr own mark = record { addr = addr; own = own; mark = mark; stage = check.Begin }

-- the lease is the call's own, or its own no longer
abbrev pub check_end : Check → ℕ → ℕ → End
check_end c word now = if is_kept c.own word now then end.Won 0 word else end.Expired c.addr word

abbrev pub check_at : Check → Stage → Heard → ℕ → Stage
check_at c check.Begin heard now = check.Looking
check_at c check.Looking (hears.Word word) now = check.Over (check_end c word now)
check_at c check.Looking heard now = check.Over (end.Damaged c.addr)
check_at c (check.Over end) heard now = check.Over end

abbrev pub check_after : Check → Heard → ℕ → Check
check_after c heard now = record { addr = c.addr; own = c.own; mark = c.mark; stage = check_at c c.stage heard now }

abbrev pub check_gives : Check → Stage → LeaseStep
check_gives c (check.Over end) = end_step end
check_gives c stage = step.Act (action.Load c.addr) c.mark

abbrev pub check_step : Check → LeaseStep
check_step c = check_gives c c.stage
