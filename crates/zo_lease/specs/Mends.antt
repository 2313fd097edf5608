-- What is done at an expired lease: the noted address is loaded, the line that it names is flushed where it isn't 0, and a fence is
-- made.
use Rattle.std.specs.Prelude.{ℕ, if◌then◌else◌, ◌==◌}
use Rattle.tr_types.specs.declared.action.Action.TheVariants as action
use Rattle.tr_types.specs.declared.entry.Mark.TheVariants as mark
use Rattle.zo_lease.specs.declared.step.Heard.{Heard}
use Rattle.zo_lease.specs.declared.step.Heard.TheVariants as hears
use Rattle.zo_lease.specs.declared.step.LeaseStep.{LeaseStep}
use Rattle.zo_lease.specs.declared.step.LeaseStep.TheVariants as step
use Rattle.zo_lease.specs.declared.mend.Mend.{Mend}
use Rattle.zo_lease.specs.declared.mend.Mend.TheVariants as mend
use Rattle.zo_lease.specs.declared.mend.Mending.{Mending}
use Rattle.zo_lease.specs.declared.mend.Mending.TheVariants as mending
use Rattle.zo_lease.specs.Words.{noted_word}
use Rattle.zo_lease.specs.Steps.{load}

abbrev pub mend_step : ℕ → Mend → LeaseStep
mend_step lease mend.Noted = load (noted_word lease)
mend_step lease (mend.Flush at) = step.Act (action.Flush at) mark.Plain
mend_step lease mend.Fence = step.Act action.Fence mark.Plain

-- whatever the flush and the fence are answered, they are over
abbrev pub mend_after : Mend → Heard → Mending
mend_after mend.Noted (hears.Word at) = mending.On (if at == 0 then mend.Fence else mend.Flush at)
mend_after mend.Noted heard = mending.Refused
mend_after (mend.Flush at) heard = mending.On mend.Fence
mend_after mend.Fence heard = mending.Done

-- how many actions it has made at most
abbrev pub mend_made : Mend → ℕ
mend_made mend.Noted = 0
mend_made (mend.Flush at) = 1
mend_made mend.Fence = 2
