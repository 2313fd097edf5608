-- What a call gives, whatever it is answered: loads, stores, exchanges on its own leases, flushes, fences, and a call for one page
-- or two of its coffer; each with a mark that fits.
use Rattle.std.specs.Prelude.{◌≡◌, ◌⊎◌, ℕ, ◌≤◌, Bool, false}
use Rattle.tr_types.specs.declared.action.Action.{Action}
use Rattle.tr_types.specs.declared.action.Action.TheVariants as action
use Rattle.tr_types.specs.declared.entry.Mark.{Mark}
use Rattle.tr_types.specs.declared.entry.Mark.TheVariants.{Plain, Take, Note, Check, Point, Commit}
use Rattle.tr_types.specs.declared.kernel_call.Kcall.{Kcall}
use Rattle.tr_types.specs.declared.kernel_call.Kcall.TheVariants.{Enlarge}
use Rattle.zo_lease.specs.declared.step.LeaseStep.{LeaseStep}
use Rattle.zo_lease.specs.declared.step.LeaseStep.TheVariants as lease_step
use Rattle.zo_calls.specs.declared.caller.Caller.{Caller}
use Rattle.zo_calls.specs.declared.step.OpStep.{OpStep}
use Rattle.zo_calls.specs.declared.step.OpStep.TheVariants as step
use Rattle.zo_calls.specs.Places.{IsLeaseOf}

-- the marks of loads, of stores and of exchanges

abbrev pub MarksLoad : Mark → Type 0
MarksLoad Plain = Unit {0}
MarksLoad Check = Unit {0}
MarksLoad Point = Unit {0}
MarksLoad mark = ⊥

abbrev pub MarksStore : Mark → Type 0
MarksStore Plain = Unit {0}
MarksStore Note = Unit {0}
MarksStore Commit = Unit {0}
MarksStore mark = ⊥

abbrev pub MarksCas : Mark → Type 0
MarksCas Plain = Unit {0}
MarksCas Take = Unit {0}
MarksCas mark = ⊥

-- one page or two are asked for, of the coffer that the call has mapped
abbrev pub MayAsk : Caller → Kcall → Type 0
MayAsk caller (Enlarge id count) = (id ≡ caller.mapped.id) × (1 ≤ count) × (count ≤ 2)
MayAsk caller call = ⊥

abbrev pub MayAct : Caller → Action → Mark → Type 0
MayAct caller (action.Load addr) mark = MarksLoad mark
MayAct caller (action.Store addr word) mark = MarksStore mark
MayAct caller (action.Cas addr old new) mark = IsLeaseOf caller addr × MarksCas mark
MayAct caller (action.Flush addr) mark = mark ≡ Plain
MayAct caller action.Fence mark = mark ≡ Plain
MayAct caller (action.Pkru word) mark = ⊥
MayAct caller (action.Kernel call) mark = MayAsk caller call × (mark ≡ Plain)

-- a step that a machine on a lease gives
abbrev pub LeaseMay : Caller → LeaseStep → Type 0
LeaseMay caller (lease_step.Act action mark) = MayAct caller action mark
LeaseMay caller step = Unit {0}

-- a coffer is never asked for exclusively
abbrev pub IsStep : Caller → OpStep → Type 0
IsStep caller (step.Act action mark) = MayAct caller action mark
IsStep caller (step.Over reply) = Unit {0}
IsStep caller (step.Elsewhere path right exclusive) = exclusive ≡ false
