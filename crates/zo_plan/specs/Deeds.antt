-- The actions of a run: what each is, and what its answer makes of the run.
use Rattle.std.specs.Prelude.{ℕ, ◌+◌, ◌%◌, ◌^◌, Option, Some, None, if◌then◌else◌}
use Rattle.tr_types.specs.declared.action.Action.{Action}
use Rattle.tr_types.specs.declared.action.Action.TheVariants as action
use Rattle.tr_types.specs.declared.action.Answer.{Answer}
use Rattle.tr_types.specs.declared.action.Answer.TheVariants.{Word, Fault}
use Rattle.tr_types.specs.declared.entry.Mark.{Mark}
use Rattle.tr_types.specs.declared.entry.Mark.TheVariants as mark
use Rattle.zo_plan.specs.declared.deed.Deed.{Deed}
use Rattle.zo_plan.specs.declared.deed.Deed.TheVariants.{Store, Count, Raise, Look, Flush, Fence}
use Rattle.zo_plan.specs.declared.deed.Due.{Due}
use Rattle.zo_plan.specs.declared.deed.Verdict.{Verdict}
use Rattle.zo_plan.specs.declared.deed.Verdict.TheVariants.{GoesOn, Taken, Refused, Ends}
use Rattle.zo_plan.specs.Leases.{is_shown}

-- a counter raised by 1; it wraps
abbrev pub raised : ℕ → ℕ
raised counter = (counter + 1) % 2 ^ 64

-- the action, where the counter loaded last was `seen`
abbrev pub action_of : ℕ → Deed → Action
action_of seen (Store addr word mark) = action.Store addr word
action_of seen (Count addr) = action.Load addr
action_of seen (Raise addr) = action.Store addr (raised seen)
action_of seen (Look held) = action.Load held.lease
action_of seen (Flush addr) = action.Flush addr
action_of seen Fence = action.Fence

abbrev pub mark_of : Deed → Mark
mark_of (Store addr word mark) = mark
mark_of (Look held) = mark.Check
mark_of deed = mark.Plain

-- the address that it goes to
abbrev pub address_of : Deed → Option ℕ
address_of (Store addr word mark) = Some addr
address_of (Count addr) = Some addr
address_of (Raise addr) = Some addr
address_of (Look held) = Some held.lease
address_of (Flush addr) = Some addr
address_of Fence = None

-- the word that a load was answered; 0 for an answer that has none
abbrev pub word_in : Answer → ℕ
word_in (Word word) = word
word_in answer = 0

abbrev pub refused_at : Option ℕ → Verdict
refused_at (Some addr) = Refused addr
refused_at None = GoesOn

-- what an answer at the tick `now` makes of a run that has not committed yet: a refusal is damage, and a lease may show that it
-- was taken away
abbrev pub judged_early : Deed → Answer → ℕ → Verdict
judged_early deed (Fault kind) now = refused_at (address_of deed)
judged_early (Look held) answer now = if is_shown held answer now then GoesOn else Taken held.lease (word_in answer)
judged_early deed answer now = GoesOn

-- and behind the commit: a lease that was taken away or can't be loaded ends the run, and all else is passed over
abbrev pub judged_late : Deed → Answer → ℕ → Verdict
judged_late (Look held) answer now = if is_shown held answer now then GoesOn else Ends
judged_late deed answer now = GoesOn

abbrev pub judged_due : Due → Answer → ℕ → Verdict
judged_due d answer now = if d.late then judged_late d.deed answer now else judged_early d.deed answer now

-- the counter loaded last, where it was `seen` before this answer
abbrev pub counted : Deed → Answer → ℕ → ℕ
counted (Count addr) answer seen = word_in answer
counted deed answer seen = seen
