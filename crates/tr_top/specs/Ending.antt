-- What the parts of the top call answer.
use Rattle.std.specs.Prelude.{◌≡◌, ℕ, List, Option}
use Rattle.std.specs.Io.KnownBytes.{Appends}
use Rattle.tr_outside.specs.Causes.{Rose}
use Rattle.tr_outside.specs.Whole.{AppendsFront}
use Rattle.tr_core.specs.declared.fault.CoreFault.{CoreFault}
use Rattle.tr_core.specs.declared.fault.CoreFault.TheVariants as fault
use Rattle.tr_top.specs.declared.stop.Stop.{Stop}
use Rattle.tr_top.specs.declared.stop.Stop.TheVariants as stop
use Rattle.tr_script.specs.declared.status.Status.{Status}
use Rattle.tr_script.specs.declared.status.Status.TheVariants.{Done, BadScript, ReadFault, WriteFault, NoMemory, Full}
use Rattle.tr_top.specs.Top.{ReadsNoScript}

-- why a run stops where its core refuses
abbrev pub stop_for : CoreFault → Stop
stop_for fault.Full = stop.Full
stop_for refused = stop.NoMemory

abbrev pub stop_status : Stop → Status
stop_status stop.Full = Full
stop_status stop.NoMemory = NoMemory
stop_status stop.OutFailed = WriteFault

-- why no script was read
abbrev pub IsRefusal : Option (List ℕ) → Option (List ℕ) → ℕ → ℕ → Status → Type 0
IsRefusal left rest before after ReadFault = Rose before after
IsRefusal left rest before after (BadScript line column) = ReadsNoScript left rest line column
IsRefusal left rest before after NoMemory = Unit {0}
IsRefusal left rest before after status = ⊥

-- what a sink took of the bytes of an image
abbrev pub IsSaved : Status → Option (List ℕ) → Option (List ℕ) → ℕ → ℕ → List ℕ → Type 0
IsSaved Done taken now before after bytes = Appends taken now bytes
IsSaved WriteFault taken now before after bytes = AppendsFront taken now bytes × Rose before after
IsSaved status taken now before after bytes = ⊥
