-- When a call must come to its end.
use Rattle.std.specs.Prelude.{◌≡◌, ℕ, ◌-◌, ◌<◌, ◌≤◌, ◌^◌, List, length, Some}
use Rattle.tr_types.specs.declared.entry.Entry.{Entry}
use Rattle.tr_script.specs.declared.status.Status.{Status}
use Rattle.tr_script.specs.declared.status.Status.TheVariants.{Done, Full, NoMemory}
use Rattle.tr_script.specs.declared.script.Line.{Line}
use Rattle.tr_top.specs.Along.{IsAtEnd}
use Rattle.tr_core.specs.declared.limits.TheConstants.{TRACE_LIMIT}
use Rattle.tr_top.specs.Run.{place_after}
use Rattle.tr_script.specs.Grammar.{IsScript}
use Rattle.tr_top.specs.declared.teller.Detail.{Detail}
use Rattle.tr_top.specs.Top.{Outside, IsAnswered, IsForm, ReadsScript}

-- no fault was counted: each count is what it was, and wasn't at the counter's last value
pub record NoFault (before after : Outside) : Type 0 where
  pub script : (after.script_faults ≡ before.script_faults) × (before.script_faults < 2 ^ 64 - 1)
  pub out : (after.sinks.out_faults ≡ before.sinks.out_faults) × (before.sinks.out_faults < 2 ^ 64 - 1)
  pub saved : (after.sinks.saved_faults ≡ before.sinks.saved_faults) × (before.sinks.saved_faults < 2 ^ 64 - 1)

-- the script was run to its end, or memory ran out, or the trace is full and a further entry of the script is due
abbrev pub EndsWell : Outside → Outside → Status → List Entry → Type 0
EndsWell before after Done trace = Unit {0}
EndsWell before after NoMemory trace = Unit {0}
EndsWell before after Full trace =
    (lines : List Line) × ReadsScript before.script_left after.script_left lines × (TRACE_LIMIT ≤ length trace) × (IsAtEnd (place_after lines trace) → ⊥)
EndsWell before after status trace = ⊥

-- Where the words are the form, the source's bytes are known and are a script, and no fault is counted, what the top call
-- says of its end is that it ended well.
abbrev pub Completes : Type 0
Completes = (words : List (List ℕ)) (detail : Detail) (before after : Outside) (status : Status) (trace : List Entry) (text : List ℕ) (lines : List Line)
    → IsAnswered words before after status trace → IsForm words detail → before.script_left ≡ Some text → IsScript text lines → NoFault before after → EndsWell before after status trace
