-- What the top call has done, by the status that it answers.
use Rattle.std.specs.Prelude.{◌≡◌, ◌↔◌, ◌⊎◌, ℕ, ◌+◌, ◌≤◌, List, [], ◌∷◌, length, Option, codes}
use Rattle.std.specs.Io.KnownBytes.{Appends, Consumes, IsAtEnd as IsAtEndOfBytes}
use Rattle.tr_types.specs.declared.entry.Entry.{Entry}
use Rattle.tr_outside.specs.Causes.{Rose}
use Rattle.tr_outside.specs.ImageBytes.{image_bytes}
use Rattle.tr_outside.specs.Whole.{AppendsFront, ReadsUpTo}
use Rattle.tr_script.specs.declared.script.Line.{Line}
use Rattle.tr_script.specs.declared.status.Status.{Status}
use Rattle.tr_script.specs.declared.status.Status.TheVariants as status
use Rattle.tr_script.specs.declared.status.Status.TheVariants.{Done, Usage, BadScript, ReadFault, WriteFault, NoMemory}
use Rattle.tr_script.specs.Grammar.{IsScript, text_limit}
use Rattle.tr_script.specs.Places.{IsFirstBad}
use Rattle.tr_top.specs.Along.{IsAtEnd}
use Rattle.tr_top.specs.Telling.{texts}
use Rattle.tr_top.specs.declared.teller.Detail.{Detail}
use Rattle.tr_top.specs.declared.teller.Detail.TheVariants.{Brief, Full}
use Rattle.tr_core.specs.declared.limits.TheConstants.{TRACE_LIMIT}
use Rattle.tr_top.specs.Run.{IsRun, place_after, last_words}

-- What the sinks tell at a moment: the bytes that each took, where they are known, and its count of faults.
pub record Sinks : Type 0 where
  pub out_written : Option (List ℕ)
  pub out_faults : ℕ
  pub saved_written : Option (List ℕ)
  pub saved_faults : ℕ

-- What all sources and sinks tell: of the script source, the bytes that it has left, where they are known.
pub record Outside : Type 0 where
  pub image_left : Option (List ℕ)
  pub image_faults : ℕ
  pub script_left : Option (List ℕ)
  pub script_faults : ℕ
  pub sinks : Sinks

-- what `out` and `saved` have taken, and their faults
abbrev pub sinks_of : Option (List ℕ) → ℕ → Option (List ℕ) → ℕ → Sinks
sinks_of out out_faults saved saved_faults = record { out_written = out; out_faults = out_faults; saved_written = saved; saved_faults = saved_faults }

-- what the sources of the image and of the script tell, and the sinks
abbrev pub outside_of : Option (List ℕ) → ℕ → Option (List ℕ) → ℕ → Sinks → Outside
outside_of image image_faults script script_faults sinks = record { image_left = image; image_faults = image_faults; script_left = script; script_faults = script_faults; sinks = sinks }

-- The forms of the command line: `run` prints a run in brief, `trace` in full.
abbrev pub IsForm : List (List ℕ) → Detail → Type 0
IsForm words Brief = words ≡ codes "run" ∷ []
IsForm words Full = words ≡ codes "trace" ∷ []

-- `out` takes the text of the whole trace, or a front of it
abbrev pub Prints : Detail → Sinks → Sinks → List Entry → Type 0
Prints detail before after trace = Appends before.out_written after.out_written (texts detail trace)

abbrev pub PrintsFront : Detail → Sinks → Sinks → List Entry → Type 0
PrintsFront detail before after trace = AppendsFront before.out_written after.out_written (texts detail trace)

-- `saved` takes nothing; or the image of the last words, or a front of it
abbrev pub SavesNothing : Sinks → Sinks → Type 0
SavesNothing before after = (after.saved_written ≡ before.saved_written) × (after.saved_faults ≡ before.saved_faults)

abbrev pub Saves : Sinks → Sinks → List Line → List Entry → Type 0
Saves before after lines trace = Appends before.saved_written after.saved_written (image_bytes (last_words lines trace))

abbrev pub SavesFront : Sinks → Sinks → List Line → List Entry → Type 0
SavesFront before after lines trace = AppendsFront before.saved_written after.saved_written (image_bytes (last_words lines trace))

-- the script was run to its end
pub record IsDone (detail : Detail) (before after : Sinks) (lines : List Line) (trace : List Entry) : Type 0 where
  pub run : IsRun lines trace
  pub ended : IsAtEnd (place_after lines trace)
  pub out : Prints detail before after trace
  pub saved : Saves before after lines trace

-- the trace is full, and a further entry is due
pub record IsFull (detail : Detail) (before after : Sinks) (lines : List Line) (trace : List Entry) : Type 0 where
  pub run : IsRun lines trace
  pub full : TRACE_LIMIT ≤ length trace
  pub due : IsAtEnd (place_after lines trace) → ⊥
  pub out : Prints detail before after trace
  pub saved : SavesNothing before after

-- memory ran out in the run
pub record IsCutShort (detail : Detail) (before after : Sinks) (lines : List Line) (trace : List Entry) : Type 0 where
  pub run : IsRun lines trace
  pub out : PrintsFront detail before after trace
  pub saved : SavesNothing before after

-- `out` failed
pub record IsUnprinted (detail : Detail) (before after : Sinks) (lines : List Line) (trace : List Entry) : Type 0 where
  pub run : IsRun lines trace
  pub cause : Rose before.out_faults after.out_faults
  pub out : PrintsFront detail before after trace
  pub saved : SavesNothing before after

-- `saved` failed, after the script was run to its end
pub record IsUnsaved (detail : Detail) (before after : Sinks) (lines : List Line) (trace : List Entry) : Type 0 where
  pub run : IsRun lines trace
  pub ended : IsAtEnd (place_after lines trace)
  pub cause : Rose before.saved_faults after.saved_faults
  pub out : Prints detail before after trace
  pub saved : SavesFront before after lines trace

-- how a run ends, and what the sinks took, by the status; the others come before a run
abbrev pub RunEnds : Detail → Sinks → Sinks → List Line → Status → List Entry → Type 0
RunEnds detail before after lines Done trace = IsDone detail before after lines trace
RunEnds detail before after lines status.Full trace = IsFull detail before after lines trace
RunEnds detail before after lines NoMemory trace = IsCutShort detail before after lines trace
RunEnds detail before after lines WriteFault trace = IsUnprinted detail before after lines trace ⊎ IsUnsaved detail before after lines trace
RunEnds detail before after lines Usage trace = ⊥
RunEnds detail before after lines (BadScript line column) trace = ⊥
RunEnds detail before after lines ReadFault trace = ⊥

-- the script is what all bytes that the source had left say
pub record ReadsScript (left rest : Option (List ℕ)) (lines : List Line) : Type 0 where
  pub text : List ℕ
  pub read : Consumes left rest text
  pub end : IsAtEndOfBytes rest
  pub script : IsScript text lines

-- the text is no script: all bytes that the source had left, or one more than a script may have; and this is its first
-- bad place
pub record ReadsNoScript (left rest : Option (List ℕ)) (line column : ℕ) : Type 0 where
  pub text : List ℕ
  pub read : ReadsUpTo (text_limit + 1) left rest text
  pub none : (lines : List Line) → IsScript text lines → ⊥
  pub place : IsFirstBad text line column

-- no run began: the trace is empty, and nothing was written
pub record BeginsNothing (before after : Sinks) (trace : List Entry) : Type 0 where
  pub empty : trace ≡ []
  pub sinks : after ≡ before

-- a script was read, and its run ended so, told as the words ask for
abbrev pub Runs : List (List ℕ) → Outside → Outside → Status → List Entry → Type 0
Runs words before after status trace =
    (detail : Detail) × IsForm words detail × (lines : List Line) × ReadsScript before.script_left after.script_left lines × RunEnds detail before.sinks after.sinks lines status trace

-- What the call has done that ended with a status and a trace.
abbrev pub Ends : List (List ℕ) → Outside → Outside → Status → List Entry → Type 0
Ends words before after Usage trace = BeginsNothing before.sinks after.sinks trace × (after.script_left ≡ before.script_left) × (after.script_faults ≡ before.script_faults)
Ends words before after (BadScript line column) trace = BeginsNothing before.sinks after.sinks trace × ReadsNoScript before.script_left after.script_left line column
Ends words before after ReadFault trace =
    BeginsNothing before.sinks after.sinks trace × Rose before.script_faults after.script_faults
Ends words before after NoMemory trace = BeginsNothing before.sinks after.sinks trace ⊎ Runs words before after NoMemory trace
Ends words before after Done trace = Runs words before after Done trace
Ends words before after status.Full trace = Runs words before after status.Full trace
Ends words before after WriteFault trace = Runs words before after WriteFault trace

-- counts of faults never fall
pub record CountsStay (before after : Outside) : Type 0 where
  pub script : before.script_faults ≤ after.script_faults
  pub out : before.sinks.out_faults ≤ after.sinks.out_faults
  pub saved : before.sinks.saved_faults ≤ after.sinks.saved_faults

-- The top clause: of the command line's words, what the outside told before and after, the status and the trace.
-- The words are looked at first, then the script, then it is run.
pub record IsAnswered (words : List (List ℕ)) (before after : Outside) (status : Status) (trace : List Entry) : Type 0 where
  pub image_left : after.image_left ≡ before.image_left
  pub image_faults : after.image_faults ≡ before.image_faults
  pub usage : (status ≡ Usage) ↔ ((detail : Detail) → IsForm words detail → ⊥)
  pub counts : CountsStay before after
  pub ends : Ends words before after status trace
