-- How a run ends: the exit code of the program, and what it says of it.
use Rattle.std.specs.Prelude.{ℕ, List, [], ◌++◌, codes}
use Rattle.std.specs.Fmt.{decimal}
use Rattle.tr_script.specs.declared.status.Status.{Status}
use Rattle.tr_script.specs.declared.status.Status.TheVariants.{Done, Usage, BadScript, ReadFault, WriteFault, NoMemory, Full}

abbrev pub exit_code : Status → ℕ
exit_code Done = 0
exit_code Usage = 2
exit_code (BadScript line column) = 4
exit_code ReadFault = 5
exit_code WriteFault = 6
exit_code NoMemory = 7
exit_code Full = 8

-- nothing is said of a run that ended well
abbrev pub status_text : Status → List ℕ
status_text Done = []
status_text Usage = codes "zofs: usage"
status_text (BadScript line column) = codes "zofs: bad script at " ++ decimal line ++ codes ":" ++ decimal column
status_text ReadFault = codes "zofs: read fault"
status_text WriteFault = codes "zofs: write fault"
status_text NoMemory = codes "zofs: no memory"
status_text Full = codes "zofs: trace full"
