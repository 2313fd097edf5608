-- How names, modes, rights and the like are spelled: one word each, in scripts and in what is printed.
use Rattle.std.specs.Prelude.{ℕ, ◌+◌, ◌/◌, ◌%◌, List, [], ◌∷◌, ◌++◌, flat_map, Bool, true, false, if◌then◌else◌, ◌==◌, nat_lt, codes}
use Rattle.std.specs.Fmt.{decimal}
use Rattle.tr_types.specs.declared.action.FaultKind.{FaultKind}
use Rattle.tr_types.specs.declared.action.FaultKind.TheVariants.{NotMapped, NotWritable, KeyDenied}
use Rattle.tr_types.specs.declared.command.Kind.{Kind}
use Rattle.tr_types.specs.declared.command.Kind.TheVariants.{File, Dir}
use Rattle.tr_types.specs.declared.entry.CofferState.{CofferState}
use Rattle.tr_types.specs.declared.entry.CofferState.TheVariants as state
use Rattle.tr_types.specs.declared.entry.Mark.{Mark}
use Rattle.tr_types.specs.declared.entry.Mark.TheVariants as mark
use Rattle.tr_types.specs.declared.entry.Why.{Why}
use Rattle.tr_types.specs.declared.entry.Why.TheVariants as why
use Rattle.tr_types.specs.declared.permission.Right.{Right}

abbrev pub process_name : ℕ → List ℕ
process_name process = 112 ∷ decimal (process + 1)

abbrev pub thread_name : ℕ → List ℕ
thread_name thread = 116 ∷ decimal (thread + 1)

-- three octal digits
abbrev pub mode_text : ℕ → List ℕ
mode_text mode = (48 + mode / 64 % 8) ∷ (48 + mode / 8 % 8) ∷ (48 + mode % 8) ∷ []

-- 1 for yes, 0 for no
abbrev pub bit_text : Bool → List ℕ
bit_text true = codes "1"
bit_text false = codes "0"

-- decimal numbers with commas between them
abbrev pub list_text : List ℕ → List ℕ
list_text [] = []
list_text (number ∷ numbers) = decimal number ++ flat_map (λ n. 44 ∷ decimal n) numbers

abbrev pub kind_text : Kind → List ℕ
kind_text File = codes "file"
kind_text Dir = codes "dir"

abbrev pub right_text : Right → List ℕ
right_text right = if right.0 == 1 then codes "read" else (if right.0 == 2 then codes "write" else codes "own")

-- how a coffer is held: by one thread alone, or not
abbrev pub share_text : Bool → List ℕ
share_text true = codes "exclusive"
share_text false = codes "shared"

-- a hexadecimal digit in lower case
abbrev pub hex_digit : ℕ → ℕ
hex_digit n = if nat_lt n 10 then 48 + n else 87 + n

abbrev pub hex_byte : ℕ → List ℕ
hex_byte byte = hex_digit (byte / 16) ∷ hex_digit (byte % 16) ∷ []

-- two digits a byte, `-` for no bytes
abbrev pub data_text : List ℕ → List ℕ
data_text [] = codes "-"
data_text (byte ∷ bytes) = flat_map hex_byte (byte ∷ bytes)

abbrev pub fault_text : FaultKind → List ℕ
fault_text NotMapped = codes "unmapped"
fault_text NotWritable = codes "readonly"
fault_text KeyDenied = codes "key"

abbrev pub mark_text : Mark → List ℕ
mark_text mark.Plain = codes "plain"
mark_text mark.Open = codes "open"
mark_text mark.Close = codes "close"
mark_text mark.Take = codes "take"
mark_text mark.Note = codes "note"
mark_text mark.Check = codes "check"
mark_text mark.Point = codes "point"
mark_text mark.Commit = codes "commit"

-- why a line of a script was passed over
abbrev pub why_text : Why → List ℕ
why_text why.Dead = codes "dead"
why_text why.Running = codes "running"
why_text why.Sound = codes "sound"
why_text why.Down = codes "down"
why_text why.Up = codes "up"
why_text why.NotKernel = codes "notkernel"
why_text why.NoThread = codes "nothread"

abbrev pub state_text : CofferState → List ℕ
state_text state.Ready = codes "ready"
state_text state.Lost = codes "lost"
state_text state.Quarantined = codes "quarantined"
