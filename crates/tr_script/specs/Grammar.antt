-- Which texts are scripts. A text is a script exactly where its kept lines are, one by one, the spellings of a list
-- of lines that keeps to order and to what the lines above have declared.
use Rattle.std.specs.Prelude.{◌≡◌, ◌≢◌, ℕ, ◌+◌, ◌/◌, ◌%◌, ◌<◌, ◌≤◌, List, [], ◌∷◌, ◌++◌, length, map, filter, Contains, Bool, true, false, not, Option, Some, None, if◌then◌else◌, ◌==◌, codes}
use Rattle.std.specs.Fmt.{decimal}
use Rattle.tr_types.specs.Fold.{Each}
use Rattle.tr_types.specs.Permission.{no_groups}
use Rattle.tr_types.specs.declared.command.Command.{Command}
use Rattle.tr_types.specs.declared.limits.TheConstants.{PROCESSES, THREADS}
use Rattle.zo_model.specs.Commands.{IsCommand}
use Rattle.tr_text.specs.Spelling.{process_name, thread_name}
use Rattle.tr_text.specs.Words.{command_words}
use Rattle.tr_script.specs.declared.script.Line.{Line}
use Rattle.tr_script.specs.declared.script.Line.TheVariants.{Mkfs, Process, Thread, Call, Do, Finish, Open, Stray}

-- The lines and words of a text.

-- the pieces, with one more byte at the front of the first
abbrev pub in_front : ℕ → List (List ℕ) → List (List ℕ)
in_front byte [] = (byte ∷ []) ∷ []
in_front byte (piece ∷ pieces) = (byte ∷ piece) ∷ pieces

-- a line ends in a line feed; the last may lack it
abbrev pub lines_of : List ℕ → List (List ℕ)
lines_of [] = []
lines_of (byte ∷ text) = if byte == 10 then [] ∷ lines_of text else in_front byte (lines_of text)

-- words are separated by one space, so that two spaces make an empty word
abbrev pub words_of : List ℕ → List (List ℕ)
words_of [] = [] ∷ []
words_of (byte ∷ line) = if byte == 32 then [] ∷ words_of line else in_front byte (words_of line)

-- empty lines and lines that begin with `#` are passed over
abbrev pub is_kept : List ℕ → Bool
is_kept [] = false
is_kept (byte ∷ line) = not (byte == 35)

abbrev pub kept_lines : List ℕ → List (List ℕ)
kept_lines text = filter is_kept (lines_of text)

-- How a line is spelled, in words. Numbers are decimal with no leading zero.

abbrev pub line_words : Line → List (List ℕ)
line_words (Mkfs pages) = codes "mkfs" ∷ decimal pages ∷ []
line_words (Process process cred) = codes "process" ∷ process_name process ∷ decimal cred.uid ∷ decimal cred.gid ∷ []
line_words (Thread thread process) = codes "thread" ∷ thread_name thread ∷ process_name process ∷ []
line_words (Call thread command) = codes "call" ∷ thread_name thread ∷ command_words command
line_words (Do thread command) = codes "do" ∷ thread_name thread ∷ command_words command
line_words (Finish thread) = codes "finish" ∷ thread_name thread ∷ []
line_words (Open thread) = codes "open" ∷ thread_name thread ∷ []
line_words (Stray thread addr word) = codes "stray" ∷ thread_name thread ∷ decimal addr ∷ decimal word ∷ []

-- What the lines above have declared: whether there are any, the processes, the threads with their processes, and
-- the thread whose call was given by a `call` line with no `finish` line of the thread behind it.
pub record Declared : Type 0 where
  pub begun : Bool
  pub processes : List ℕ
  pub threads : List (ℕ × ℕ)
  pub calling : Option ℕ

abbrev pub nothing_declared : Declared
nothing_declared = record { begun = false; processes = []; threads = []; calling = None }

-- which call is open behind a `finish` line of the thread
abbrev pub calling_behind : ℕ → Option ℕ → Option ℕ
calling_behind thread None = None
calling_behind thread (Some caller) = if caller == thread then None else Some caller

abbrev pub declared : Declared → Line → Declared
declared d (Mkfs pages) = record { begun = true; processes = d.processes; threads = d.threads; calling = d.calling }
declared d (Process process cred) = record { begun = true; processes = d.processes ++ process ∷ []; threads = d.threads; calling = d.calling }
declared d (Thread thread process) = record { begun = true; processes = d.processes; threads = d.threads ++ (thread, process) ∷ []; calling = d.calling }
declared d (Call thread command) = record { begun = true; processes = d.processes; threads = d.threads; calling = Some thread }
declared d (Do thread command) = record { begun = true; processes = d.processes; threads = d.threads; calling = d.calling }
declared d (Finish thread) = record { begun = true; processes = d.processes; threads = d.threads; calling = calling_behind thread d.calling }
declared d (Open thread) = record { begun = true; processes = d.processes; threads = d.threads; calling = d.calling }
declared d (Stray thread addr word) = record { begun = true; processes = d.processes; threads = d.threads; calling = d.calling }

-- the thread was declared
abbrev pub IsThreadOf : Declared → ℕ → Type 0
IsThreadOf d thread = Contains (map (λ t. t.0) d.threads) thread

-- an address of a word in an image of the greatest size
abbrev pub IsScriptAddress : ℕ → Type 0
IsScriptAddress addr = (addr % 8 ≡ 0) × (addr ≤ 67108856)

-- The line may stand below such lines. The first is `mkfs`, and no other. Each process and each thread is declared
-- once, uid and gid are 0 for now. From a `call` line to the next `finish` line of its thread no further call is
-- given, and that thread doesn't stray.
abbrev pub MayStand : Declared → Line → Type 0
MayStand d (Mkfs pages) = (d.begun ≡ false) × (64 ≤ pages) × (pages ≤ 16384)
MayStand d (Process process cred) = (d.begun ≡ true) × (Contains d.processes process → ⊥) × (process < PROCESSES) × (cred.uid ≡ 0) × (cred.gid ≡ 0) × (cred.groups ≡ no_groups)
MayStand d (Thread thread process) = (d.begun ≡ true) × (IsThreadOf d thread → ⊥) × (thread < THREADS) × Contains d.processes process
MayStand d (Call thread command) = (d.begun ≡ true) × IsThreadOf d thread × IsCommand command × (d.calling ≡ None)
MayStand d (Do thread command) = (d.begun ≡ true) × IsThreadOf d thread × IsCommand command × (d.calling ≡ None)
MayStand d (Finish thread) = (d.begun ≡ true) × IsThreadOf d thread
MayStand d (Open thread) = (d.begun ≡ true) × IsThreadOf d thread
MayStand d (Stray thread addr word) = (d.begun ≡ true) × IsThreadOf d thread × (d.calling ≢ Some thread) × IsScriptAddress addr × (word ≤ 18446744073709551615)

-- the greatest length of a text in bytes
abbrev pub text_limit : ℕ
text_limit = 4194304

-- the text is a script of these lines
pub record IsScript (text : List ℕ) (lines : List Line) : Type 0 where
  pub size : length text ≤ text_limit
  pub spelled : map words_of (kept_lines text) ≡ map line_words lines
  pub orderly : Each declared MayStand nothing_declared lines
  pub some : 0 < length lines
