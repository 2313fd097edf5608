-- Which place of a text is the first at which no script goes on so. A line is read word by word against a table that
-- says which words may stand at a kind of place, and which kinds of place are then still to come.
use Rattle.std.specs.Prelude.{◌≡◌, ◌≢◌, ◌⊎◌, ℕ, ◌+◌, ◌-◌, ◌<◌, ◌≤◌, List, [], ◌∷◌, ◌++◌, length, take, Contains, true, false, Some, None, if◌then◌else◌, ◌==◌, bytes_eq, codes}
use Rattle.std.specs.Fmt.{decimal}
use Rattle.tr_types.specs.declared.limits.TheConstants.{PROCESSES, THREADS}
use Rattle.zo_model.specs.Commands.{IsPath, IsPathOfOne}
use Rattle.tr_script.specs.Grammar.{Declared, declared, nothing_declared, words_of, lines_of, is_kept, line_words, MayStand, IsThreadOf, IsScriptAddress, text_limit}
use Rattle.tr_text.specs.Spelling.{process_name, thread_name, mode_text}
use Rattle.tr_script.specs.declared.script.Line.{Line}

-- A kind of place in a line. `New` is declared there, `Known` was declared above.
pub data Slot : Type 0 where
  FirstWord : Slot
  Size : Slot
  NewProcess : Slot
  -- a uid or a gid, 0 alone for now
  Zero : Slot
  NewThread : Slot
  KnownProcess : Slot
  KnownThread : Slot
  StrayThread : Slot
  CommandWord : Slot
  -- a path of one name, which a file can have
  FilePath : Slot
  AnyPath : Slot
  -- 666 alone for now
  FileMode : Slot
  Address : Slot
  Number : Slot

abbrev pub IsOneOf : List (List ℕ) → List ℕ → Type 0
IsOneOf [] word = ⊥
IsOneOf (name ∷ names) word = (word ≡ name) ⊎ IsOneOf names word

-- A line may begin so: the first line with `mkfs` alone, each other with any other word, but none gives a call while
-- a call is open.
abbrev pub MayBegin : Declared → List ℕ → Type 0
MayBegin d word =
    ((word ≡ codes "mkfs") × (d.begun ≡ false))
    ⊎ (IsOneOf (codes "process" ∷ codes "thread" ∷ codes "finish" ∷ codes "open" ∷ codes "stray" ∷ []) word × (d.begun ≡ true))
    ⊎ (IsOneOf (codes "call" ∷ codes "do" ∷ []) word × (d.begun ≡ true) × (d.calling ≡ None))

-- Which words may stand at a place, below lines that have declared this.
abbrev pub MayBe : Declared → Slot → List ℕ → Type 0
MayBe d FirstWord word = MayBegin d word
MayBe d Size word = (pages : ℕ) × (word ≡ decimal pages) × (64 ≤ pages) × (pages ≤ 16384)
MayBe d NewProcess word = (process : ℕ) × (word ≡ process_name process) × (process < PROCESSES) × (Contains d.processes process → ⊥)
MayBe d Zero word = word ≡ codes "0"
MayBe d NewThread word = (thread : ℕ) × (word ≡ thread_name thread) × (thread < THREADS) × (IsThreadOf d thread → ⊥)
MayBe d KnownProcess word = (process : ℕ) × (word ≡ process_name process) × (process < PROCESSES) × Contains d.processes process
MayBe d KnownThread word = (thread : ℕ) × (word ≡ thread_name thread) × (thread < THREADS) × IsThreadOf d thread
MayBe d StrayThread word = (thread : ℕ) × (word ≡ thread_name thread) × (thread < THREADS) × IsThreadOf d thread × (d.calling ≢ Some thread)
MayBe d CommandWord word = IsOneOf (codes "create" ∷ codes "stat" ∷ []) word
MayBe d FilePath word = IsPathOfOne word
MayBe d AnyPath word = IsPath word
MayBe d FileMode word = word ≡ mode_text 438
MayBe d Address word = (addr : ℕ) × (word ≡ decimal addr) × IsScriptAddress addr
MayBe d Number word = (number : ℕ) × (word ≡ decimal number) × (number ≤ 18446744073709551615)

-- the rest of a line behind its first word, and of a command behind its name
abbrev pub line_table : List (List ℕ × List Slot)
line_table =
    (codes "mkfs", Size ∷ [])
    ∷ (codes "process", NewProcess ∷ Zero ∷ Zero ∷ [])
    ∷ (codes "thread", NewThread ∷ KnownProcess ∷ [])
    ∷ (codes "call", KnownThread ∷ CommandWord ∷ [])
    ∷ (codes "do", KnownThread ∷ CommandWord ∷ [])
    ∷ (codes "finish", KnownThread ∷ [])
    ∷ (codes "open", KnownThread ∷ [])
    ∷ (codes "stray", StrayThread ∷ Address ∷ Number ∷ [])
    ∷ []

abbrev pub command_table : List (List ℕ × List Slot)
command_table = (codes "create", FilePath ∷ FileMode ∷ []) ∷ (codes "stat", AnyPath ∷ []) ∷ []

abbrev pub row_of : List (List ℕ × List Slot) → List ℕ → List Slot
row_of [] word = []
row_of ((name, slots) ∷ table) word = if bytes_eq word name then slots else row_of table word

-- which places are still to come behind a word at a place, where these were to come behind the place
abbrev pub slots_behind : Slot → List ℕ → List Slot → List Slot
slots_behind FirstWord word slots = row_of line_table word ++ slots
slots_behind CommandWord word slots = row_of command_table word ++ slots
slots_behind slot word slots = slots

-- Words with these places before them, the first of which begins at this column of its line, or would begin behind
-- one more space, are bad first at that column: at a word too many, at the byte behind the line's last one where a word is
-- missing, or at the first word that may not stand.
abbrev pub IsBadAt : Declared → List Slot → List (List ℕ) → ℕ → ℕ → Type 0
IsBadAt d [] [] column bad = ⊥
IsBadAt d [] (word ∷ words) column bad = bad ≡ column
IsBadAt d (slot ∷ slots) [] column bad = bad ≡ column - 1
IsBadAt d (slot ∷ slots) (word ∷ words) column bad =
    ((MayBe d slot word → ⊥) × (bad ≡ column))
    ⊎ (MayBe d slot word × IsBadAt d (slots_behind slot word slots) words (column + length word + 1) bad)

-- Lines of which the first has this number, below lines that have declared this, are bad first at that line and column:
-- in the first kept line that is bad, or at the line behind the last where no line of the whole text is kept.
abbrev pub IsBadIn : Declared → List (List ℕ) → ℕ → ℕ → ℕ → Type 0
IsBadIn d [] number line column = (d.begun ≡ false) × (line ≡ number) × (column ≡ 1)
IsBadIn d (bytes ∷ rest) number line column =
    ((is_kept bytes ≡ false) × IsBadIn d rest (number + 1) line column)
    ⊎ ((is_kept bytes ≡ true) × (line ≡ number) × IsBadAt d (FirstWord ∷ []) (words_of bytes) 1 column)
    ⊎ ((is_kept bytes ≡ true) × ((l : Line) × (words_of bytes ≡ line_words l) × MayStand d l × IsBadIn (declared d l) rest (number + 1) line column))

-- the line and the column of the byte behind a text, where the text begins at this line and column
abbrev pub line_behind : ℕ → List ℕ → ℕ
line_behind line [] = line
line_behind line (byte ∷ text) = line_behind (if byte == 10 then line + 1 else line) text

abbrev pub column_behind : ℕ → List ℕ → ℕ
column_behind column [] = column
column_behind column (byte ∷ text) = column_behind (if byte == 10 then 1 else column + 1) text

abbrev pub IsEarlier : ℕ → ℕ → ℕ → ℕ → Type 0
IsEarlier line column line2 column2 = (line < line2) ⊎ ((line ≡ line2) × (column < column2))

-- a bad place of the text, before this one
abbrev pub IsBadBefore : List ℕ → ℕ → ℕ → ℕ → ℕ → Type 0
IsBadBefore text line2 column2 line column = IsBadIn nothing_declared (lines_of text) 1 line column × IsEarlier line column line2 column2

-- this place, unless the text is bad before it
abbrev pub IsFirstOf : List ℕ → ℕ → ℕ → ℕ → ℕ → Type 0
IsFirstOf text line2 column2 line column =
    IsBadBefore text line2 column2 line column
    ⊎ ((line ≡ line2) × (column ≡ column2) × ((l c : ℕ) → IsBadBefore text line2 column2 l c → ⊥))

-- The first bad place of a text. A text over the limit is bad at its first byte past it, unless it is bad before.
abbrev pub IsFirstBad : List ℕ → ℕ → ℕ → Type 0
IsFirstBad text line column =
    ((length text ≤ text_limit) × IsBadIn nothing_declared (lines_of text) 1 line column)
    ⊎ ((text_limit < length text)
    × IsFirstOf (take (text_limit + 1) text) (line_behind 1 (take text_limit text)) (column_behind 1 (take text_limit text)) line column)
