-- What the reader of scripts answers.
use Rattle.std.specs.Prelude.{◌≡◌, ◌≤◌, ℕ, ◌+◌, List, [], ◌∷◌, length, map, Option, None, Some, Result, Ok, Err, Bool, not, ◌&&◌, is_none, codes}
use Rattle.tr_types.specs.Fold.{Each}
use Rattle.tr_script.specs.Grammar.{Declared, declared, words_of, kept_lines, line_words, MayStand}
use Rattle.tr_script.specs.declared.reader.slots.First.{First}
use Rattle.tr_script.specs.declared.reader.slots.First.TheVariants as first
use Rattle.tr_script.specs.declared.reader.slots.Name.{Name}
use Rattle.tr_script.specs.declared.reader.slots.Name.TheVariants as name
use Rattle.tr_script.specs.Places.{Slot, IsBadAt}
use Rattle.tr_script.specs.declared.script.Line.{Line}
use Rattle.tr_script.specs.declared.reader.ScriptFault.{ScriptFault}
use Rattle.tr_script.specs.declared.reader.ScriptFault.TheVariants as answer
use Rattle.tr_script.specs.declared.reader.place.Place.{Place}
use Rattle.tr_script.specs.declared.reader.place.Fault.{Fault}
use Rattle.tr_script.specs.declared.reader.place.Fault.TheVariants.{Bad, NoMemory}

-- The fact holds of the place that is bad. Want of memory says nothing of the text.
abbrev pub OnBad : {T : Type 0} → Result T Fault → (Place → Type 0) → Type 0
OnBad (Ok x) P = Unit {0}
OnBad (Err (Bad place)) P = P place
OnBad (Err NoMemory) P = Unit {0}

-- the same of a fault alone
abbrev pub OnFault : Fault → (Place → Type 0) → Type 0
OnFault (Bad place) P = P place
OnFault NoMemory P = Unit {0}

-- the same of what a caller is told
abbrev pub OnBadLine : {T : Type 0} → Result T ScriptFault → (ℕ → ℕ → Type 0) → Type 0
OnBadLine (Ok x) P = Unit {0}
OnBadLine (Err (answer.BadLine line column)) P = P line column
OnBadLine (Err answer.NoMemory) P = Unit {0}

-- lines and columns are counted from 1
abbrev pub IsCountedFrom1 : ScriptFault → Type 0
IsCountedFrom1 (answer.BadLine line column) = (1 ≤ line) × (1 ≤ column)
IsCountedFrom1 answer.NoMemory = Unit {0}

-- the words of what is left of a line, none behind its last word
abbrev pub words_left : Option (List ℕ) → List (List ℕ)
words_left None = []
words_left (Some rest) = words_of rest

-- What is left of a line: its words, the column where the next one begins, or would begin behind one more space, and the
-- line's number.
pub record Left : Type 0 where
  pub words : List (List ℕ)
  pub column : ℕ
  pub line : ℕ

-- the column where the next word begins, from where what is left begins
abbrev pub next_column : Option (List ℕ) → ℕ → ℕ
next_column None column = column + 1
next_column (Some rest) column = column

-- the word was taken from what was left
abbrev pub Takes : Left → List ℕ → Left → Type 0
Takes left word after = (left.words ≡ word ∷ after.words) × (after.column ≡ left.column + length word + 1) × (after.line ≡ left.line)

-- the place is the first bad one of what is left, which has these places before it
abbrev pub IsBadOf : Declared → List Slot → Left → Place → Type 0
IsBadOf d slots left place = (place.line ≡ left.line) × IsBadAt d slots left.words left.column place.column

-- the next word is missing or bad
abbrev pub IsBadWord : Declared → Slot → Left → Place → Type 0
IsBadWord d slot left place = (slots : List Slot) → IsBadOf d (slot ∷ slots) left place

-- the length of what is left of a line, with the space before it
abbrev pub length_left : Option (List ℕ) → ℕ
length_left None = 0
length_left (Some rest) = length rest + 1

abbrev pub first_text : First → List ℕ
first_text first.Mkfs = codes "mkfs"
first_text first.Process = codes "process"
first_text first.Thread = codes "thread"
first_text first.Call = codes "call"
first_text first.Do = codes "do"
first_text first.Finish = codes "finish"
first_text first.Open = codes "open"
first_text first.Stray = codes "stray"

abbrev pub name_text : Name → List ℕ
name_text name.Create = codes "create"
name_text name.Stat = codes "stat"

-- whether a line may begin so
abbrev pub may_begin : Declared → First → Bool
may_begin d first.Mkfs = not d.begun
may_begin d first.Call = d.begun && is_none d.calling
may_begin d first.Do = d.begun && is_none d.calling
may_begin d first = d.begun

-- The kept lines of the text are the spellings of these lines, which keep to order below what was declared above.
pub record Reads (d : Declared) (text : List ℕ) (lines : List Line) : Type 0 where
  pub spelled : map words_of (kept_lines text) ≡ map line_words lines
  pub orderly : Each declared MayStand d lines
