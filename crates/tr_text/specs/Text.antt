-- What the entries of a trace print: in full, and in brief.
use Rattle.std.specs.Prelude.{ℕ, ⊤, List, [], ◌∷◌, ◌++◌, flat_map, codes}
use Rattle.std.specs.Fmt.{decimal}
use Rattle.tr_types.specs.declared.entry.CofferRow.{CofferRow}
use Rattle.tr_types.specs.declared.entry.Entry.{Entry}
use Rattle.tr_types.specs.declared.entry.Entry.TheVariants as entry
use Rattle.tr_text.specs.Spelling.{thread_name}
use Rattle.tr_text.specs.Words.{reply_words, answer_words, pick_words, row_words, entry_words}

-- a space, and then the text
abbrev pub then_text : List ℕ → List ℕ
then_text text = 32 ∷ text

-- a space, and then the number
abbrev pub then_number : ℕ → List ℕ
then_number n = then_text (decimal n)

-- each word after a space
abbrev pub then_words : List (List ℕ) → List ℕ
then_words words = flat_map then_text words

-- a line of words with one space between them
abbrev pub line_text : List (List ℕ) → List ℕ
line_text [] = 10 ∷ []
line_text (first ∷ words) = first ++ then_words words ++ 10 ∷ []

-- a line for each coffer
abbrev pub rows_text : List CofferRow → List ℕ
rows_text rows = flat_map (λ row. line_text (row_words row)) rows

-- One entry in full: a line, and behind that of a list of coffers one for each of them.
abbrev pub full_text : Entry → List ℕ
full_text (entry.Coffers rows) = line_text (entry_words (entry.Coffers rows)) ++ rows_text rows
full_text e = line_text (entry_words e)

-- it tells how an action was answered
abbrev pub IsAnswered : Entry → Type 0
IsAnswered (entry.Act thread now mark action answer) = ⊤
IsAnswered (entry.Stray thread addr word answer) = ⊤
IsAnswered (entry.Wild thread now action answer) = ⊤
IsAnswered e = ⊥

-- a whole trace in full
abbrev pub full_texts : List Entry → List ℕ
full_texts trace = flat_map full_text trace

-- One entry in brief: a reply is a line of its thread and the reply, a stray store or a wild action one of its thread
-- and the answer, a crash that of its choice, and a list of coffers their lines. What ends a process or a recovery and
-- the other notes print what they print in full. What starts something, a call and its actions print nothing.
abbrev pub brief_text : Entry → List ℕ
brief_text (entry.Reply thread reply) = line_text (thread_name thread ∷ reply_words reply)
brief_text (entry.Stray thread addr word answer) = line_text (thread_name thread ∷ codes "stray" ∷ answer_words answer)
brief_text (entry.Wild thread now action answer) = line_text (thread_name thread ∷ codes "wild" ∷ answer_words answer)
brief_text (entry.Corrupt process) = line_text (entry_words (entry.Corrupt process))
brief_text (entry.Kill process) = line_text (entry_words (entry.Kill process))
brief_text (entry.Crash pick) = line_text (entry_words (entry.Crash pick))
brief_text (entry.CrashIn thread now kcall k pick) = line_text (codes "crash" ∷ pick_words pick)
brief_text (entry.Recovered ready quarantined) = line_text (entry_words (entry.Recovered ready quarantined))
brief_text (entry.Lost path) = line_text (entry_words (entry.Lost path))
brief_text (entry.Skip line why) = line_text (entry_words (entry.Skip line why))
brief_text (entry.Quarantine path) = line_text (entry_words (entry.Quarantine path))
brief_text (entry.Coffers rows) = rows_text rows
brief_text e = []

-- a whole trace in brief
abbrev pub brief_texts : List Entry → List ℕ
brief_texts trace = flat_map brief_text trace
