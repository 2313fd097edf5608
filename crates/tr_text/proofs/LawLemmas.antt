-- The text of an entry is read back, so that two with one text differ only in what it doesn't show.
use Rattle.std.proofs.Common.{◌≡◌, ℕ, ◌-◌, List, [], ◌∷◌, ◌++◌, length, map, take, true, not, eqb, refl, ap, sym, ◌∙◌, append_assoc, arith}
use Rattle.std.proofs.lemmas.Bool.{and_from}
use Rattle.std.proofs.lemmas.List.{append_cancel_left, take-append-le, take_all}
use Rattle.std.proofs.lemmas.List.Folds.{list_all-append}
use Rattle.std.specs.Fmt.{decimal}
use Rattle.std.specs.List.{AllByRecursion}
use Rattle.std.specs.Prelude.{⊤, Some, None, codes, replicate}
use Rattle.tr_types.specs.Permission.{group_ids, groups_of}
use Rattle.tr_types.specs.Shown.{shown}
use Rattle.tr_types.specs.declared.action.Answer.{Answer}
use Rattle.tr_types.specs.declared.action.Answer.TheVariants as answer
use Rattle.tr_types.specs.declared.entry.CofferRow.{CofferRow}
use Rattle.tr_types.specs.declared.entry.Entry.{Entry}
use Rattle.tr_types.specs.declared.entry.Entry.TheVariants as entry
use Rattle.tr_types.specs.declared.kernel_call.KernAnswer.{KernAnswer}
use Rattle.tr_types.specs.declared.kernel_call.KernAnswer.TheVariants as kern
use Rattle.tr_text.specs.Spelling.{process_name, thread_name, mark_text}
use Rattle.tr_text.specs.Text.{then_words, line_text, rows_text, full_text, full_texts}
use Rattle.tr_text.specs.Words.{action_words, kern_words, answer_words, groups_words, row_words, entry_words}
use Rattle.tr_text.specs.Written.{IsWrittenRow, IsWritten, shown_answer, shown_entry, FullTextLaw, FullTextsLaw}
use Rattle.tr_text.proofs.Reading.{parts_at, number_at, read_row, read_words, read_lines, read_text}
use Rattle.tr_text.proofs.SplitLemmas.{lacks, part_before, words_of_line}
use Rattle.tr_text.proofs.WordLemmas.{plain_lacks, number_read}
use Rattle.tr_text.proofs.PlainLemmas.{ArePlain, row_plain, entry_plain}
use Rattle.tr_text.proofs.ReadLemmas.{row_read, entry_read}

words_lack : (words : List (List ℕ)) → ArePlain words → lacks 10 (then_words words) ≡ true
words_lack [] plain = refl
words_lack (word ∷ words) plain =
    list_all-append (λ byte. not (eqb byte 10)) word (then_words words) ∙ and_from (lacks 10 word) (lacks 10 (then_words words)) (plain_lacks 10 (omega arith) word plain.0) (words_lack words plain.1)

line_lacks : (first : List ℕ) (rest : List (List ℕ)) → ArePlain (first ∷ rest) → lacks 10 (first ++ then_words rest) ≡ true
line_lacks first rest plain =
    list_all-append (λ byte. not (eqb byte 10)) first (then_words rest) ∙ and_from (lacks 10 first) (lacks 10 (then_words rest)) (plain_lacks 10 (omega arith) first plain.0) (words_lack rest plain.1)

no_blanks : (words : List (List ℕ)) → ArePlain words → AllByRecursion (λ word. lacks 32 word ≡ true) words
no_blanks [] plain = tt
no_blanks (word ∷ words) plain = (plain_lacks 32 (omega arith) word plain.0, no_blanks words plain.1)

line_words : (first : List ℕ) (rest : List (List ℕ)) → ArePlain (first ∷ rest) → parts_at 32 (first ++ then_words rest) ≡ first ∷ rest
line_words first rest plain = words_of_line first rest (plain_lacks 32 (omega arith) first plain.0) (no_blanks rest plain.1)

-- the rows that the lines behind a first one with these words give
abbrev rows_behind : List (List ℕ) → List ℕ → List CofferRow
rows_behind words more = map (λ row. read_row (parts_at 32 row)) (take (number_at 1 words) (parts_at 10 more))

-- a text whose first line has these words
line_read : (first : List ℕ) (rest : List (List ℕ)) (more : List ℕ) → ArePlain (first ∷ rest)
    → read_text (first ++ then_words rest ++ 10 ∷ more) ≡ read_words (rows_behind (first ∷ rest) more) (first ∷ rest)
line_read first rest more plain =
    ap read_lines (part_before 10 (first ++ then_words rest) more (line_lacks first rest plain))
    ∙ ap (λ (words : List (List ℕ)). read_words (rows_behind words more) words) (line_words first rest plain)

abbrev HasFirst : List (List ℕ) → Type 0
HasFirst [] = ⊥
HasFirst (first ∷ rest) = ⊤

one_line : (words : List (List ℕ)) (more : List ℕ) → HasFirst words → ArePlain words → read_text (line_text words ++ more) ≡ read_words (rows_behind words more) words
one_line [] more some plain = absurd some
one_line (first ∷ rest) more some plain = ap read_text (append_assoc (first ++ then_words rest) (10 ∷ []) more) ∙ line_read first rest more plain

-- The lines of coffers.

abbrev row_line : List (List ℕ) → List ℕ
row_line [] = []
row_line (first ∷ rest) = first ++ then_words rest

line_of_row : (row : CofferRow) (more : List ℕ) → IsWrittenRow row → parts_at 10 (line_text (row_words row) ++ more) ≡ row_line (row_words row) ∷ parts_at 10 more
line_of_row row more is = at (row_words row) tt (row_plain row is)
  where
    at : (words : List (List ℕ)) → HasFirst words → ArePlain words → parts_at 10 (line_text words ++ more) ≡ row_line words ∷ parts_at 10 more
    at [] some plain = absurd some
    at (first ∷ rest) some plain = ap (parts_at 10) (append_assoc (first ++ then_words rest) (10 ∷ []) more) ∙ part_before 10 (first ++ then_words rest) more (line_lacks first rest plain)

words_of_row : (row : CofferRow) → IsWrittenRow row → read_row (parts_at 32 (row_line (row_words row))) ≡ row
words_of_row row is = ap read_row (at (row_words row) tt (row_plain row is)) ∙ row_read row is
  where
    at : (words : List (List ℕ)) → HasFirst words → ArePlain words → parts_at 32 (row_line words) ≡ words
    at [] some plain = absurd some
    at (first ∷ rest) some plain = line_words first rest plain

rows_read : (rows : List CofferRow) (more : List ℕ) → AllByRecursion IsWrittenRow rows → map (λ row. read_row (parts_at 32 row)) (take (length rows) (parts_at 10 (rows_text rows ++ more))) ≡ rows
rows_read [] more all = refl
rows_read (row ∷ rows) more all =
    ap (λ (lines : List (List ℕ)). map (λ line. read_row (parts_at 32 line)) (take (length (row ∷ rows)) lines))
    (ap (parts_at 10) (append_assoc (line_text (row_words row)) (rows_text rows) more) ∙ line_of_row row (rows_text rows ++ more) all.0)
    ∙ (λ i. words_of_row row all.0 i ∷ rows_read rows more all.1 i)

coffers_read : (rows : List CofferRow) (more : List ℕ) → IsWritten (entry.Coffers rows) → read_text (full_text (entry.Coffers rows) ++ more) ≡ entry.Coffers rows
coffers_read rows more is =
    ap read_text (append_assoc (line_text (entry_words (entry.Coffers rows))) (rows_text rows) more)
    ∙ one_line (entry_words (entry.Coffers rows)) (rows_text rows ++ more) tt (entry_plain (entry.Coffers rows) is)
    ∙ ap (λ (count : ℕ). entry.Coffers (map (λ row. read_row (parts_at 32 row)) (take count (parts_at 10 (rows_text rows ++ more))))) (number_read (length rows) is.0)
    ∙ ap entry.Coffers (rows_read rows more is.1)

-- An entry is read back from a text that begins with its own.
reads : (e : Entry) (more : List ℕ) → IsWritten e → read_text (full_text e ++ more) ≡ shown_entry e
reads (entry.Coffers rows) more is = coffers_read rows more is
reads e more is = one_line (entry_words e) more tt (entry_plain e is) ∙ entry_read e (rows_behind (entry_words e) more) is

-- What isn't shown isn't in the text.

same_kern : (k : KernAnswer) → kern_words (shown k) ≡ kern_words k
same_kern kern.Done = refl
same_kern kern.Same = refl
same_kern (kern.Found first None) = refl
same_kern (kern.Found first (Some second)) = refl
same_kern (kern.Mapped mapped) = refl
same_kern (kern.Made id) = refl
same_kern (kern.Pages pages) = refl
same_kern (kern.Denied right id path_len) = refl
same_kern (kern.Quarantined id path_len) = refl
same_kern (kern.InUse thread id path_len) = refl
same_kern (kern.NoKey id path_len) = refl
same_kern k = refl

same_answer : (a : Answer) → answer_words (shown_answer a) ≡ answer_words a
same_answer (answer.Kern k) = same_kern k
same_answer a = refl

same_groups : (ids : List ℕ) → group_ids (groups_of ids) ≡ ids
same_groups ids = take-append-le (length ids) ids (replicate (16 - length ids) 0) (omega arith) ∙ take_all (length ids) ids (omega arith)

-- the text of what is shown is the text
same_text_shown : (e : Entry) → full_text (shown_entry e) ≡ full_text e
same_text_shown (entry.Process process cred) = ap (λ (ids : List ℕ). line_text (codes "new" ∷ process_name process ∷ decimal cred.uid ∷ decimal cred.gid ∷ groups_words ids)) (same_groups (group_ids cred.groups))
same_text_shown (entry.Act thread now mark action answer) = ap (λ (words : List (List ℕ)). line_text (thread_name thread ∷ decimal now ∷ mark_text mark ∷ action_words action ++ codes "=" ∷ words)) (same_answer answer)
same_text_shown (entry.Stray thread addr word answer) = ap (λ (words : List (List ℕ)). line_text (thread_name thread ∷ codes "stray" ∷ decimal addr ∷ decimal word ∷ codes "=" ∷ words)) (same_answer answer)
same_text_shown (entry.Wild thread now action answer) = ap (λ (words : List (List ℕ)). line_text (thread_name thread ∷ codes "wild" ∷ decimal now ∷ action_words action ++ codes "=" ∷ words)) (same_answer answer)
same_text_shown e = refl

pub full_text_tells : FullTextLaw
full_text_tells one other written also same =
    sym (reads one [] written) ∙ ap (λ (text : List ℕ). read_text (text ++ [])) same ∙ reads other [] also

-- Traces.

line_some : (words : List (List ℕ)) (more : List ℕ) → line_text words ++ more ≡ [] → ⊥
line_some [] more none = cc
line_some (first ∷ rest) more none = at (first ++ then_words rest) none
  where
    at : (line : List ℕ) → line ++ 10 ∷ [] ++ more ≡ [] → ⊥
    at [] none = cc
    at (byte ∷ line) none = cc

text_some : (e : Entry) (more : List ℕ) → full_text e ++ more ≡ [] → ⊥
text_some (entry.Coffers rows) more none = line_some (entry_words (entry.Coffers rows)) (rows_text rows ++ more) (sym (append_assoc (line_text (entry_words (entry.Coffers rows))) (rows_text rows) more) ∙ none)
text_some e more none = line_some (entry_words e) more none

pub full_texts_tell : FullTextsLaw
full_texts_tell [] [] written also same = refl
full_texts_tell [] (f ∷ other) written also same = absurd (text_some f (full_texts other) (sym same))
full_texts_tell (e ∷ one) [] written also same = absurd (text_some e (full_texts one) same)
full_texts_tell (e ∷ one) (f ∷ other) written also same =
    let first = sym (reads e (full_texts one) written.0) ∙ ap read_text same ∙ reads f (full_texts other) also.0 in
    let text = sym (same_text_shown e) ∙ ap full_text first ∙ same_text_shown f in
    let rest = append_cancel_left (full_text f) (full_texts one) (full_texts other) (ap (λ (t : List ℕ). t ++ full_texts one) (sym text) ∙ same) in
    λ i. first i ∷ full_texts_tell one other written.1 also.1 rest i
