-- A line that may stand is nowhere bad, and a text has one first bad place.
use Rattle.std.proofs.Common.{zero, suc, get_or, if◌then◌else◌, ◌==◌, Err, ◌≡◌, ◌⊎◌, inl, inr, ℕ, ◌+◌, ◌<◌, ◌≤◌, true, false, List, [], ◌∷◌, map, filter, length, take, refl, ap, ◌∙◌, sym, subst, arith}
use Rattle.std.proofs.lemmas.Bool.{cond-true, cond-false, eq-eqb, ne_eqb, cases_lt}
use Rattle.std.proofs.lemmas.List.{take-take}
use Rattle.std.specs.Fmt.{decimal}
use Rattle.tr_types.specs.Fold.{Each}
use Rattle.tr_types.specs.declared.command.Command.{Command}
use Rattle.tr_types.specs.declared.command.Command.TheVariants.{Create, Stat}
use Rattle.zo_model.specs.Commands.{IsCommand}
use Rattle.tr_text.specs.Words.{command_words}
use Rattle.tr_script.specs.Grammar.{Declared, declared, nothing_declared, words_of, lines_of, is_kept, line_words, MayStand, text_limit, IsScript}
use Rattle.tr_text.specs.Spelling.{mode_text}
use Rattle.tr_script.specs.Places.{Slot, FirstWord, CommandWord, MayBe, slots_behind, IsBadAt, IsBadIn, IsEarlier, IsFirstOf, IsFirstBad, line_behind, column_behind}
use Rattle.tr_script.specs.Reading.{Reads, OnBad, OnFault}
use Rattle.tr_script.specs.declared.reader.place.Place.{Place}
use Rattle.tr_script.specs.declared.reader.place.Fault.{Fault}
use Rattle.tr_script.specs.declared.reader.place.Fault.TheVariants.{Bad, NoMemory}
use Rattle.tr_script.specs.declared.script.Line.{Line}
use Rattle.tr_script.specs.declared.script.Line.TheVariants.{Mkfs, Process, Thread, Call, Do, Finish, Open, Stray}
use Rattle.tr_script.proofs.SpellingLemmas.{decimal_zero}
use Rattle.tr_script.proofs.ReadingLemmas.{AreNamed, are_named_at_first, are_named_more, declared_begun, process_is_low, thread_is_low, same_line}

-- all words may stand at their places, and none is missing
abbrev pub IsGood : Declared → List Slot → List (List ℕ) → Type 0
IsGood d [] [] = Unit {0}
IsGood d [] (word ∷ words) = ⊥
IsGood d (slot ∷ slots) [] = ⊥
IsGood d (slot ∷ slots) (word ∷ words) = MayBe d slot word × IsGood d (slots_behind slot word slots) words

good_not_bad : (d : Declared) (slots : List Slot) (words : List (List ℕ)) (column bad : ℕ) → IsGood d slots words → IsBadAt d slots words column bad → ⊥
good_not_bad d [] [] column bad good is = is
good_not_bad d [] (word ∷ words) column bad good is = good
good_not_bad d (slot ∷ slots) [] column bad good is = good
good_not_bad d (slot ∷ slots) (word ∷ words) column bad good (inl none) = none.0 good.0
good_not_bad d (slot ∷ slots) (word ∷ words) column bad good (inr more) =
    good_not_bad d (slots_behind slot word slots) words (column + length word + 1) bad good.1 more.1

good_command : (d : Declared) (command : Command) → IsCommand command → IsGood d (CommandWord ∷ []) (command_words command)
good_command d (Create path mode) can = (inl refl, (can.0, (ap mode_text can.1, tt)))
good_command d (Stat path) can = (inr (inl refl), (can, tt))

good_line : (d : Declared) → AreNamed d → (l : Line) → MayStand d l → IsGood d (FirstWord ∷ []) (line_words l)
good_line d named (Mkfs pages) may = (inl (refl, may.0), ((pages, refl, may.1, may.2), tt))
good_line d named (Process process cred) may =
    (inr (inl (inl refl, may.0)), ((process, refl, may.2, may.1), (ap decimal may.3 ∙ decimal_zero, (ap decimal may.4 ∙ decimal_zero, tt))))
good_line d named (Thread thread process) may =
    (inr (inl (inr (inl refl), may.0)), ((thread, refl, may.2, may.1), ((process, refl, process_is_low d process named may.3, may.3), tt)))
good_line d named (Call thread command) may =
    (inr (inr (inl refl, may.0, may.3)), ((thread, refl, thread_is_low d thread named may.1, may.1), good_command d command may.2))
good_line d named (Do thread command) may =
    (inr (inr (inr (inl refl), may.0, may.3)), ((thread, refl, thread_is_low d thread named may.1, may.1), good_command d command may.2))
good_line d named (Finish thread) may = (inr (inl (inr (inr (inl refl)), may.0)), ((thread, refl, thread_is_low d thread named may.1, may.1), tt))
good_line d named (Open thread) may = (inr (inl (inr (inr (inr (inl refl))), may.0)), ((thread, refl, thread_is_low d thread named may.1, may.1), tt))
good_line d named (Stray thread addr word) may =
    (inr (inl (inr (inr (inr (inr (inl refl)))), may.0)), ((thread, refl, thread_is_low d thread named may.1, may.1, may.2), ((addr, refl, may.3), ((word, refl, may.4), tt))))

-- words that are bad spell no line that may stand
bad_spells_none : (d : Declared) → AreNamed d → (words : List (List ℕ)) (column bad : ℕ) (l : Line) → MayStand d l → words ≡ line_words l
    → IsBadAt d (FirstWord ∷ []) words column bad → ⊥
bad_spells_none d named words column bad l may spelled is =
    good_not_bad d (FirstWord ∷ []) (line_words l) column bad (good_line d named l may) (subst (λ (w : List (List ℕ)). IsBadAt d (FirstWord ∷ []) w column bad) spelled is)

-- A line has one first bad column.
one_column : (d : Declared) (slots : List Slot) (words : List (List ℕ)) (column m n : ℕ) → IsBadAt d slots words column m → IsBadAt d slots words column n → m ≡ n
one_column d [] [] column m n is_m is_n = absurd is_m
one_column d [] (word ∷ words) column m n is_m is_n = is_m ∙ sym is_n
one_column d (slot ∷ slots) [] column m n is_m is_n = is_m ∙ sym is_n
one_column d (slot ∷ slots) (word ∷ words) column m n (inl a) (inl b) = a.1 ∙ sym b.1
one_column d (slot ∷ slots) (word ∷ words) column m n (inl a) (inr b) = absurd (a.0 b.0)
one_column d (slot ∷ slots) (word ∷ words) column m n (inr a) (inl b) = absurd (b.0 a.0)
one_column d (slot ∷ slots) (word ∷ words) column m n (inr a) (inr b) =
    one_column d (slots_behind slot word slots) words (column + length word + 1) m n a.1 b.1

no_kept : {A : Type 0} (bytes : List ℕ) → is_kept bytes ≡ false → is_kept bytes ≡ true → A
no_kept bytes passed kept = absurd (let no : false ≡ true = sym passed ∙ kept in cc)

-- Lines have one first bad place.
one_place_in : (d : Declared) → AreNamed d → (lines : List (List ℕ)) (number l c l2 c2 : ℕ) → IsBadIn d lines number l c → IsBadIn d lines number l2 c2
    → (l ≡ l2) × (c ≡ c2)
one_place_in d named [] number l c l2 c2 a b = (a.1 ∙ sym b.1, a.2 ∙ sym b.2)
one_place_in d named (bytes ∷ rest) number l c l2 c2 (inl a) (inl b) = one_place_in d named rest (number + 1) l c l2 c2 a.1 b.1
one_place_in d named (bytes ∷ rest) number l c l2 c2 (inl a) (inr (inl b)) = no_kept bytes a.0 b.0
one_place_in d named (bytes ∷ rest) number l c l2 c2 (inl a) (inr (inr b)) = no_kept bytes a.0 b.0
one_place_in d named (bytes ∷ rest) number l c l2 c2 (inr (inl a)) (inl b) = no_kept bytes b.0 a.0
one_place_in d named (bytes ∷ rest) number l c l2 c2 (inr (inr a)) (inl b) = no_kept bytes b.0 a.0
one_place_in d named (bytes ∷ rest) number l c l2 c2 (inr (inl a)) (inr (inl b)) =
    (a.1 ∙ sym b.1, one_column d (FirstWord ∷ []) (words_of bytes) 1 c c2 a.2 b.2)
one_place_in d named (bytes ∷ rest) number l c l2 c2 (inr (inl a)) (inr (inr (kept, (line, words, may, b)))) =
    absurd (bad_spells_none d named (words_of bytes) 1 c line may words a.2)
one_place_in d named (bytes ∷ rest) number l c l2 c2 (inr (inr (kept, (line, words, may, a)))) (inr (inl b)) =
    absurd (bad_spells_none d named (words_of bytes) 1 c2 line may words b.2)
one_place_in d named (bytes ∷ rest) number l c l2 c2 (inr (inr (kept, (line, words, may, a)))) (inr (inr (kept2, (line2, words2, may2, b)))) =
    let same = same_line d named line2 line may2 may (sym words2 ∙ words) in
    one_place_in (declared d line) (are_named_more d line named may) rest (number + 1) l c l2 c2 a
    (subst (λ (other : Line). IsBadIn (declared d other) rest (number + 1) l2 c2) same b)

kept_not_nothing : (bytes : List ℕ) (rest : List (List ℕ)) → is_kept bytes ≡ true → map words_of (filter is_kept (bytes ∷ rest)) ≡ [] → ⊥
kept_not_nothing bytes rest kept spelled =
    let front = ap (map words_of) (cond-true (is_kept bytes) (bytes ∷ filter is_kept rest) (filter is_kept rest) kept) in
    let no : words_of bytes ∷ map words_of (filter is_kept rest) ≡ [] = sym front ∙ spelled in cc

-- Lines that are bad read as no lines, if at all.
bad_reads_nothing : (d : Declared) → AreNamed d → (lines : List (List ℕ)) (number l c : ℕ) (all : List Line)
    → map words_of (filter is_kept lines) ≡ map line_words all → Each declared MayStand d all → IsBadIn d lines number l c → (d.begun ≡ false) × (all ≡ [])
bad_reads_nothing d named [] number l c [] spelled orderly bad = (bad.0, refl)
bad_reads_nothing d named [] number l c (first ∷ more) spelled orderly bad = absurd (let no : [] ≡ line_words first ∷ map line_words more = spelled in cc)
bad_reads_nothing d named (bytes ∷ rest) number l c all spelled orderly (inl bad) =
    let passed = cond-false (is_kept bytes) (bytes ∷ filter is_kept rest) (filter is_kept rest) bad.0 in
    bad_reads_nothing d named rest (number + 1) l c all (sym (ap (map words_of) passed) ∙ spelled) orderly bad.1
bad_reads_nothing d named (bytes ∷ rest) number l c [] spelled orderly (inr (inl bad)) = absurd (kept_not_nothing bytes rest bad.0 spelled)
bad_reads_nothing d named (bytes ∷ rest) number l c [] spelled orderly (inr (inr bad)) = absurd (kept_not_nothing bytes rest bad.0 spelled)
bad_reads_nothing d named (bytes ∷ rest) number l c (first ∷ more) spelled orderly (inr (inl bad)) =
    let front = ap (map words_of) (cond-true (is_kept bytes) (bytes ∷ filter is_kept rest) (filter is_kept rest) bad.0) in
    let both : words_of bytes ∷ map words_of (filter is_kept rest) ≡ line_words first ∷ map line_words more = sym front ∙ spelled in
    let words : words_of bytes ≡ line_words first = cc in
    absurd (bad_spells_none d named (words_of bytes) 1 c first orderly.0 words bad.2)
bad_reads_nothing d named (bytes ∷ rest) number l c (first ∷ more) spelled orderly (inr (inr (kept, (line, words, may, bad)))) =
    let front = ap (map words_of) (cond-true (is_kept bytes) (bytes ∷ filter is_kept rest) (filter is_kept rest) kept) in
    let both : words_of bytes ∷ map words_of (filter is_kept rest) ≡ line_words first ∷ map line_words more = sym front ∙ spelled in
    let firsts : words_of bytes ≡ line_words first = cc in
    let rests : map words_of (filter is_kept rest) ≡ map line_words more = cc in
    let same = same_line d named line first may orderly.0 (sym words ∙ firsts) in
    let next = bad_reads_nothing (declared d first) (are_named_more d first named orderly.0) rest (number + 1) l c more rests orderly.1
    (subst (λ (other : Line). IsBadIn (declared d other) rest (number + 1) l c) same bad) in
    absurd (let no : true ≡ false = sym (declared_begun d first) ∙ next.0 in cc)

pub bad_is_no_script : (text : List ℕ) (l c : ℕ) (lines : List Line) → IsBadIn nothing_declared (lines_of text) 1 l c → IsScript text lines → ⊥
bad_is_no_script text l c lines bad script =
    let none = bad_reads_nothing nothing_declared are_named_at_first (lines_of text) 1 l c lines script.spelled script.orderly bad in
    let some = subst (λ (ls : List Line). 0 < length ls) none.1 script.some in
    omega arith

pub first_bad_is_no_script : (text : List ℕ) (l c : ℕ) (lines : List Line) → IsFirstBad text l c → IsScript text lines → ⊥
first_bad_is_no_script text l c lines (inl bad) script = bad_is_no_script text l c lines bad.1 script
first_bad_is_no_script text l c lines (inr bad) script = let size = script.size in let over = bad.0 in omega arith

-- what reads as lines is nowhere bad
pub read_is_not_bad : (text : List ℕ) (l c : ℕ) (lines : List Line) → 0 < length lines → Reads nothing_declared text lines
    → IsBadIn nothing_declared (lines_of text) 1 l c → ⊥
read_is_not_bad text l c lines some reads bad =
    let none = bad_reads_nothing nothing_declared are_named_at_first (lines_of text) 1 l c lines reads.spelled reads.orderly bad in
    let more = subst (λ (ls : List Line). 0 < length ls) none.1 some in
    omega arith

pub one_place : (text : List ℕ) (l c l2 c2 : ℕ) → IsBadIn nothing_declared (lines_of text) 1 l c → IsBadIn nothing_declared (lines_of text) 1 l2 c2
    → (l ≡ l2) × (c ≡ c2)
one_place text = one_place_in nothing_declared are_named_at_first (lines_of text) 1

one_first : (text : List ℕ) (line column l c l2 c2 : ℕ) → IsFirstOf text line column l c → IsFirstOf text line column l2 c2 → (l ≡ l2) × (c ≡ c2)
one_first text line column l c l2 c2 (inl a) (inl b) = one_place text l c l2 c2 a.0 b.0
one_first text line column l c l2 c2 (inl a) (inr b) = absurd (b.2 l c a)
one_first text line column l c l2 c2 (inr a) (inl b) = absurd (a.2 l2 c2 b)
one_first text line column l c l2 c2 (inr a) (inr b) = (a.0 ∙ sym b.0, a.1 ∙ sym b.1)

pub one_first_bad : (text : List ℕ) (l c l2 c2 : ℕ) → IsFirstBad text l c → IsFirstBad text l2 c2 → (l ≡ l2) × (c ≡ c2)
one_first_bad text l c l2 c2 (inl a) (inl b) = one_place text l c l2 c2 a.1 b.1
one_first_bad text l c l2 c2 (inl a) (inr b) = absurd (let in_limit = a.0 in let over = b.0 in omega arith)
one_first_bad text l c l2 c2 (inr a) (inl b) = absurd (let in_limit = b.0 in let over = a.0 in omega arith)
one_first_bad text l c l2 c2 (inr a) (inr b) =
    one_first (take (text_limit + 1) text) (line_behind 1 (take text_limit text)) (column_behind 1 (take text_limit text)) l c l2 c2 a.1 b.1

-- The place behind one more byte of a text.
pub line_at_feed : (text : List ℕ) (i line : ℕ) → i < length text → get_or text i 0 ≡ 10 → line_behind line (take (suc i) text) ≡ line_behind line (take i text) + 1
line_at_feed [] i line inside feed = absurd (omega arith)
line_at_feed (byte ∷ text) zero line inside feed = cond-true (byte == 10) (line + 1) line (eq-eqb byte 10 feed)
line_at_feed (byte ∷ text) (suc i) line inside feed = line_at_feed text i (if byte == 10 then line + 1 else line) (omega arith) feed

pub line_at_other : (text : List ℕ) (i line : ℕ) → i < length text → (get_or text i 0 ≡ 10 → ⊥) → line_behind line (take (suc i) text) ≡ line_behind line (take i text)
line_at_other [] i line inside other = absurd (omega arith)
line_at_other (byte ∷ text) zero line inside other = cond-false (byte == 10) (line + 1) line (ne_eqb byte 10 other)
line_at_other (byte ∷ text) (suc i) line inside other = line_at_other text i (if byte == 10 then line + 1 else line) (omega arith) other

pub column_at_feed : (text : List ℕ) (i column : ℕ) → i < length text → get_or text i 0 ≡ 10 → column_behind column (take (suc i) text) ≡ 1
column_at_feed [] i column inside feed = absurd (omega arith)
column_at_feed (byte ∷ text) zero column inside feed = cond-true (byte == 10) 1 (column + 1) (eq-eqb byte 10 feed)
column_at_feed (byte ∷ text) (suc i) column inside feed = column_at_feed text i (if byte == 10 then 1 else column + 1) (omega arith) feed

pub column_at_other : (text : List ℕ) (i column : ℕ) → i < length text → (get_or text i 0 ≡ 10 → ⊥)
    → column_behind column (take (suc i) text) ≡ column_behind column (take i text) + 1
column_at_other [] i column inside other = absurd (omega arith)
column_at_other (byte ∷ text) zero column inside other = cond-false (byte == 10) 1 (column + 1) (ne_eqb byte 10 other)
column_at_other (byte ∷ text) (suc i) column inside other = column_at_other text i (if byte == 10 then 1 else column + 1) (omega arith) other

-- one place is before another, or it isn't
earlier_or_not : (l c l2 c2 : ℕ) → IsEarlier l c l2 c2 ⊎ (IsEarlier l c l2 c2 → ⊥)
earlier_or_not l c l2 c2 = by (cases_lt l l2)
  where
    columns : l ≡ l2 → (c < c2) ⊎ (c2 ≤ c) → IsEarlier l c l2 c2 ⊎ (IsEarlier l c l2 c2 → ⊥)
    columns same (inl low) = inl (inr (same, low))
    columns same (inr high) = inr (λ e. elim e [ inl low ↦ omega arith | inr both ↦ (let low = both.1 in omega arith) ])

    lines : l2 ≤ l → (l2 < l) ⊎ (l ≤ l2) → IsEarlier l c l2 c2 ⊎ (IsEarlier l c l2 c2 → ⊥)
    lines above (inl high) = inr (λ e. elim e [ inl low ↦ omega arith | inr both ↦ (let same = both.0 in omega arith) ])
    lines above (inr low) = columns (omega arith) (cases_lt c c2)

    by : (l < l2) ⊎ (l2 ≤ l) → IsEarlier l c l2 c2 ⊎ (IsEarlier l c l2 c2 → ⊥)
    by (inl low) = inl (inl low)
    by (inr above) = lines above (cases_lt l2 l)

-- the earlier one of a bad place of the text and of this one
pub first_of_two : (text : List ℕ) (place limit result : Place) (line column : ℕ) → limit.line ≡ line → limit.column ≡ column
    → IsBadIn nothing_declared (lines_of text) 1 place.line place.column
    → (IsEarlier place.line place.column limit.line limit.column → result ≡ place) → ((IsEarlier place.line place.column limit.line limit.column → ⊥) → result ≡ limit)
    → IsFirstOf text line column result.line result.column
first_of_two text place limit result line column lines columns bad before behind = by (earlier_or_not place.line place.column line column)
  where
    by : IsEarlier place.line place.column line column ⊎ (IsEarlier place.line place.column line column → ⊥) → IsFirstOf text line column result.line result.column
    by (inl early) =
        let is = before (subst (λ (l : ℕ). IsEarlier place.line place.column l limit.column) (sym lines) (subst (λ (c : ℕ). IsEarlier place.line place.column line c) (sym columns) early)) in
        subst (λ (p : Place). IsFirstOf text line column p.line p.column) (sym is) (inl (bad, early))
    by (inr late) =
        let is = behind (λ e. late (subst (λ (l : ℕ). IsEarlier place.line place.column l column) lines (subst (λ (c : ℕ). IsEarlier place.line place.column limit.line c) columns e))) in
        subst (λ (p : Place). IsFirstOf text line column p.line p.column) (sym is)
        (inr (
          lines,
          columns,
          λ l c other.
              let same = one_place text l c place.line place.column other.0 bad in
              late (subst (λ (n : ℕ). IsEarlier n place.column line column) same.0 (subst (λ (n : ℕ). IsEarlier l n line column) same.1 other.1)),
        ))

-- of a text over the limit, the first byte past it is the last that is looked at
pub over_limit : (text : List ℕ) (fault : Fault) → text_limit < length text
    → OnFault fault (λ place. IsFirstOf (take (text_limit + 1) text) (line_behind 1 (take text_limit (take (text_limit + 1) text)))
    (column_behind 1 (take text_limit (take (text_limit + 1) text))) place.line place.column)
    → OnBad {T = ℕ} (Err fault) (λ place. IsFirstBad text place.line place.column)
over_limit text NoMemory over first = tt
over_limit text (Bad place) over first =
    let same = take-take text_limit (text_limit + 1) text (omega arith) in
    inr (over, subst (λ (t : List ℕ). IsFirstOf (take (text_limit + 1) text) (line_behind 1 t) (column_behind 1 t) place.line place.column) same first)

-- what holds of a fault that is this place holds of the place
pub on_fault_at : (P : Place → Type 0) (fault : Fault) (place : Place) → fault ≡ Bad place → OnFault fault P → P place
on_fault_at P fault place is first = subst (λ (f : Fault). OnFault f P) is first
