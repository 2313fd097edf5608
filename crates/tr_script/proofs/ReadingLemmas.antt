-- Reading a text goes on line by line.
use Rattle.std.proofs.Common.{◌≡◌, ℕ, ◌+◌, ◌^◌, ◌<◌, true, false, List, [], ◌∷◌, ◌++◌, map, filter, arith, refl, ap, ◌∙◌, sym, subst, append_assoc, append-nil, length, length-append, take, bytes_eq, inl, inr, ◌⊎◌, ◌==◌, All, Contains, Result, Ok, Err, IsErrAnd}
use Rattle.std.proofs.lemmas.Bool.{cond-true, cond-false, eqb-true}
use Rattle.std.proofs.lemmas.List.Elements.{All-nil, All-push, All-map, All-contains}
use Rattle.std.proofs.lemmas.Cmp.{nat_list_eq_equiv}
use Rattle.std.proofs.lemmas.Fmt.{decimal_injective}
use Rattle.std.specs.Fmt.{decimal}
use Rattle.tr_types.specs.declared.command.Command.{Command}
use Rattle.tr_types.specs.declared.command.Command.TheVariants.{Create, Stat}
use Rattle.tr_text.specs.Words.{command_words}
use Rattle.tr_script.specs.Grammar.{Declared, declared, nothing_declared, words_of, lines_of, is_kept, kept_lines, line_words, MayStand, IsThreadOf}
use Rattle.zo_model.specs.Commands.{IsCommand}
use Rattle.tr_script.specs.Places.{FirstWord, IsBadAt, IsBadIn}
use Rattle.tr_script.specs.Reading.{OnBad, Reads}
use Rattle.tr_script.specs.declared.reader.place.Place.{Place}
use Rattle.tr_script.specs.declared.reader.place.Fault.{Fault}
use Rattle.tr_script.specs.declared.reader.place.Fault.TheVariants.{Bad, NoMemory}
use Rattle.tr_script.specs.declared.script.Line.{Line}
use Rattle.tr_script.specs.declared.script.Line.TheVariants.{Mkfs, Process, Thread, Call, Do, Finish, Open, Stray}

pub kept_lines_passed : (text line after : List ℕ) → lines_of text ≡ line ∷ lines_of after → is_kept line ≡ false → kept_lines text ≡ kept_lines after
kept_lines_passed text line after lines passed = ap (filter is_kept) lines ∙ cond-false (is_kept line) _ _ passed

pub kept_lines_kept : (text line after : List ℕ) → lines_of text ≡ line ∷ lines_of after → is_kept line ≡ true → kept_lines text ≡ line ∷ kept_lines after
kept_lines_kept text line after lines kept = ap (filter is_kept) lines ∙ cond-true (is_kept line) _ _ kept

-- a text that keeps the same lines
pub reads_same : (d : Declared) (text after : List ℕ) (lines : List Line) → kept_lines text ≡ kept_lines after → Reads d after lines → Reads d text lines
reads_same d text after lines same reads = record { spelled = ap (map words_of) same ∙ reads.spelled; orderly = reads.orderly }

pub reads_more : (d : Declared) (text line after : List ℕ) (l : Line) (more : List Line) → kept_lines text ≡ line ∷ kept_lines after
    → words_of line ≡ line_words l → MayStand d l → Reads (declared d l) after more → Reads d text (l ∷ more)
reads_more d text line after l more kept words may reads =
    record { spelled = ap (map words_of) kept ∙ (λ i. words i ∷ reads.spelled i); orderly = (may, reads.orderly) }

-- Words spell one line.

same_number : (m n : ℕ) → m < 2 ^ 64 → n < 2 ^ 64 → decimal m ≡ decimal n → m ≡ n
same_number m n small_m small_n same = decimal_injective m n (omega arith) (omega arith) same

same_name : (letter m n : ℕ) → m < 256 → n < 256 → letter ∷ decimal (m + 1) ≡ letter ∷ decimal (n + 1) → m ≡ n
same_name letter m n small_m small_n same =
    let digits : decimal (m + 1) ≡ decimal (n + 1) = cc in
    let next = same_number (m + 1) (n + 1) (omega arith) (omega arith) digits in
    omega arith

same_command : (a b : Command) → IsCommand a → IsCommand b → command_words a ≡ command_words b → a ≡ b
same_command (Create path mode) (Create other mode2) can_a can_b same =
    let paths : path ≡ other = cc in
    let modes : mode ≡ mode2 = can_a.1 ∙ sym can_b.1 in
    λ i. Create (paths i) (modes i)
same_command (Create path mode) (Stat other) can_a can_b same = cc
same_command (Stat path) (Create other mode) can_a can_b same = cc
same_command (Stat path) (Stat other) can_a can_b same = let paths : path ≡ other = cc in ap Stat paths

-- what was declared has numbers that names have
pub record AreNamed (d : Declared) : Type 0 where
  pub processes : All (λ process. process < 64) d.processes
  pub threads : All (λ t. t.0 < 256) d.threads

pub are_named_at_first : AreNamed nothing_declared
are_named_at_first = record { processes = All-nil (λ process. process < 64); threads = All-nil (λ (t : ℕ × ℕ). t.0 < 256) }

pub are_named_more : (d : Declared) (l : Line) → AreNamed d → MayStand d l → AreNamed (declared d l)
are_named_more d (Mkfs pages) named may = record { processes = named.processes; threads = named.threads }
are_named_more d (Process process cred) named may = record { processes = All-push (λ p. p < 64) d.processes process named.processes may.2; threads = named.threads }
are_named_more d (Thread thread process) named may =
    record { processes = named.processes; threads = All-push (λ (t : ℕ × ℕ). t.0 < 256) d.threads (thread, process) named.threads may.2 }
are_named_more d (Call thread command) named may = record { processes = named.processes; threads = named.threads }
are_named_more d (Do thread command) named may = record { processes = named.processes; threads = named.threads }
are_named_more d (Finish thread) named may = record { processes = named.processes; threads = named.threads }
are_named_more d (Open thread) named may = record { processes = named.processes; threads = named.threads }
are_named_more d (Stray thread addr word) named may = record { processes = named.processes; threads = named.threads }

-- a line has come
pub declared_begun : (d : Declared) (l : Line) → (declared d l).begun ≡ true
declared_begun d (Mkfs pages) = refl
declared_begun d (Process process cred) = refl
declared_begun d (Thread thread process) = refl
declared_begun d (Call thread command) = refl
declared_begun d (Do thread command) = refl
declared_begun d (Finish thread) = refl
declared_begun d (Open thread) = refl
declared_begun d (Stray thread addr word) = refl

pub process_is_low : (d : Declared) (process : ℕ) → AreNamed d → Contains d.processes process → process < 64
process_is_low d process named found = All-contains (λ p. p < 64) d.processes process named.processes found

pub thread_is_low : (d : Declared) (thread : ℕ) → AreNamed d → Contains (map (λ t. t.0) d.threads) thread → thread < 256
thread_is_low d thread named found =
    All-contains (λ n. n < 256) (map (λ t. t.0) d.threads) thread (All-map (λ n. n < 256) (λ (t : ℕ × ℕ). t.0) d.threads named.threads) found

abbrev first_letters : List (List ℕ) → List ℕ
first_letters [] = []
first_letters (word ∷ words) = take 2 word

-- lines that begin otherwise aren't spelled alike
unlike : {A : Type 0} {a b : List (List ℕ)} → a ≡ b → bytes_eq (first_letters a) (first_letters b) ≡ false → A
unlike {a = a} {b = b} spelled other =
    let itself = nat_list_eq_equiv.refl (first_letters b) in
    let both = subst (λ (words : List (List ℕ)). bytes_eq (first_letters words) (first_letters b) ≡ true) (sym spelled) itself in
    absurd (let no : true ≡ false = sym both ∙ other in cc)

same_thread : (d : Declared) (m n : ℕ) → AreNamed d → IsThreadOf d m → IsThreadOf d n → 116 ∷ decimal (m + 1) ≡ 116 ∷ decimal (n + 1) → m ≡ n
same_thread d m n named found_m found_n same = same_name 116 m n (thread_is_low d m named found_m) (thread_is_low d n named found_n) same

pub same_line : (d : Declared) → AreNamed d → (a b : Line) → MayStand d a → MayStand d b → line_words a ≡ line_words b → a ≡ b
same_line d named (Mkfs m) (Mkfs n) may_a may_b same =
    let digits : decimal m ≡ decimal n = cc in
    let high_a = may_a.2 in let high_b = may_b.2 in
    ap Mkfs (same_number m n (omega arith) (omega arith) digits)
same_line d named (Process process cred) (Process process2 cred2) may_a may_b same =
    let words : 112 ∷ decimal (process + 1) ≡ 112 ∷ decimal (process2 + 1) = cc in
    let processes = same_name 112 process process2 (let low = may_a.2 in omega arith) (let low = may_b.2 in omega arith) words in
    let uids : cred.uid ≡ cred2.uid = may_a.3 ∙ sym may_b.3 in
    let gids : cred.gid ≡ cred2.gid = may_a.4 ∙ sym may_b.4 in
    let groups : cred.groups ≡ cred2.groups = may_a.5 ∙ sym may_b.5 in
    λ i. Process (processes i) (record { uid = uids i; gid = gids i; groups = groups i })
same_line d named (Thread thread process) (Thread thread2 process2) may_a may_b same =
    let words : 116 ∷ decimal (thread + 1) ≡ 116 ∷ decimal (thread2 + 1) = cc in
    let words2 : 112 ∷ decimal (process + 1) ≡ 112 ∷ decimal (process2 + 1) = cc in
    let threads = same_name 116 thread thread2 may_a.2 may_b.2 words in
    let low_a = process_is_low d process named may_a.3 in
    let low_b = process_is_low d process2 named may_b.3 in
    let processes = same_name 112 process process2 (omega arith) (omega arith) words2 in
    λ i. Thread (threads i) (processes i)
same_line d named (Call thread command) (Call thread2 command2) may_a may_b same =
    let words : 116 ∷ decimal (thread + 1) ≡ 116 ∷ decimal (thread2 + 1) = cc in
    let spelled : command_words command ≡ command_words command2 = cc in
    let threads = same_thread d thread thread2 named may_a.1 may_b.1 words in
    let commands = same_command command command2 may_a.2 may_b.2 spelled in
    λ i. Call (threads i) (commands i)
same_line d named (Do thread command) (Do thread2 command2) may_a may_b same =
    let words : 116 ∷ decimal (thread + 1) ≡ 116 ∷ decimal (thread2 + 1) = cc in
    let spelled : command_words command ≡ command_words command2 = cc in
    let threads = same_thread d thread thread2 named may_a.1 may_b.1 words in
    let commands = same_command command command2 may_a.2 may_b.2 spelled in
    λ i. Do (threads i) (commands i)
same_line d named (Finish thread) (Finish thread2) may_a may_b same =
    let words : 116 ∷ decimal (thread + 1) ≡ 116 ∷ decimal (thread2 + 1) = cc in
    ap Finish (same_thread d thread thread2 named may_a.1 may_b.1 words)
same_line d named (Open thread) (Open thread2) may_a may_b same =
    let words : 116 ∷ decimal (thread + 1) ≡ 116 ∷ decimal (thread2 + 1) = cc in
    ap Open (same_thread d thread thread2 named may_a.1 may_b.1 words)
same_line d named (Stray thread addr word) (Stray thread2 addr2 word2) may_a may_b same =
    let words : 116 ∷ decimal (thread + 1) ≡ 116 ∷ decimal (thread2 + 1) = cc in
    let digits : decimal addr ≡ decimal addr2 = cc in
    let digits2 : decimal word ≡ decimal word2 = cc in
    let threads = same_thread d thread thread2 named may_a.1 may_b.1 words in
    let low_a = may_a.3.1 in let low_b = may_b.3.1 in
    let addrs = same_number addr addr2 (omega arith) (omega arith) digits in
    let high_a = may_a.4 in let high_b = may_b.4 in
    let words_are = same_number word word2 (omega arith) (omega arith) digits2 in
    λ i. Stray (threads i) (addrs i) (words_are i)
same_line d named (Mkfs m) (Process process2 cred2) may_a may_b same = unlike same refl
same_line d named (Mkfs m) (Thread thread2 process2) may_a may_b same = unlike same refl
same_line d named (Mkfs m) (Call thread2 command2) may_a may_b same = unlike same refl
same_line d named (Mkfs m) (Do thread2 command2) may_a may_b same = unlike same refl
same_line d named (Mkfs m) (Finish thread2) may_a may_b same = unlike same refl
same_line d named (Mkfs m) (Open thread2) may_a may_b same = unlike same refl
same_line d named (Mkfs m) (Stray thread2 addr2 word2) may_a may_b same = unlike same refl
same_line d named (Process process cred) (Mkfs m2) may_a may_b same = unlike same refl
same_line d named (Process process cred) (Thread thread2 process2) may_a may_b same = unlike same refl
same_line d named (Process process cred) (Call thread2 command2) may_a may_b same = unlike same refl
same_line d named (Process process cred) (Do thread2 command2) may_a may_b same = unlike same refl
same_line d named (Process process cred) (Finish thread2) may_a may_b same = unlike same refl
same_line d named (Process process cred) (Open thread2) may_a may_b same = unlike same refl
same_line d named (Process process cred) (Stray thread2 addr2 word2) may_a may_b same = unlike same refl
same_line d named (Thread thread process) (Mkfs m2) may_a may_b same = unlike same refl
same_line d named (Thread thread process) (Process process2 cred2) may_a may_b same = unlike same refl
same_line d named (Thread thread process) (Call thread2 command2) may_a may_b same = unlike same refl
same_line d named (Thread thread process) (Do thread2 command2) may_a may_b same = unlike same refl
same_line d named (Thread thread process) (Finish thread2) may_a may_b same = unlike same refl
same_line d named (Thread thread process) (Open thread2) may_a may_b same = unlike same refl
same_line d named (Thread thread process) (Stray thread2 addr2 word2) may_a may_b same = unlike same refl
same_line d named (Call thread command) (Mkfs m2) may_a may_b same = unlike same refl
same_line d named (Call thread command) (Process process2 cred2) may_a may_b same = unlike same refl
same_line d named (Call thread command) (Thread thread2 process2) may_a may_b same = unlike same refl
same_line d named (Call thread command) (Do thread2 command2) may_a may_b same = unlike same refl
same_line d named (Call thread command) (Finish thread2) may_a may_b same = unlike same refl
same_line d named (Call thread command) (Open thread2) may_a may_b same = unlike same refl
same_line d named (Call thread command) (Stray thread2 addr2 word2) may_a may_b same = unlike same refl
same_line d named (Do thread command) (Mkfs m2) may_a may_b same = unlike same refl
same_line d named (Do thread command) (Process process2 cred2) may_a may_b same = unlike same refl
same_line d named (Do thread command) (Thread thread2 process2) may_a may_b same = unlike same refl
same_line d named (Do thread command) (Call thread2 command2) may_a may_b same = unlike same refl
same_line d named (Do thread command) (Finish thread2) may_a may_b same = unlike same refl
same_line d named (Do thread command) (Open thread2) may_a may_b same = unlike same refl
same_line d named (Do thread command) (Stray thread2 addr2 word2) may_a may_b same = unlike same refl
same_line d named (Finish thread) (Mkfs m2) may_a may_b same = unlike same refl
same_line d named (Finish thread) (Process process2 cred2) may_a may_b same = unlike same refl
same_line d named (Finish thread) (Thread thread2 process2) may_a may_b same = unlike same refl
same_line d named (Finish thread) (Call thread2 command2) may_a may_b same = unlike same refl
same_line d named (Finish thread) (Do thread2 command2) may_a may_b same = unlike same refl
same_line d named (Finish thread) (Open thread2) may_a may_b same = unlike same refl
same_line d named (Finish thread) (Stray thread2 addr2 word2) may_a may_b same = unlike same refl
same_line d named (Open thread) (Mkfs m2) may_a may_b same = unlike same refl
same_line d named (Open thread) (Process process2 cred2) may_a may_b same = unlike same refl
same_line d named (Open thread) (Thread thread2 process2) may_a may_b same = unlike same refl
same_line d named (Open thread) (Call thread2 command2) may_a may_b same = unlike same refl
same_line d named (Open thread) (Do thread2 command2) may_a may_b same = unlike same refl
same_line d named (Open thread) (Finish thread2) may_a may_b same = unlike same refl
same_line d named (Open thread) (Stray thread2 addr2 word2) may_a may_b same = unlike same refl
same_line d named (Stray thread addr word) (Mkfs m2) may_a may_b same = unlike same refl
same_line d named (Stray thread addr word) (Process process2 cred2) may_a may_b same = unlike same refl
same_line d named (Stray thread addr word) (Thread thread2 process2) may_a may_b same = unlike same refl
same_line d named (Stray thread addr word) (Call thread2 command2) may_a may_b same = unlike same refl
same_line d named (Stray thread addr word) (Do thread2 command2) may_a may_b same = unlike same refl
same_line d named (Stray thread addr word) (Finish thread2) may_a may_b same = unlike same refl
same_line d named (Stray thread addr word) (Open thread2) may_a may_b same = unlike same refl

-- a text of no lines
pub reads_nothing : (d : Declared) → Reads d [] []
reads_nothing d = record { spelled = refl; orderly = tt }

-- These lines were read from the text, they have declared this, and this rest of the text is left, from the line of this
-- number on.
pub record HasRead (text : List ℕ) (seen : Declared) (lines : List Line) (rest : List ℕ) (number : ℕ) : Type 0 where
  pub named : AreNamed seen
  -- what the rest reads as goes on with them
  pub sound : (more : List Line) → Reads seen rest more → Reads nothing_declared text (lines ++ more)
  -- where the rest is bad, the text is
  pub bad : (line column : ℕ) → IsBadIn seen (lines_of rest) number line column → IsBadIn nothing_declared (lines_of text) 1 line column
  pub begun : 0 < length lines ⊎ (seen.begun ≡ false)

pub has_read_nothing : (text : List ℕ) → HasRead text nothing_declared [] text 1
has_read_nothing text = record { named = are_named_at_first; sound = λ more reads. reads; bad = λ line column bad. bad; begun = inr refl }

-- a bad place behind a line that is passed over, or behind one that was read
bad_behind : (seen next : Declared) (rest line after : List ℕ) (number l c : ℕ) → lines_of rest ≡ line ∷ lines_of after
    → IsBadIn seen (line ∷ lines_of after) number l c → IsBadIn seen (lines_of rest) number l c
bad_behind seen next rest line after number l c split bad = subst (λ (ls : List (List ℕ)). IsBadIn seen ls number l c) (sym split) bad

pub has_read_passed : (text rest line after : List ℕ) (seen : Declared) (lines : List Line) (number : ℕ) → lines_of rest ≡ line ∷ lines_of after → is_kept line ≡ false
    → HasRead text seen lines rest number → HasRead text seen lines after (number + 1)
has_read_passed text rest line after seen lines number split passed read =
    let same = kept_lines_passed rest line after split passed in
    record {
      named = read.named;
      sound = λ more reads. read.sound more (reads_same seen rest after more same reads);
      bad = λ l c bad. read.bad l c (bad_behind seen seen rest line after number l c split (inl (passed, bad)));
      begun = read.begun;
    }

pub has_read_kept : (text rest line after : List ℕ) (seen : Declared) (lines : List Line) (l : Line) (number : ℕ) → lines_of rest ≡ line ∷ lines_of after
    → is_kept line ≡ true → words_of line ≡ line_words l → MayStand seen l → HasRead text seen lines rest number
    → HasRead text (declared seen l) (lines ++ l ∷ []) after (number + 1)
has_read_kept text rest line after seen lines l number split kept words may read =
    let front = kept_lines_kept rest line after split kept in
    record {
      named = are_named_more seen l read.named may;
      sound = λ more reads. subst (Reads nothing_declared text) (sym (append_assoc lines (l ∷ []) more))
          (read.sound (l ∷ more) (reads_more seen rest line after l more front words may reads));
      bad = λ at c bad. read.bad at c (bad_behind seen seen rest line after number at c split (inr (inr (kept, (l, words, may, bad)))));
      begun = inl (let sum = length-append lines (l ∷ []) in omega arith);
    }

-- a line whose words are bad at this column
pub has_read_bad : (text rest line after : List ℕ) (seen : Declared) (lines : List Line) (number at column : ℕ) → lines_of rest ≡ line ∷ lines_of after
    → is_kept line ≡ true → at ≡ number → IsBadAt seen (FirstWord ∷ []) (words_of line) 1 column → HasRead text seen lines rest number
    → IsBadIn nothing_declared (lines_of text) 1 at column
has_read_bad text rest line after seen lines number at column split kept same bad read =
    read.bad at column (bad_behind seen seen rest line after number at column split (inr (inl (kept, same, bad))))

pub has_read_same : (text after : List ℕ) (seen next : Declared) (lines more : List Line) (number : ℕ) → next ≡ seen → more ≡ lines
    → HasRead text seen lines after number → HasRead text next more after number
has_read_same text after seen next lines more number same_seen same_lines read =
    subst (λ (s : Declared). HasRead text s more after number) (sym same_seen) (subst (λ (ls : List Line). HasRead text seen ls after number) (sym same_lines) read)

pub is_nothing : (rest : List ℕ) → (length rest == 0) ≡ true → rest ≡ []
is_nothing [] empty = refl
is_nothing (byte ∷ rest) empty = let none = eqb-true (length (byte ∷ rest)) 0 empty in absurd (omega arith)

-- nothing is left
pub has_read_all : (text rest : List ℕ) (seen : Declared) (lines : List Line) (number : ℕ) → HasRead text seen lines rest number → (length rest == 0) ≡ true
    → Reads nothing_declared text lines
has_read_all text rest seen lines number read empty =
    let at_end = subst (λ (r : List ℕ). HasRead text seen lines r number) (is_nothing rest empty) read in
    subst (Reads nothing_declared text) (append-nil lines) (at_end.sound [] (reads_nothing seen))

-- nothing is left, and nothing was kept
pub has_read_none : (text rest : List ℕ) (seen : Declared) (lines : List Line) (number : ℕ) → HasRead text seen lines rest number → (length rest == 0) ≡ true
    → (length lines == 0) ≡ true → IsBadIn nothing_declared (lines_of text) 1 number 1
has_read_none text rest seen lines number read empty none =
    let at_end = subst (λ (r : List ℕ). HasRead text seen lines r number) (is_nothing rest empty) read in
    at_end.bad number 1 (by at_end.begun, refl, refl)
  where
    by : 0 < length lines ⊎ (seen.begun ≡ false) → seen.begun ≡ false
    by (inl some) = let zero = eqb-true (length lines) 0 none in absurd (omega arith)
    by (inr is) = is

-- a fault of one reading, passed on by another
pub passed : {T : Type 0} {P Q : Place → Type 0} (r : Result T Fault) (e : Fault) → IsErrAnd r (λ y. y ≡ e)
    → ((place : Place) → P place → Q place) → OnBad {T = ℕ} (Err e) P → OnBad r Q
passed (Ok x) e is f p = tt
passed (Err NoMemory) e is f p = tt
passed {P = P} (Err (Bad place)) (Bad other) is f p = let places : place ≡ other = cc in f place (subst P (sym places) p)
passed (Err (Bad place)) NoMemory is f p = absurd (let no : Bad place ≡ NoMemory = is in cc)
