-- Which traces follow a script. Each line gives its entries in order. A line that starts something gives one entry, and
-- so does a stray store. `call` gives the call alone. `finish` gives the turns of its thread's call, an action each, until
-- the call has ended by its reply, and `open` until a window was opened or the call has ended; `do` is `call` and
-- `finish`. A line that makes turns gives nothing where its thread has no call.
use Rattle.std.specs.Prelude.{◌≡◌, ℕ, List, [], ◌∷◌, Bool, true, false, if◌then◌else◌}
use Rattle.tr_types.specs.Fold.{Each, state_after}
use Rattle.tr_types.specs.declared.entry.Entry.{Entry}
use Rattle.tr_types.specs.declared.entry.Entry.TheVariants as entry
use Rattle.tr_types.specs.declared.entry.Mark.{Mark}
use Rattle.tr_types.specs.declared.entry.Mark.TheVariants as mark
use Rattle.tr_model.specs.Worlds.{put}
use Rattle.tr_script.specs.declared.script.Line.{Line}
use Rattle.tr_script.specs.declared.script.Line.TheVariants.{Mkfs, Process, Thread, Call, Do, Finish, Open, Stray}

-- which turns are being made: none, those of a thread to the end of its call, or those to its next opening of a window
pub data Turns : Type 0 where
  Resting : Turns
  ToTheEnd : (thread : ℕ) → Turns
  ToAnOpening : (thread : ℕ) → Turns

-- A place in a script: the lines that aren't begun, the turns that are being made, and which threads have a call.
pub record Place : Type 0 where
  pub left : List Line
  pub turns : Turns
  pub calls : ℕ → Bool

abbrev pub place_at : List Line → Turns → (ℕ → Bool) → Place
place_at lines turns calls = record { left = lines; turns = turns; calls = calls }

-- the place before these lines: lines that give nothing are passed
abbrev pub before : List Line → (ℕ → Bool) → Place
before [] calls = place_at [] Resting calls
before (Finish thread ∷ lines) calls = if calls thread then place_at lines (ToTheEnd thread) calls else before lines calls
before (Open thread ∷ lines) calls = if calls thread then place_at lines (ToAnOpening thread) calls else before lines calls
before (line ∷ lines) calls = place_at (line ∷ lines) Resting calls

abbrev pub start_of : List Line → Place
start_of lines = before lines (λ _. false)

abbrev pub rest : List Line → List Line
rest [] = []
rest (line ∷ lines) = lines

-- the place behind the first of the lines, which has given its call
abbrev pub behind_call : List Line → (ℕ → Bool) → Place
behind_call (Do thread command ∷ lines) calls = place_at lines (ToTheEnd thread) calls
behind_call lines calls = before (rest lines) calls

-- the action opens a window
abbrev pub opens : Mark → Bool
opens mark.Open = true
opens m = false

-- the place after an action with this mark
abbrev pub after_action : Turns → Mark → Place → Place
after_action (ToAnOpening thread) m p = if opens m then before p.left p.calls else p
after_action turns m p = p

-- the place after the entry
abbrev pub followed : Place → Entry → Place
followed p (entry.Call thread command) = behind_call p.left (put p.calls thread true)
followed p (entry.Act thread now m action answer) = after_action p.turns m p
followed p (entry.Reply thread reply) = before p.left (put p.calls thread false)
followed p e = before (rest p.left) p.calls

abbrev pub IsStrayOf : ℕ → ℕ → ℕ → Entry → Type 0
IsStrayOf thread addr word (entry.Stray t a w answer) = (t ≡ thread) × (a ≡ addr) × (w ≡ word)
IsStrayOf thread addr word e = ⊥

-- the entry is the first that a line gives
abbrev pub IsFirstOf : List Line → Entry → Type 0
IsFirstOf (Mkfs pages ∷ lines) e = e ≡ entry.Mkfs pages
IsFirstOf (Process process cred ∷ lines) e = e ≡ entry.Process process cred
IsFirstOf (Thread thread process ∷ lines) e = e ≡ entry.Thread thread process
IsFirstOf (Call thread command ∷ lines) e = e ≡ entry.Call thread command
IsFirstOf (Do thread command ∷ lines) e = e ≡ entry.Call thread command
IsFirstOf (Stray thread addr word ∷ lines) e = IsStrayOf thread addr word e
IsFirstOf lines e = ⊥

-- The entry is one of a thread's call: an action, or the reply. The clock stands at 0, since no line moves it.
abbrev pub IsOfCall : ℕ → Entry → Type 0
IsOfCall thread (entry.Act t now m action answer) = (t ≡ thread) × (now ≡ 0)
IsOfCall thread (entry.Reply t reply) = t ≡ thread
IsOfCall thread e = ⊥

abbrev pub IsNext : Turns → List Line → Entry → Type 0
IsNext Resting lines e = IsFirstOf lines e
IsNext (ToTheEnd thread) lines e = IsOfCall thread e
IsNext (ToAnOpening thread) lines e = IsOfCall thread e

-- the entry may come at this place
abbrev pub MayFollow : Place → Entry → Type 0
MayFollow p e = IsNext p.turns p.left e

-- the trace is a front of one that the script's lines give
abbrev pub Follows : List Line → List Entry → Type 0
Follows lines trace = Each followed MayFollow (start_of lines) trace

-- no line is left, and no turns are due; a call may be under way that no line goes on with
pub record IsAtEnd (p : Place) : Type 0 where
  pub lines : p.left ≡ []
  pub turns : p.turns ≡ Resting

-- the trace is all that the script's lines give
abbrev pub IsWhole : List Line → List Entry → Type 0
IsWhole lines trace = Follows lines trace × IsAtEnd (state_after followed (start_of lines) trace)
