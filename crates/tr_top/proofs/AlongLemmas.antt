-- A run with one more entry of its core: the script's place, the world, and what the runner keeps.
use Rattle.std.proofs.Common.{◌≡◌, ◌≢◌, ℕ, ◌≤◌, List, [], ◌∷◌, ◌++◌, Bool, true, false, not, cond, if◌then◌else◌, ◌⊎◌, inl, inr, Option, Some, None, is_some, Result, Ok, Err, refl, sym, ap, subst, ◌∙◌, arith, eq-eqb, ne_eqb, eqb}
use Rattle.std.proofs.lemmas.Bool.{cases_eq}
use Rattle.pm_words.specs.Memory.{all_durable, present_values}
use Rattle.pm_words.specs.Word.{Word}
use Rattle.pm_words.proofs.WordLemmas.{present_all_durable}
use Rattle.bus_model.specs.Machine.{Machine, IsDue, moved, latest_after}
use Rattle.tr_types.specs.declared.action.Answer.{Answer}
use Rattle.tr_types.specs.declared.action.Answer.TheVariants.{Done}
use Rattle.tr_types.specs.declared.command.Command.{Command}
use Rattle.tr_types.specs.declared.entry.Entry.{Entry}
use Rattle.tr_types.specs.declared.entry.Entry.TheVariants as entry
use Rattle.tr_types.specs.declared.entry.Mark.{Mark}
use Rattle.tr_types.proofs.FoldLemmas.{state_after_more, Each_more}
use Rattle.tr_model.specs.Worlds.{World, Base, base_after, stepped, world_of, put}
use Rattle.tr_script.specs.declared.script.Line.{Line}
use Rattle.tr_core.specs.Core.{CoreView, due_at, world_at, IsQuiet, Adds, HasFailed, IsOfEvent, IsStrayOf, IsTurnOf, IsTurned, GivesAs, TurnsAs, HappensAs}
use Rattle.tr_core.specs.Traces.{world_after}
use Rattle.tr_core.specs.declared.run.Turned.{Turned}
use Rattle.tr_core.specs.declared.event.FaultEvent.{FaultEvent}
use Rattle.tr_core.specs.declared.event.FaultEvent.TheVariants as event
use Rattle.tr_core.specs.declared.fault.CoreFault.{CoreFault}
use Rattle.tr_core.specs.declared.fault.CoreFault.TheVariants as fault
use Rattle.tr_top.specs.Along.{Place, Turns, Resting, ToTheEnd, ToAnOpening, IsNext, IsOfCall, MayFollow, Follows, followed, rest, start_of}
use Rattle.tr_top.specs.Run.{opening, place_after}
use Rattle.tr_top.specs.Running.{IsAlong, IsTurning}
use Rattle.tr_top.proofs.PlaceLemmas.{before_calls, behind_calls, action_calls}

pub clash : {T : Type 0} → true ≡ false → T
clash e = absurd (cc)

-- The world and the place after one more entry.
pub adds_world : (old new : CoreView) (e : Entry) → Adds old new e → world_at new ≡ stepped (world_at old) e
adds_world old new e adds =
    let same : world_at new ≡ world_after old.opening (old.trace ++ e ∷ []) = λ i. world_after (adds.opening i) (adds.trace i) in
    same ∙ state_after_more stepped (world_of old.opening) old.trace e

pub adds_place : (lines : List Line) (old new : CoreView) (e : Entry) → Adds old new e → place_after lines new.trace ≡ followed (place_after lines old.trace) e
adds_place lines old new e adds = ap (place_after lines) adds.trace ∙ state_after_more followed (start_of lines) old.trace e

machine_stepped : (b : Base) (e : Entry) → (base_after b e).machine ≡ moved b.machine e
machine_stepped b (entry.Call thread command) = refl
machine_stepped b (entry.Act thread now m action answer) = refl
machine_stepped b (entry.Reply thread reply) = refl
machine_stepped b (entry.Stray thread addr word answer) = refl
machine_stepped b e = refl

due_stepped : (w : World) (e : Entry) → latest_after w.base.machine.latest e ≤ 0 → IsDue (stepped w e).base.machine 0
due_stepped w e late = subst (λ (m : Machine). IsDue m 0) (sym (machine_stepped w.base e)) (late, omega arith)

-- The entry of an event moves no clock, and leaves the calls.
stray_is : (thread addr word : ℕ) (e : Entry) → IsStrayOf thread addr word e → (answer : Answer) × (e ≡ entry.Stray thread addr word answer)
stray_is thread addr word (entry.Stray t a w answer) is = (answer, λ i. entry.Stray (is.0 i) (is.1 i) (is.2 i) answer)
stray_is thread addr word e is = absurd is

pub event_stray : (thread addr word : ℕ) (e : Entry) → IsOfEvent (event.Stray thread addr word) e → (answer : Answer) × (e ≡ entry.Stray thread addr word answer)
event_stray thread addr word e is = stray_is thread addr word e is

event_latest : (ev : FaultEvent) (e : Entry) (latest : ℕ) → IsOfEvent ev e → latest_after latest e ≡ latest
event_latest (event.Mkfs pages) e latest is = ap (latest_after latest) is
event_latest (event.Process process cred) e latest is = ap (latest_after latest) is
event_latest (event.Thread thread process) e latest is = ap (latest_after latest) is
event_latest (event.Stray thread addr word) e latest is = ap (latest_after latest) (stray_is thread addr word e is).1

event_calls : (ev : FaultEvent) (e : Entry) (p : Place) → IsOfEvent ev e → (followed p e).calls ≡ p.calls
event_calls (event.Mkfs pages) e p is = ap (λ (x : Entry). (followed p x).calls) is ∙ before_calls (rest p.left) p.calls
event_calls (event.Process process cred) e p is = ap (λ (x : Entry). (followed p x).calls) is ∙ before_calls (rest p.left) p.calls
event_calls (event.Thread thread process) e p is = ap (λ (x : Entry). (followed p x).calls) is ∙ before_calls (rest p.left) p.calls
event_calls (event.Stray thread addr word) e p is = ap (λ (x : Entry). (followed p x).calls) (stray_is thread addr word e is).1 ∙ before_calls (rest p.left) p.calls

-- each event has an entry
pub event_entry : (ev : FaultEvent) → (e : Entry) × IsOfEvent ev e
event_entry (event.Mkfs pages) = (entry.Mkfs pages, refl)
event_entry (event.Process process cred) = (entry.Process process cred, refl)
event_entry (event.Thread thread process) = (entry.Thread thread process, refl)
event_entry (event.Stray thread addr word) = (entry.Stray thread addr word Done, (refl, refl, refl))

-- What the runner keeps, over a core that has one entry more, or that has failed.
along_adds : (lines : List Line) (old new : CoreView) (e : Entry) → IsAlong lines old → Adds old new e → MayFollow (place_after lines old.trace) e → ((t : ℕ) → (followed (place_after lines old.trace) e).calls t ≡ is_some (due_at new t))
    → latest_after (world_at old).base.machine.latest e ≤ 0 → IsAlong lines new
along_adds lines old new e along adds may calls late = record {
  opening_is = adds.opening ∙ along.opening_is;
  follows = subst (Follows lines) (sym adds.trace) (Each_more followed MayFollow (start_of lines) old.trace e along.follows may);
  calls = λ works t. ap (λ (p : Place). p.calls t) (adds_place lines old new e adds) ∙ calls t;
  due = subst (λ (w : World). IsDue w.base.machine 0) (sym (adds_world old new e adds)) (due_stepped (world_at old) e late);
}

along_failed : (lines : List Line) (old new : CoreView) → IsAlong lines old → HasFailed old new → IsAlong lines new
along_failed lines old new along f =
    let same : world_at new ≡ world_at old = λ i. world_after (f.opening i) (f.trace i) in
    record {
      opening_is = f.opening ∙ along.opening_is;
      follows = subst (Follows lines) (sym f.trace) along.follows;
      calls = λ works. clash (sym f.failed ∙ works);
      due = subst (λ (w : World). IsDue w.base.machine 0) (sym same) along.due;
    }

along_same : (lines : List Line) (old new : CoreView) → IsAlong lines old → new ≡ old → IsAlong lines new
along_same lines old new along same = subst (IsAlong lines) (sym same) along

-- An event.
pub along_happens : (lines : List Line) (old new : CoreView) (ev : FaultEvent) (r : Result (Unit {0}) CoreFault) → IsAlong lines old → ((e : Entry) → IsOfEvent ev e → MayFollow (place_after lines old.trace) e) → HappensAs old new ev r → IsAlong lines new
along_happens lines old new ev (Ok done) along may h = along_adds lines old new h.e along h.adds (may h.e h.of)
    (λ t. ap (λ (c : ℕ → Bool). c t) (event_calls ev h.e (place_after lines old.trace) h.of) ∙ along.calls h.adds.worked t ∙ ap is_some (sym (h.due t)))
    (let late = along.due.0 in let same = event_latest ev h.e (world_at old).base.machine.latest h.of in omega (arith, late, same))
along_happens lines old new ev (Err fault.NoThread) along may h = along_same lines old new along h.0.1
along_happens lines old new ev (Err fault.Full) along may h = along_same lines old new along h.0.1
along_happens lines old new ev (Err fault.NoMemory) along may h = along_failed lines old new along h
along_happens lines old new ev (Err fault.Idle) along may h = absurd h
along_happens lines old new ev (Err fault.Running) along may h = absurd h

-- A call that is given.
put_calls : (calls : ℕ → Bool) (due : ℕ → Option Mark) (thread : ℕ) (mark : Mark) → ((t : ℕ) → calls t ≡ is_some (due t)) → (t : ℕ) → put calls thread true t ≡ is_some (put due thread (Some mark) t)
put_calls calls due thread mark same t = by (eqb t thread)
  where
    by : (b : Bool) → cond b true (calls t) ≡ is_some (cond b (Some mark) (due t))
    by true = refl
    by false = same t

pub along_gives : (lines : List Line) (old new : CoreView) (thread : ℕ) (command : Command) (r : Result (Unit {0}) CoreFault) → IsAlong lines old → MayFollow (place_after lines old.trace) (entry.Call thread command) → GivesAs old new thread command r → IsAlong lines new
along_gives lines old new thread command (Ok done) along may h =
    let p = place_after lines old.trace in
    along_adds lines old new (entry.Call thread command) along h.0 may
    (λ t. ap (λ (c : ℕ → Bool). c t) (behind_calls p.left (put p.calls thread true)) ∙ put_calls p.calls (due_at old) thread h.3.0 (along.calls h.0.worked) t ∙ ap is_some (sym (h.3.1 t)))
    along.due.0
along_gives lines old new thread command (Err fault.NoThread) along may h = along_same lines old new along h.0.1
along_gives lines old new thread command (Err fault.Running) along may h = along_same lines old new along h.0.1
along_gives lines old new thread command (Err fault.Full) along may h = along_same lines old new along h.0.1
along_gives lines old new thread command (Err fault.NoMemory) along may h = along_failed lines old new along h
along_gives lines old new thread command (Err fault.Idle) along may h = absurd h

-- A turn.
of_call : (t thread : ℕ) (mark : Mark) (ended : Bool) (e : Entry) → t ≡ thread → IsTurnOf thread 0 mark ended e → IsOfCall t e
of_call t thread mark false (entry.Act u now m action answer) same is = (is.0 ∙ sym same, is.1)
of_call t thread mark true (entry.Reply u reply) same is = is.0 ∙ sym same
of_call t thread mark false e same is = absurd is
of_call t thread mark true e same is = absurd is

turn_next : (turns : Turns) (lines : List Line) (thread : ℕ) (mark : Mark) (ended : Bool) (e : Entry) → IsTurning thread turns → IsTurnOf thread 0 mark ended e → IsNext turns lines e
turn_next Resting lines thread mark ended e its is = absurd its
turn_next (ToTheEnd t) lines thread mark ended e its is = of_call t thread mark ended e its is
turn_next (ToAnOpening t) lines thread mark ended e its is = of_call t thread mark ended e its is

pub turn_follows : (p : Place) (thread : ℕ) (mark : Mark) (ended : Bool) (e : Entry) → IsTurning thread p.turns → IsTurnOf thread 0 mark ended e → MayFollow p e
turn_follows p thread mark ended e its is = turn_next p.turns p.left thread mark ended e its is

turn_latest : (thread latest : ℕ) (mark : Mark) (ended : Bool) (e : Entry) → latest ≤ 0 → IsTurnOf thread 0 mark ended e → latest_after latest e ≤ 0
turn_latest thread latest mark false (entry.Act u now m action answer) low is = let zero_is = is.1 in omega (arith, zero_is)
turn_latest thread latest mark true (entry.Reply u reply) low is = low
turn_latest thread latest mark false e low is = absurd is
turn_latest thread latest mark true e low is = absurd is

some_by : {X : Type 0} (o : Option X) (b : Bool) → not (is_some o) ≡ b → is_some o ≡ not b
some_by None b is = by b is
  where
    by : (b : Bool) → true ≡ b → false ≡ not b
    by true e = refl
    by false e = sym e
some_by (Some x) b is = by b is
  where
    by : (b : Bool) → false ≡ b → true ≡ not b
    by true e = sym e
    by false e = refl

-- the calls behind a turn's entry
pub turn_calls : (p : Place) (thread : ℕ) (mark : Mark) (ended : Bool) (e : Entry) → IsTurnOf thread 0 mark ended e → p.calls thread ≡ true → (t : ℕ) → (followed p e).calls t ≡ (if eqb t thread then not ended else p.calls t)
turn_calls p thread mark false (entry.Act u now m action answer) is had t = ap (λ (c : ℕ → Bool). c t) (action_calls p.turns m p) ∙ by (cases_eq t thread)
  where
    by : (t ≡ thread) ⊎ (t ≢ thread) → p.calls t ≡ cond (eqb t thread) true (p.calls t)
    by (inl e) = ap p.calls e ∙ had ∙ ap (λ (b : Bool). cond b true (p.calls t)) (sym (eq-eqb t thread e))
    by (inr ne) = ap (λ (b : Bool). cond b true (p.calls t)) (sym (ne_eqb t thread ne))
turn_calls p thread mark true (entry.Reply u reply) is had t = ap (λ (c : ℕ → Bool). c t) (before_calls p.left (put p.calls u false)) ∙ ap (λ (v : ℕ). put p.calls v false t) is.0
turn_calls p thread mark false e is had t = absurd is
turn_calls p thread mark true e is had t = absurd is

turned_calls : (calls : ℕ → Bool) (old new : ℕ → Option Mark) (thread : ℕ) (ended : Bool) → ((t : ℕ) → calls t ≡ is_some (old t)) → ((t : ℕ) → t ≢ thread → new t ≡ old t) → not (is_some (new thread)) ≡ ended
    → (t : ℕ) → (if eqb t thread then not ended else calls t) ≡ is_some (new t)
turned_calls calls old new thread ended same others is t = by (cases_eq t thread)
  where
    by : (t ≡ thread) ⊎ (t ≢ thread) → cond (eqb t thread) (not ended) (calls t) ≡ is_some (new t)
    by (inl e) = ap (λ (b : Bool). cond b (not ended) (calls t)) (eq-eqb t thread e) ∙ sym (some_by (new thread) ended is) ∙ ap (λ (v : ℕ). is_some (new v)) (sym e)
    by (inr ne) = ap (λ (b : Bool). cond b (not ended) (calls t)) (ne_eqb t thread ne) ∙ same t ∙ ap is_some (sym (others t ne))

pub along_turned : (lines : List Line) (old new : CoreView) (thread : ℕ) (turned : Turned) → IsAlong lines old → IsTurning thread (place_after lines old.trace).turns → IsTurned old new thread 0 turned → IsAlong lines new
along_turned lines old new thread turned along turning h =
    let p = place_after lines old.trace in
    let had : p.calls thread ≡ true = along.calls h.adds.worked thread ∙ ap is_some h.was_due in
    along_adds lines old new h.e along h.adds (turn_follows p thread h.mark turned.ended h.e turning h.turn)
    (λ t. turn_calls p thread h.mark turned.ended h.e h.turn had t ∙ turned_calls p.calls (due_at old) (due_at new) thread turned.ended (along.calls h.adds.worked) h.others h.ended t)
    (turn_latest thread (world_at old).base.machine.latest h.mark turned.ended h.e along.due.0 h.turn)

pub along_turns : (lines : List Line) (old new : CoreView) (thread : ℕ) (r : Result Turned CoreFault) → IsAlong lines old → IsTurning thread (place_after lines old.trace).turns → TurnsAs old new thread 0 r → IsAlong lines new
along_turns lines old new thread (Ok turned) along turning h = along_turned lines old new thread turned along turning h
along_turns lines old new thread (Err fault.NoThread) along turning h = along_same lines old new along h.0.1
along_turns lines old new thread (Err fault.Idle) along turning h = along_same lines old new along h.0.1
along_turns lines old new thread (Err fault.Full) along turning h = along_same lines old new along h.0.1
along_turns lines old new thread (Err fault.NoMemory) along turning h = along_failed lines old new along h
along_turns lines old new thread (Err fault.Running) along turning h = absurd h

-- A run begins so.
all_durable_is : (words : List Word) (one other : List ℕ) → words ≡ all_durable one → words ≡ all_durable other → one ≡ other
all_durable_is words one other is same = sym (present_all_durable one) ∙ ap present_values (sym is ∙ same) ∙ present_all_durable other

pub along_first : (lines : List Line) (c : CoreView) (words : List Word) → words ≡ all_durable (opening lines) → words ≡ all_durable c.opening → c.trace ≡ [] → IsQuiet c → IsAlong lines c
along_first lines c words made is none quiet =
    let same : world_at c ≡ world_of c.opening = ap (world_after c.opening) none in
    record {
      opening_is = all_durable_is words c.opening (opening lines) is made;
      follows = subst (Follows lines) (sym none) tt;
      calls = λ works t. ap (λ (l : List Entry). (place_after lines l).calls t) none ∙ ap (λ (f : ℕ → Bool). f t) (before_calls lines (λ _. false)) ∙ ap is_some (sym (quiet t));
      due = subst (λ (w : World). IsDue w.base.machine 0) (sym same) (omega arith, omega arith);
    }
