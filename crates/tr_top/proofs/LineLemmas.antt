-- What each line of a script leaves: where the script stands, and what has been started.
use Rattle.std.proofs.Common.{◌≡◌, ◌≢◌, ℕ, List, [], ◌∷◌, ◌++◌, map, Bool, true, false, cond, if◌then◌else◌, ◌⊎◌, Option, Some, None, inl, inr, refl, sym, ap, subst, ◌∙◌, eq-eqb, ne_eqb, eqb}
use Rattle.std.proofs.lemmas.Bool.{cases_eq}
use Rattle.std.proofs.lemmas.List.{map-append}
use Rattle.tr_types.specs.declared.command.Command.{Command}
use Rattle.tr_types.specs.declared.entry.Entry.{Entry}
use Rattle.tr_types.specs.declared.entry.Entry.TheVariants as entry
use Rattle.tr_types.specs.declared.permission.Cred.{Cred}
use Rattle.tr_model.specs.Worlds.{World, stepped, put}
use Rattle.tr_script.specs.Grammar.{Declared, declared, calling_behind}
use Rattle.tr_script.specs.declared.script.Line.{Line}
use Rattle.tr_script.specs.declared.script.Line.TheVariants.{Mkfs, Process, Thread, Call, Do, Finish, Open, Stray}
use Rattle.tr_core.specs.Core.{Adds, IsHappened, world_at}
use Rattle.tr_core.specs.declared.event.FaultEvent.TheVariants as event
use Rattle.tr_top.specs.Along.{Place, ToTheEnd, before, followed, place_at}
use Rattle.tr_top.specs.Run.{place_after}
use Rattle.tr_top.specs.Running.{RunnerView, IsBefore, IsNextLine, IsEnded, IsOpened, Passes, place_of}
use Rattle.tr_top.proofs.PlaceLemmas.{before_calls, behind_calls, stands_before, finish_here, put_same}
use Rattle.tr_top.proofs.AlongLemmas.{adds_world, adds_place, event_stray, clash}

-- the place after one more entry
pub more_place : (old new : RunnerView) (e : Entry) → new.lines ≡ old.lines → Adds old.core new.core e → place_of new ≡ followed (place_of old) e
more_place old new e lines adds = ap (λ (l : List Line). place_after l new.core.trace) lines ∙ adds_place old.lines old.core new.core e adds

-- A line that gave one entry.
passes_one : (old new : RunnerView) (e : Entry) (line : Line) (below : List Line) (d : Declared) (calls : ℕ → Bool) → new.lines ≡ old.lines → Adds old.core new.core e → IsNextLine old line below d
    → followed (before (line ∷ below) (place_of old).calls) e ≡ before below calls
    → map (λ p. p.0) (stepped (world_at old.core) e).base.machine.bus.processes ≡ (declared d line).processes
    → (stepped (world_at old.core) e).base.machine.bus.threads ≡ (declared d line).threads
    → (declared d line).begun ≡ true
    → ((t : ℕ) → calls t ≡ true → (declared d line).calling ≡ Some t)
    → Passes new line below d
passes_one old new e line below d calls lines adds next moves processes threads begun calling =
    let at : place_of new ≡ before below calls = more_place old new e lines adds ∙ ap (λ (p : Place). followed p e) next.place.place ∙ moves in
    let world = adds_world old.core new.core e adds in
    record {
      place = record { place = stands_before below (place_of new) calls at };
      like = record {
        processes = ap (λ (w : World). map (λ p. p.0) w.base.machine.bus.processes) world ∙ processes;
        threads = ap (λ (w : World). w.base.machine.bus.threads) world ∙ threads;
        fresh = λ b. clash (sym begun ∙ b);
        calling = λ t is. calling t (sym (ap (λ (p : Place). p.calls t) at ∙ ap (λ (c : ℕ → Bool). c t) (before_calls below calls)) ∙ is);
      };
    }

pub passes_mkfs : (old new : RunnerView) (pages : ℕ) (below : List Line) (d : Declared) → new.lines ≡ old.lines → IsHappened old.core new.core (event.Mkfs pages) → IsNextLine old (Mkfs pages) below d → Passes new (Mkfs pages) below d
passes_mkfs old new pages below d lines h next =
    passes_one old new (entry.Mkfs pages) (Mkfs pages) below d (place_of old).calls lines (subst (Adds old.core new.core) h.of h.adds) next
    refl next.like.processes next.like.threads refl next.like.calling

pub passes_process : (old new : RunnerView) (process : ℕ) (cred : Cred) (below : List Line) (d : Declared) → new.lines ≡ old.lines → IsHappened old.core new.core (event.Process process cred) → IsNextLine old (Process process cred) below d → Passes new (Process process cred) below d
passes_process old new process cred below d lines h next =
    passes_one old new (entry.Process process cred) (Process process cred) below d (place_of old).calls lines (subst (Adds old.core new.core) h.of h.adds) next
    refl
    (map-append (λ p. p.0) (world_at old.core).base.machine.bus.processes ((process, cred) ∷ []) ∙ ap (λ (l : List ℕ). l ++ process ∷ []) next.like.processes)
    next.like.threads refl next.like.calling

pub passes_thread : (old new : RunnerView) (thread process : ℕ) (below : List Line) (d : Declared) → new.lines ≡ old.lines → IsHappened old.core new.core (event.Thread thread process) → IsNextLine old (Thread thread process) below d → Passes new (Thread thread process) below d
passes_thread old new thread process below d lines h next =
    passes_one old new (entry.Thread thread process) (Thread thread process) below d (place_of old).calls lines (subst (Adds old.core new.core) h.of h.adds) next
    refl next.like.processes
    (ap (λ (l : List (ℕ × ℕ)). l ++ (thread, process) ∷ []) next.like.threads)
    refl next.like.calling

pub passes_stray : (old new : RunnerView) (thread addr word : ℕ) (below : List Line) (d : Declared) → new.lines ≡ old.lines → IsHappened old.core new.core (event.Stray thread addr word) → IsNextLine old (Stray thread addr word) below d → Passes new (Stray thread addr word) below d
passes_stray old new thread addr word below d lines h next =
    let (answer, is) = event_stray thread addr word h.e h.of in
    passes_one old new (entry.Stray thread addr word answer) (Stray thread addr word) below d (place_of old).calls lines (subst (Adds old.core new.core) is h.adds) next
    refl next.like.processes next.like.threads refl next.like.calling

-- a thread's call is the only one
put_calling : (calls : ℕ → Bool) (thread : ℕ) (calling : Option ℕ) → calling ≡ None → ((t : ℕ) → calls t ≡ true → calling ≡ Some t) → (t : ℕ) → put calls thread true t ≡ true → Some thread ≡ Some t
put_calling calls thread calling none like t is = by (cases_eq t thread)
  where
    by : (t ≡ thread) ⊎ (t ≢ thread) → Some thread ≡ Some t
    by (inl e) = ap Some (sym e)
    by (inr ne) =
        let had : calls t ≡ true = ap (λ (b : Bool). cond b true (calls t)) (sym (ne_eqb t thread ne)) ∙ is in
        let wrong : None ≡ Some t = sym none ∙ like t had in
        absurd (cc)

pub passes_call : (old new : RunnerView) (thread : ℕ) (command : Command) (below : List Line) (d : Declared) → new.lines ≡ old.lines → Adds old.core new.core (entry.Call thread command) → IsNextLine old (Call thread command) below d → Passes new (Call thread command) below d
passes_call old new thread command below d lines adds next =
    passes_one old new (entry.Call thread command) (Call thread command) below d (put (place_of old).calls thread true) lines adds next
    refl next.like.processes next.like.threads refl
    (put_calling (place_of old).calls thread d.calling next.stands.3 next.like.calling)

-- `do` is `call` and `finish`.
pub do_finishes : (old mid : RunnerView) (thread : ℕ) (command : Command) (below : List Line) → mid.lines ≡ old.lines → Adds old.core mid.core (entry.Call thread command) → IsBefore old (Do thread command ∷ below) → IsBefore mid (Finish thread ∷ below)
do_finishes old mid thread command below lines adds at =
    let calls : ℕ → Bool = put (place_of old).calls thread true in
    let made : place_of mid ≡ place_at below (ToTheEnd thread) calls = more_place old mid (entry.Call thread command) lines adds ∙ ap (λ (p : Place). followed p (entry.Call thread command)) at.place in
    record { place = stands_before (Finish thread ∷ below) (place_of mid) calls (made ∙ sym (finish_here thread below calls (put_same (place_of old).calls thread true))) }

-- the thread's call has ended, if it had one
others_call : (thread t : ℕ) (old new : ℕ → Bool) → new t ≡ (if eqb t thread then false else old t) → new t ≡ true → (t ≢ thread) × (old t ≡ true)
others_call thread t old new is has = by (cases_eq t thread)
  where
    by : (t ≡ thread) ⊎ (t ≢ thread) → (t ≢ thread) × (old t ≡ true)
    by (inl e) = clash (sym has ∙ is ∙ ap (λ (b : Bool). cond b false (old t)) (eq-eqb t thread e))
    by (inr ne) = (ne, ap (λ (b : Bool). cond b false (old t)) (sym (ne_eqb t thread ne)) ∙ sym is ∙ has)

pub passes_do : (old mid new : RunnerView) (thread : ℕ) (command : Command) (below : List Line) (d : Declared) → mid.lines ≡ old.lines → Adds old.core mid.core (entry.Call thread command) → IsEnded mid new thread below → IsNextLine old (Do thread command) below d → Passes new (Do thread command) below d
passes_do old mid new thread command below d lines adds ended next =
    let world = adds_world old.core mid.core (entry.Call thread command) adds in
    record {
      place = ended.place;
      like = record {
        processes = ap (λ (l : List (ℕ × Cred)). map (λ p. p.0) l) ended.who.processes ∙ ap (λ (w : World). map (λ p. p.0) w.base.machine.bus.processes) world ∙ next.like.processes;
        threads = ended.who.threads ∙ ap (λ (w : World). w.base.machine.bus.threads) world ∙ next.like.threads;
        fresh = λ b. clash b;
        calling = λ t is.
            let (ne, had) = others_call thread t (place_of mid).calls (place_of new).calls (ended.calls t) is in
            let mid_calls : (place_of mid).calls t ≡ put (place_of old).calls thread true t = ap (λ (p : Place). p.calls t) (more_place old mid (entry.Call thread command) lines adds) ∙ ap (λ (c : ℕ → Bool). c t) (behind_calls (place_of old).left (put (place_of old).calls thread true)) in
            let same : Some thread ≡ Some t = put_calling (place_of old).calls thread d.calling next.stands.3 next.like.calling t (sym mid_calls ∙ had) in
            let wrong : thread ≡ t = cc in
            absurd (ne (sym wrong));
      };
    }

pub passes_finish : (old new : RunnerView) (thread : ℕ) (below : List Line) (d : Declared) → IsEnded old new thread below → IsNextLine old (Finish thread) below d → Passes new (Finish thread) below d
passes_finish old new thread below d ended next = record {
  place = ended.place;
  like = record {
    processes = ap (λ (l : List (ℕ × Cred)). map (λ p. p.0) l) ended.who.processes ∙ next.like.processes;
    threads = ended.who.threads ∙ next.like.threads;
    fresh = λ b. clash b;
    calling = λ t is.
        let (ne, had) = others_call thread t (place_of old).calls (place_of new).calls (ended.calls t) is in
        ap (calling_behind thread) (next.like.calling t had) ∙ ap (λ (b : Bool). cond b None (Some t)) (ne_eqb t thread ne);
  };
}

pub passes_open : (old new : RunnerView) (thread : ℕ) (below : List Line) (d : Declared) → IsOpened old new thread below → IsNextLine old (Open thread) below d → Passes new (Open thread) below d
passes_open old new thread below d opened next = record {
  place = opened.place;
  like = record {
    processes = ap (λ (l : List (ℕ × Cred)). map (λ p. p.0) l) opened.who.processes ∙ next.like.processes;
    threads = opened.who.threads ∙ next.like.threads;
    fresh = λ b. clash b;
    calling = λ t is. next.like.calling t (opened.calls t is);
  };
}
