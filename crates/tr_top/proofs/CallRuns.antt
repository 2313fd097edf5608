-- What holds while turns of a call are made.
use Rattle.std.proofs.Common.{◌≡◌, ◌≢◌, ℕ, List, ◌∷◌, Bool, true, false, not, cond, if◌then◌else◌, ◌⊎◌, Option, Some, is_some, Ok, inl, inr, refl, sym, ap, subst, ◌∙◌, eq-eqb, ne_eqb, eqb}
use Rattle.std.proofs.lemmas.Bool.{cases_eq}
use Rattle.tr_types.specs.declared.entry.Entry.{Entry}
use Rattle.tr_types.specs.declared.entry.Entry.TheVariants as entry
use Rattle.tr_types.specs.declared.entry.Mark.{Mark}
use Rattle.tr_model.specs.Worlds.{World, stepped, put}
use Rattle.tr_script.specs.declared.script.Line.{Line}
use Rattle.tr_script.specs.declared.script.Line.TheVariants.{Finish, Open}
use Rattle.tr_core.specs.Core.{IsTurnOf, IsTurned, due_at, world_at}
use Rattle.tr_core.specs.declared.run.Turned.{Turned}
use Rattle.tr_top.specs.Along.{Place, ToAnOpening, before, followed, opens, place_at}
use Rattle.tr_top.specs.Running.{RunnerView, IsAlong, Goes, IsBefore, IsEnded, IsOpened, IsTurning, WhoStays, place_of}
use Rattle.tr_top.proofs.PlaceLemmas.{stands_before, finish_here, finish_past, open_here, open_past, put_same}
use Rattle.tr_top.proofs.AlongLemmas.{adds_world, turn_calls, clash}
use Rattle.tr_top.proofs.LineLemmas.{more_place}

-- Between two turns that are made to the end of a thread's call, for a line that stands before others.
pub record FinishRuns (old now : RunnerView) (thread : ℕ) (taken told : Option (List ℕ)) (before_faults after_faults : ℕ) : Type 0 where
  pub goes : Goes {T = Unit {0}} old now taken told before_faults after_faults (Ok tt)
  pub place : (below : List Line) → IsBefore old (Finish thread ∷ below) → IsBefore now (Finish thread ∷ below)
  pub calls : (t : ℕ) → t ≢ thread → (place_of now).calls t ≡ (place_of old).calls t
  pub who : WhoStays old now

-- and of those to an opening
pub record OpenRuns (old now : RunnerView) (thread : ℕ) (taken told : Option (List ℕ)) (before_faults after_faults : ℕ) : Type 0 where
  pub goes : Goes {T = Unit {0}} old now taken told before_faults after_faults (Ok tt)
  pub place : (below : List Line) → IsBefore old (Open thread ∷ below) → IsBefore now (Open thread ∷ below)
  pub calls : (t : ℕ) → (place_of now).calls t ≡ true → (place_of old).calls t ≡ true
  pub who : WhoStays old now

pub who_same : (r : RunnerView) → WhoStays r r
who_same r = record { processes = refl; threads = refl }

who_then : (old mid new : RunnerView) → WhoStays old mid → WhoStays mid new → WhoStays old new
who_then old mid new one two = record { processes = two.processes ∙ one.processes; threads = two.threads ∙ one.threads }

-- A turn starts nobody.
turn_processes : (w : World) (thread : ℕ) (m : Mark) (ended : Bool) (e : Entry) → IsTurnOf thread 0 m ended e → (stepped w e).base.machine.bus.processes ≡ w.base.machine.bus.processes
turn_processes w thread m false (entry.Act u now x action answer) is = refl
turn_processes w thread m true (entry.Reply u reply) is = refl
turn_processes w thread m false e is = absurd is
turn_processes w thread m true e is = absurd is

turn_threads : (w : World) (thread : ℕ) (m : Mark) (ended : Bool) (e : Entry) → IsTurnOf thread 0 m ended e → (stepped w e).base.machine.bus.threads ≡ w.base.machine.bus.threads
turn_threads w thread m false (entry.Act u now x action answer) is = refl
turn_threads w thread m true (entry.Reply u reply) is = refl
turn_threads w thread m false e is = absurd is
turn_threads w thread m true e is = absurd is

turned_who : (old new : RunnerView) (thread : ℕ) (turned : Turned) → IsTurned old.core new.core thread 0 turned → WhoStays old new
turned_who old new thread turned h =
    let world = adds_world old.core new.core h.e h.adds in
    record {
      processes = ap (λ (w : World). w.base.machine.bus.processes) world ∙ turn_processes (world_at old.core) thread h.mark turned.ended h.e h.turn;
      threads = ap (λ (w : World). w.base.machine.bus.threads) world ∙ turn_threads (world_at old.core) thread h.mark turned.ended h.e h.turn;
    }

-- Where lines begin with a `finish` or an `open` line of a thread that has a call, turns of that thread are due.
pub finish_turning : (r : RunnerView) (thread : ℕ) (below : List Line) → IsBefore r (Finish thread ∷ below) → (place_of r).calls thread ≡ true → IsTurning thread (place_of r).turns
finish_turning r thread below at has = subst (λ (p : Place). IsTurning thread p.turns) (sym (at.place ∙ finish_here thread below (place_of r).calls has)) refl

pub open_turning : (r : RunnerView) (thread : ℕ) (below : List Line) → IsBefore r (Open thread ∷ below) → (place_of r).calls thread ≡ true → IsTurning thread (place_of r).turns
open_turning r thread below at has = subst (λ (p : Place). IsTurning thread p.turns) (sym (at.place ∙ open_here thread below (place_of r).calls has)) refl

-- The place after a turn of a thread, where a line of it is being followed.
finish_step : (below : List Line) (calls : ℕ → Bool) (thread : ℕ) (m : Mark) (ended : Bool) (e : Entry) → calls thread ≡ true → IsTurnOf thread 0 m ended e → (next : ℕ → Bool) × (followed (before (Finish thread ∷ below) calls) e ≡ before (Finish thread ∷ below) next)
finish_step below calls thread m false (entry.Act u now x action answer) has is =
    let here = finish_here thread below calls has in
    (calls, ap (λ (p : Place). followed p (entry.Act u now x action answer)) here ∙ sym here)
finish_step below calls thread m true (entry.Reply u reply) has is =
    let next : ℕ → Bool = put calls thread false in
    (next, ap (λ (p : Place). followed p (entry.Reply u reply)) (finish_here thread below calls has) ∙ ap (λ (v : ℕ). before below (put calls v false)) is.0 ∙ sym (finish_past thread below next (put_same calls thread false)))
finish_step below calls thread m false e has is = absurd is
finish_step below calls thread m true e has is = absurd is

open_step : (below : List Line) (calls : ℕ → Bool) (thread : ℕ) (m : Mark) (ended : Bool) (e : Entry) → calls thread ≡ true → opens m ≡ false → IsTurnOf thread 0 m ended e → (next : ℕ → Bool) × (followed (before (Open thread ∷ below) calls) e ≡ before (Open thread ∷ below) next)
open_step below calls thread m false (entry.Act u now x action answer) has shut is =
    let here = open_here thread below calls has in
    let kept : followed (place_at below (ToAnOpening thread) calls) (entry.Act u now x action answer) ≡ place_at below (ToAnOpening thread) calls
    = ap (λ (b : Bool). cond b (before below calls) (place_at below (ToAnOpening thread) calls)) (ap opens is.2 ∙ shut) in
    (calls, ap (λ (p : Place). followed p (entry.Act u now x action answer)) here ∙ kept ∙ sym here)
open_step below calls thread m true (entry.Reply u reply) has shut is =
    let next : ℕ → Bool = put calls thread false in
    (next, ap (λ (p : Place). followed p (entry.Reply u reply)) (open_here thread below calls has) ∙ ap (λ (v : ℕ). before below (put calls v false)) is.0 ∙ sym (open_past thread below next (put_same calls thread false)))
open_step below calls thread m false e has shut is = absurd is
open_step below calls thread m true e has shut is = absurd is

opened_step : (below : List Line) (calls : ℕ → Bool) (thread : ℕ) (m : Mark) (ended : Bool) (e : Entry) → calls thread ≡ true → opens m ≡ true → IsTurnOf thread 0 m ended e → followed (before (Open thread ∷ below) calls) e ≡ before below calls
opened_step below calls thread m false (entry.Act u now x action answer) has lifts is =
    ap (λ (p : Place). followed p (entry.Act u now x action answer)) (open_here thread below calls has)
    ∙ ap (λ (b : Bool). cond b (before below calls) (place_at below (ToAnOpening thread) calls)) (ap opens is.2 ∙ lifts)
opened_step below calls thread m true (entry.Reply u reply) has lifts is = clash (sym lifts ∙ ap opens is.1)
opened_step below calls thread m false e has lifts is = absurd is
opened_step below calls thread m true e has lifts is = absurd is

-- a thread has a call where the core has a turn of it
pub has_call : (r : RunnerView) (thread : ℕ) (m : Mark) → IsAlong r.lines r.core → r.core.failed ≡ false → due_at r.core thread ≡ Some m → (place_of r).calls thread ≡ true
has_call r thread m along works due = along.calls works thread ∙ ap is_some due

pub same_mark : (d : Option Mark) (m n : Mark) → d ≡ Some m → d ≡ Some n → m ≡ n
same_mark d m n one two = let same : Some m ≡ Some n = sym one ∙ two in cc

-- The calls after a turn.
module _ (old new : RunnerView) (thread : ℕ) (turned : Turned) (lines : new.lines ≡ old.lines) (has : (place_of old).calls thread ≡ true) (h : IsTurned old.core new.core thread 0 turned) where
  moves : place_of new ≡ followed (place_of old) h.e
  moves = more_place old new h.e lines h.adds

  calls_are : (t : ℕ) → (place_of new).calls t ≡ (if eqb t thread then not turned.ended else (place_of old).calls t)
  calls_are t = ap (λ (p : Place). p.calls t) moves ∙ turn_calls (place_of old) thread h.mark turned.ended h.e h.turn has t

  calls_other : (t : ℕ) → t ≢ thread → (place_of new).calls t ≡ (place_of old).calls t
  calls_other t ne = calls_are t ∙ ap (λ (b : Bool). cond b (not turned.ended) ((place_of old).calls t)) (ne_eqb t thread ne)

  calls_fall : (t : ℕ) → (place_of new).calls t ≡ true → (place_of old).calls t ≡ true
  calls_fall t is = by (cases_eq t thread)
    where
      by : (t ≡ thread) ⊎ (t ≢ thread) → (place_of old).calls t ≡ true
      by (inl e) = ap (place_of old).calls e ∙ has
      by (inr ne) = sym (calls_other t ne) ∙ is

  finish_on : (below : List Line) → IsBefore old (Finish thread ∷ below) → IsBefore new (Finish thread ∷ below)
  finish_on below at =
      let (next, steps) = finish_step below (place_of old).calls thread h.mark turned.ended h.e has h.turn in
      record { place = stands_before (Finish thread ∷ below) (place_of new) next (moves ∙ ap (λ (p : Place). followed p h.e) at.place ∙ steps) }

  open_on : opens h.mark ≡ false → (below : List Line) → IsBefore old (Open thread ∷ below) → IsBefore new (Open thread ∷ below)
  open_on shut below at =
      let (next, steps) = open_step below (place_of old).calls thread h.mark turned.ended h.e has shut h.turn in
      record { place = stands_before (Open thread ∷ below) (place_of new) next (moves ∙ ap (λ (p : Place). followed p h.e) at.place ∙ steps) }

  opened_on : opens h.mark ≡ true → (below : List Line) → IsBefore old (Open thread ∷ below) → IsBefore new below
  opened_on lifts below at =
      record { place = stands_before below (place_of new) (place_of old).calls (moves ∙ ap (λ (p : Place). followed p h.e) at.place ∙ opened_step below (place_of old).calls thread h.mark turned.ended h.e has lifts h.turn) }

  pub finish_turned : (start : RunnerView) → ((below : List Line) → IsBefore start (Finish thread ∷ below) → IsBefore old (Finish thread ∷ below)) → (below : List Line) → IsBefore start (Finish thread ∷ below) → IsBefore new (Finish thread ∷ below)
  finish_turned start place below at = finish_on below (place below at)

  pub finish_calls : (start : RunnerView) → ((t : ℕ) → t ≢ thread → (place_of old).calls t ≡ (place_of start).calls t) → (t : ℕ) → t ≢ thread → (place_of new).calls t ≡ (place_of start).calls t
  finish_calls start calls t ne = calls_other t ne ∙ calls t ne

  pub open_turned : (start : RunnerView) → opens h.mark ≡ false → ((below : List Line) → IsBefore start (Open thread ∷ below) → IsBefore old (Open thread ∷ below)) → (below : List Line) → IsBefore start (Open thread ∷ below) → IsBefore new (Open thread ∷ below)
  open_turned start shut place below at = open_on shut below (place below at)

  pub open_calls : (start : RunnerView) → ((t : ℕ) → (place_of old).calls t ≡ true → (place_of start).calls t ≡ true) → (t : ℕ) → (place_of new).calls t ≡ true → (place_of start).calls t ≡ true
  open_calls start calls t is = calls t (calls_fall t is)

  pub turned_then : (start : RunnerView) → WhoStays start old → WhoStays start new
  turned_then start who = who_then start old new who (turned_who old new thread turned h)

  -- the turn has opened a window
  pub opened_now : (start : RunnerView) (below : List Line) → opens h.mark ≡ true → IsBefore start (Open thread ∷ below) → ((below : List Line) → IsBefore start (Open thread ∷ below) → IsBefore old (Open thread ∷ below))
      → ((t : ℕ) → (place_of old).calls t ≡ true → (place_of start).calls t ≡ true) → WhoStays start old → IsOpened start new thread below
  opened_now start below lifts at place calls who = record {
    place = opened_on lifts below (place below at);
    calls = open_calls start calls;
    who = turned_then start who;
  }

-- The thread has no call any more.
pub finish_ended : (start r : RunnerView) (thread : ℕ) (below : List Line) → (place_of r).calls thread ≡ false → IsBefore r (Finish thread ∷ below) → ((t : ℕ) → t ≢ thread → (place_of r).calls t ≡ (place_of start).calls t) → WhoStays start r → IsEnded start r thread below
finish_ended start r thread below none at calls who = record {
  place = record { place = at.place ∙ finish_past thread below (place_of r).calls none };
  calls = λ t. by t (cases_eq t thread);
  who = who;
}
  where
    by : (t : ℕ) → (t ≡ thread) ⊎ (t ≢ thread) → (place_of r).calls t ≡ (if eqb t thread then false else (place_of start).calls t)
    by t (inl e) = ap (place_of r).calls e ∙ none ∙ ap (λ (b : Bool). cond b false ((place_of start).calls t)) (sym (eq-eqb t thread e))
    by t (inr ne) = calls t ne ∙ ap (λ (b : Bool). cond b false ((place_of start).calls t)) (sym (ne_eqb t thread ne))

pub open_ended : (start r : RunnerView) (thread : ℕ) (below : List Line) → (place_of r).calls thread ≡ false → IsBefore r (Open thread ∷ below) → ((t : ℕ) → (place_of r).calls t ≡ true → (place_of start).calls t ≡ true) → WhoStays start r → IsOpened start r thread below
open_ended start r thread below none at calls who = record {
  place = record { place = at.place ∙ open_past thread below (place_of r).calls none };
  calls = calls;
  who = who;
}
