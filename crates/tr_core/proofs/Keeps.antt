-- What a core keeps with each entry that its trace gains, and what it answers.
use Rattle.std.proofs.Common.{◌≡◌, ◌≢◌, ◌⊎◌, inl, inr, ℕ, ◌<◌, ◌≤◌, List, [], ◌∷◌, ◌++◌, length, map, Bool, true, false, cond, eqb, Contains, Option, Some, None, is_none, IsSome, Ok, zero, suc, refl, sym, ap, subst, ◌∙◌, arith}
use Rattle.std.specs.List.{slice_get}
use Rattle.pm_words.proofs.WordLemmas.{present_all_durable}
use Rattle.kern_model.specs.NewImage.{new_image}
use Rattle.bus_model.specs.Machine.{Machine, Bus, ThreadWasStarted, ProcessWasStarted, ThreadLives, IsDue, IsStored, Answers, pkru_of, with_process, with_thread, bus_after}
use Rattle.bus_machine.specs.View.{MachineView}
use Rattle.bus_machine.specs.Calls.{with_bus}
use Rattle.tr_types.specs.declared.action.Action.TheVariants.{Store}
use Rattle.tr_types.specs.declared.action.Answer.{Answer}
use Rattle.tr_types.specs.declared.action.Answer.TheVariants.{Fault}
use Rattle.tr_types.specs.declared.action.FaultKind.{FaultKind}
use Rattle.tr_types.specs.declared.command.Command.{Command}
use Rattle.tr_types.specs.declared.entry.Entry.{Entry}
use Rattle.tr_types.specs.declared.entry.Entry.TheVariants as entry
use Rattle.tr_types.specs.declared.entry.Mark.{Mark}
use Rattle.tr_types.specs.declared.entry.Mark.TheVariants.{Plain}
use Rattle.tr_types.specs.declared.kernel_call.Holder.{Holder}
use Rattle.tr_types.specs.declared.limits.TheConstants.{THREADS}
use Rattle.tr_types.specs.declared.permission.Cred.{Cred}
use Rattle.zo_model.specs.Alone.{root_cred}
use Rattle.zo_model.specs.Commands.{IsCommand}
use Rattle.tr_model.specs.OneWindow.{IsKey}
use Rattle.kern_model.specs.Rights.{closed_pkru}
use Rattle.tr_model.specs.Worlds.{World, put, stepped, MayCome}
use Rattle.tr_dispatch.specs.Sessions.{RunsOn, GivesAction}
use Rattle.tr_dispatch.specs.declared.session.SessionStep.{SessionStep}
use Rattle.tr_dispatch.specs.declared.session.SessionStep.TheVariants as step
use Rattle.tr_core.specs.declared.calls.Waiting.{Waiting}
use Rattle.tr_core.specs.declared.run.Turned.{Turned}
use Rattle.tr_core.specs.declared.event.FaultEvent.{FaultEvent}
use Rattle.tr_core.specs.declared.event.FaultEvent.TheVariants as event
use Rattle.tr_core.specs.declared.limits.TheConstants.{TRACE_LIMIT}
use Rattle.tr_core.specs.Core.{CoreView, IsTurnOf, IsOfEvent, IsNamed, MayHappen, IsQuiet, Adds, GivesAs, IsTurned, IsHappened, IsStrayOf, HasThread, HasProcess, IsDueAt, due_in, due_at}
use Rattle.tr_core.specs.Places.{place_in}
use Rattle.tr_core.specs.Standing.{Stands, StandsAs, IsTimeless, AreRoots, due_of, mark_of}
use Rattle.tr_core.specs.Steps.{Acts, Begins, StepsBy, Steps, CanHappen, Happens, HappensBy, NobodyHasEnded, Strays}
use Rattle.tr_core.specs.Traces.{IsTraceOf, world_after}
use Rattle.tr_core.proofs.Events.{event_next, event_stands}
use Rattle.tr_core.proofs.Growing.{IsNext, grows, world_more, thread_lives, process_lives, length_more}
use Rattle.tr_dispatch.proofs.Worlds.{put_same, put_other}
use Rattle.tr_dispatch.proofs.SessionLaws.{stray_refused, rooted_key}
use Rattle.tr_core.proofs.Turns.{some_none, call_next, call_stands, ready_now, valid_now, act_next, act_stands, reply_next, reply_stands}
use Rattle.tr_core.proofs.Users.{roots_process, roots_thread, thread_stays}

-- a core as its callers see it
abbrev pub view : List ℕ → List Entry → List (Option Waiting) → Bool → CoreView
view opening trace places failed = record { opening = opening; trace = trace; marks = map due_of places; failed = failed }

-- the mark of a thread's next action is that of its call's
pub due_is : (places : List (Option Waiting)) (t : ℕ) → due_in (slice_get (map due_of places) t) ≡ due_of (place_in places t)
due_is [] t = refl
due_is (place ∷ places) zero = refl
due_is (place ∷ places) (suc t) = due_is places t

-- what a core keeps
abbrev pub Keeps : List ℕ → List Entry → MachineView → (ℕ → Option Waiting) → Type 0
Keeps opening trace m calls = IsTraceOf opening trace × Stands (world_after opening trace) m calls

-- a core with one more entry keeps all that it has to
keeps : (opening : List ℕ) (trace longer : List Entry) (e : Entry) (next : MachineView) (later : ℕ → Option Waiting) → IsTraceOf opening trace → length trace < TRACE_LIMIT → longer ≡ trace ++ e ∷ []
    → IsNext (world_after opening trace) e → Stands (stepped (world_after opening trace) e) next later → Keeps opening longer next later
keeps opening trace longer e next later run room is comes stands = (
  subst (IsTraceOf opening) (sym is) (grows opening trace e run comes room),
  subst (λ t. Stands (world_after opening t) next later) (sym is) (subst (λ w. Stands w next later) (sym (world_more opening trace e)) stands),
)

-- no call is due where none is under way
due_none : (c : Option Waiting) → due_of c ≡ None → c ≡ None
due_none None is = refl
due_none (Some waiting) is = let clash : Some (mark_of waiting.call.value.next) ≡ None = is in cc

module _ (opening : List ℕ) (trace : List Entry) (m : MachineView) (places : List (Option Waiting)) (run : IsTraceOf opening trace) (k : Stands (world_after opening trace) m (place_in places)) (room : length trace < TRACE_LIMIT) where
  abbrev calls : ℕ → Option Waiting
  calls = place_in places

  abbrev w : World
  w = world_after opening trace

  -- A call was given.
  module _ (quiet : IsQuiet (view opening trace places false)) (thread : ℕ) (command : Command) (started : ThreadWasStarted w.base.machine.bus thread) (valid : IsCommand command) (longer : List Entry) (is : longer ≡ trace ++ entry.Call thread command ∷ []) (waiting : Waiting) (begins : Begins thread command waiting) (later : List (Option Waiting)) (set : (t : ℕ) → place_in later t ≡ put calls thread (Some waiting) t) where
    none_due : (t : ℕ) → calls t ≡ None
    none_due t = due_none (calls t) (sym (due_is places t) ∙ quiet t)

    set_call : place_in later ≡ put calls thread (Some waiting)
    set_call = λ i t. set t i

    pub given_keeps : Keeps opening longer m (place_in later)
    given_keeps = keeps opening trace longer (entry.Call thread command) m (place_in later) run room is
        (call_next w m calls k none_due thread command started valid)
        (subst (Stands (stepped w (entry.Call thread command)) m) (sym set_call) (call_stands w m calls k none_due thread command started valid waiting begins))

    pub given_is : GivesAs (view opening trace places false) (view opening longer later false) thread command (Ok tt)
    given_is = (record { worked = refl; works = refl; opening = refl; room = room; trace = is }, started, quiet thread, (mark_of waiting.call.value.next, λ t. due_is later t ∙ ap due_of (set t) ∙ by t (eqb t thread)))
      where
        by : (t : ℕ) (b : Bool) → due_of (cond b (Some waiting) (calls t)) ≡ cond b (Some (mark_of waiting.call.value.next)) (due_in (slice_get (map due_of places) t))
        by t true = refl
        by t false = sym (due_is places t)

  -- A turn was made.
  module _ (thread now : ℕ) (due : IsDue w.base.machine now) (started : ThreadWasStarted w.base.machine.bus thread) (waiting : Waiting) (has : calls thread ≡ Some waiting) (next : MachineView) (longer : List Entry) where
    -- the places then
    abbrev IsSet : List (Option Waiting) → Option Waiting → Type 0
    IsSet later c = (t : ℕ) → place_in later t ≡ put calls thread c t

    others_put : (later : List (Option Waiting)) (c : Option Waiting) → IsSet later c → (t : ℕ) → t ≢ thread → due_in (slice_get (map due_of later) t) ≡ due_in (slice_get (map due_of places) t)
    others_put later c set t other = due_is later t ∙ ap due_of (set t ∙ put_other calls thread c t other) ∙ sym (due_is places t)

    this_put : (later : List (Option Waiting)) (c : Option Waiting) → IsSet later c → due_in (slice_get (map due_of later) thread) ≡ due_of c
    this_put later c set = due_is later thread ∙ ap due_of (set thread ∙ put_same calls thread c)

    set_all : (later : List (Option Waiting)) (c : Option Waiting) → IsSet later c → place_in later ≡ put calls thread c
    set_all later c set = λ i t. set t i

    act_keeps : (s : SessionStep) → waiting.call.value.next ≡ s → (after : Option Waiting) → StepsBy waiting.call.value.session s thread now m next trace longer after → (later : List (Option Waiting)) → IsSet later after → Keeps opening longer next (place_in later)
    act_keeps (step.Act action mark) is (Some after) steps later set =
        let answers = subst (λ (b : Bus). Answers b thread now action steps.answer) k.bus steps.answers in
        keeps opening trace longer (entry.Act thread now mark action steps.answer) next (place_in later) run room steps.gains
        (act_next w m calls k thread waiting has now due mark action is steps.answer answers)
        (subst (Stands (stepped w (entry.Act thread now mark action steps.answer)) next) (sym (set_all later (Some after) set))
        (act_stands w m calls k thread waiting has now due mark action is steps.answer answers next steps.machine after steps.thread_is steps.command_is steps.leads steps.runs (steps.gives (valid_now w m calls k thread waiting has))))
    act_keeps (step.Over reply) is None steps later set =
        keeps opening trace longer (entry.Reply thread reply) next (place_in later) run room steps.1
        (reply_next w m calls k thread waiting has reply is)
        (subst (λ x. Stands (stepped w (entry.Reply thread reply)) x (place_in later)) (sym steps.0) (subst (Stands (stepped w (entry.Reply thread reply)) m) (sym (set_all later None set)) (reply_stands w m calls k thread waiting has reply is)))
    act_keeps (step.Act action mark) is None steps later set = absurd steps
    act_keeps (step.Over reply) is (Some after) steps later set = absurd steps

    pub turn_keeps : (after : Option Waiting) → Steps waiting thread now m next trace longer after → (later : List (Option Waiting)) → IsSet later after → Keeps opening longer next (place_in later)
    turn_keeps after steps later set = act_keeps waiting.call.value.next refl after steps later set

    turn_by : (s : SessionStep) → waiting.call.value.next ≡ s → (after : Option Waiting) → StepsBy waiting.call.value.session s thread now m next trace longer after → (later : List (Option Waiting)) → IsSet later after
        → (turned : Turned) → turned.position ≡ length longer → turned.ended ≡ is_none after → IsTurned (view opening trace places false) (view opening longer later false) thread now turned
    turn_by (step.Act action mark) is (Some after) steps later set turned position ended = record {
      e = entry.Act thread now mark action steps.answer;
      adds = record { worked = refl; works = refl; opening = refl; room = room; trace = steps.gains };
      started = started;
      mark = mark;
      was_due = due_is places thread ∙ ap due_of has ∙ ap (λ (s : SessionStep). Some (mark_of s)) is;
      turn = subst (λ b. IsTurnOf thread now mark b (entry.Act thread now mark action steps.answer)) (sym ended) (refl, refl, refl);
      position = position;
      others = others_put later (Some after) set;
      ended = ap (λ (d : Option Mark). is_none d) (this_put later (Some after) set) ∙ sym ended;
    }
    turn_by (step.Over reply) is None steps later set turned position ended = record {
      e = entry.Reply thread reply;
      adds = record { worked = refl; works = refl; opening = refl; room = room; trace = steps.1 };
      started = started;
      mark = Plain;
      was_due = due_is places thread ∙ ap due_of has ∙ ap (λ (s : SessionStep). Some (mark_of s)) is;
      turn = subst (λ b. IsTurnOf thread now Plain b (entry.Reply thread reply)) (sym ended) (refl, refl);
      position = position;
      others = others_put later None set;
      ended = ap (λ (d : Option Mark). is_none d) (this_put later None set) ∙ sym ended;
    }
    turn_by (step.Act action mark) is None steps later set turned position ended = absurd steps
    turn_by (step.Over reply) is (Some after) steps later set turned position ended = absurd steps

    pub turn_is : (after : Option Waiting) → Steps waiting thread now m next trace longer after → (later : List (Option Waiting)) → IsSet later after
        → (turned : Turned) → turned.position ≡ length longer → turned.ended ≡ is_none after → IsTurned (view opening trace places false) (view opening longer later false) thread now turned
    turn_is after steps later set turned position ended = turn_by waiting.call.value.next refl after steps later set turned position ended

  -- An event has come about.
  keys : (row : Holder) → Contains m.bus.holders row → IsKey row.key
  keys row among = rooted_key w k.rooted row (subst (λ (b : Bus). Contains b.holders row) k.bus among)

  still_timeless : (v : World) → v.base.machine.clock ≡ w.base.machine.clock → v.base.machine.latest ≡ w.base.machine.latest → v.base.machine.ended ≡ w.base.machine.ended → v.base.machine.down ≡ w.base.machine.down → IsTimeless v.base.machine
  still_timeless v clock latest ended down = record { clock = clock ∙ k.timeless.clock; latest = latest ∙ k.timeless.latest; ended = ended ∙ k.timeless.ended; up = down ∙ k.timeless.up }

  -- an event's entry, after which the machine is this
  module _ (e : Entry) (next : MachineView) (longer : List Entry) (is : longer ≡ trace ++ e ∷ []) where
    happened : IsNext w e → Stands (stepped w e) next calls → Keeps opening longer next calls
    happened comes stands = keeps opening trace longer e next calls run room is comes stands

  mkfs_keeps : (pages : ℕ) → trace ≡ [] → opening ≡ new_image pages → (next : MachineView) → next ≡ m → (longer : List Entry) → longer ≡ trace ++ entry.Mkfs pages ∷ [] → Keeps opening longer next calls
  mkfs_keeps pages first image next still longer is = happened (entry.Mkfs pages) next longer is
      (event_next w m calls k (entry.Mkfs pages) comes refl refl refl tt tt tt tt tt tt)
      (event_stands w m calls k (entry.Mkfs pages) comes refl refl refl next (ap (λ (x : MachineView). x.failed) still ∙ k.works) (ap (λ (x : MachineView). x.bus) still ∙ k.bus) (ap (λ (x : MachineView). x.ended) still ∙ k.ended) (ap (λ (x : MachineView). x.down) still ∙ k.down) (λ t l. l)
      (still_timeless (stepped w (entry.Mkfs pages)) refl refl refl refl) k.users)
    where
      comes : MayCome w (entry.Mkfs pages)
      comes = subst (λ t. MayCome (world_after opening t) (entry.Mkfs pages)) (sym first) (refl, present_all_durable opening ∙ image)

  process_keeps : (process : ℕ) (cred : Cred) → MayHappen (view opening trace places false) (event.Process process cred) → (next : MachineView) → next ≡ with_bus m (with_process process cred m.bus) → (longer : List Entry) → longer ≡ trace ++ entry.Process process cred ∷ []
      → Keeps opening longer next calls
  process_keeps process cred may next moved longer is = happened (entry.Process process cred) next longer is
      (event_next w m calls k (entry.Process process cred) comes refl refl refl tt tt tt tt tt tt)
      (event_stands w m calls k (entry.Process process cred) comes refl refl refl next (ap (λ (x : MachineView). x.failed) moved ∙ k.works) (ap (λ (x : MachineView). x.bus) moved ∙ ap (λ (b : Bus). with_process process cred b) k.bus) (ap (λ (x : MachineView). x.ended) moved ∙ k.ended) (ap (λ (x : MachineView). x.down) moved ∙ k.down) (λ t l. l)
      (still_timeless (stepped w (entry.Process process cred)) refl refl refl refl) (roots_process w.base.machine.bus process cred may.2 k.users))
    where
      comes : MayCome w (entry.Process process cred)
      comes = (may.0, may.1, k.timeless.up)

  thread_keeps : (thread process : ℕ) → MayHappen (view opening trace places false) (event.Thread thread process) → ProcessWasStarted w.base.machine.bus process → (next : MachineView) → next ≡ with_bus m (with_thread thread process m.bus) → (longer : List Entry) → longer ≡ trace ++ entry.Thread thread process ∷ []
      → Keeps opening longer next calls
  thread_keeps thread process may named next moved longer is = happened (entry.Thread thread process) next longer is
      (event_next w m calls k (entry.Thread thread process) comes refl refl refl tt tt tt tt tt tt)
      (event_stands w m calls k (entry.Thread thread process) comes refl refl refl next (ap (λ (x : MachineView). x.failed) moved ∙ k.works) (ap (λ (x : MachineView). x.bus) moved ∙ ap (λ (b : Bus). with_thread thread process b) k.bus) (ap (λ (x : MachineView). x.ended) moved ∙ k.ended) (ap (λ (x : MachineView). x.down) moved ∙ k.down)
      (λ t l. thread_lives (stepped w (entry.Thread thread process)).base.machine t timeless (thread_stays w.base.machine.bus thread process t l.0))
      timeless (roots_thread w.base.machine.bus thread process named k.users))
    where
      comes : MayCome w (entry.Thread thread process)
      comes = (may.0, may.1, process_lives w.base.machine process k.timeless named)

      timeless : IsTimeless (stepped w (entry.Thread thread process)).base.machine
      timeless = still_timeless (stepped w (entry.Thread thread process)) refl refl refl refl

  -- a thread without a call has its register closed
  closed_by : (thread : ℕ) (c : Option Waiting) → c ≡ None → StandsAs w thread c → pkru_of w.base.machine.bus thread ≡ closed_pkru
  closed_by thread None none s = s.1.register
  closed_by thread (Some waiting) none s = absurd (some_none waiting none)

  fault_keeps : (thread addr word : ℕ) (kind : FaultKind) → ThreadWasStarted w.base.machine.bus thread → IsStored w.base.machine.bus thread addr (Fault kind) → (next : MachineView) → next ≡ with_bus m (bus_after thread 0 (Store addr word) (Fault kind) m.bus) → (longer : List Entry)
      → longer ≡ trace ++ entry.Stray thread addr word (Fault kind) ∷ [] → Keeps opening longer next calls
  fault_keeps thread addr word kind named stored next moved longer is = happened (entry.Stray thread addr word (Fault kind)) next longer is
      (event_next w m calls k (entry.Stray thread addr word (Fault kind)) comes refl refl refl tt tt tt tt tt tt)
      (event_stands w m calls k (entry.Stray thread addr word (Fault kind)) comes refl refl refl next (ap (λ (x : MachineView). x.failed) moved ∙ k.works) (ap (λ (x : MachineView). x.bus) moved ∙ ap (λ (b : Bus). bus_after thread 0 (Store addr word) (Fault kind) b) k.bus) (ap (λ (x : MachineView). x.ended) moved ∙ k.ended) (ap (λ (x : MachineView). x.down) moved ∙ k.down) (λ t l. l)
      (still_timeless (stepped w (entry.Stray thread addr word (Fault kind))) refl refl refl refl) (record { creds = k.users.creds; housed = k.users.housed }))
    where
      comes : MayCome w (entry.Stray thread addr word (Fault kind))
      comes = (thread_lives w.base.machine thread k.timeless named, stored)

  stray_keeps : (thread addr word : ℕ) → due_in (slice_get (map due_of places) thread) ≡ None → ThreadWasStarted w.base.machine.bus thread → (next : MachineView) (e : Entry) → Strays thread addr word m next e → (longer : List Entry) → longer ≡ trace ++ e ∷ [] → Keeps opening longer next calls
  stray_keeps thread addr word idle named next e strays longer is =
      let closed = ap (λ (b : Bus). pkru_of b thread) k.bus ∙ closed_by thread (calls thread) (due_none (calls thread) (sym (due_is places thread) ∙ idle)) (k.each thread) in
      let refused = stray_refused m.bus thread addr closed keys strays.answer strays.stored in
      fault_keeps thread addr word refused.0 named
      (subst (λ (b : Bus). IsStored b thread addr (Fault refused.0)) k.bus (subst (IsStored m.bus thread addr) refused.1 strays.stored))
      next (strays.machine ∙ ap (λ a. with_bus m (bus_after thread 0 (Store addr word) a m.bus)) refused.1)
      longer (is ∙ ap (λ x. trace ++ x ∷ []) (strays.entry_is ∙ ap (λ a. entry.Stray thread addr word a) refused.1))

  event_by : (happening : FaultEvent) → MayHappen (view opening trace places false) happening → IsNamed (view opening trace places false) happening → (next : MachineView) (e : Entry) → HappensBy happening m next e → (longer : List Entry) → longer ≡ trace ++ e ∷ [] → Keeps opening longer next calls
  event_by (event.Mkfs pages) may named next e by longer is = mkfs_keeps pages may.0 may.1 next by.0 longer (is ∙ ap (λ x. trace ++ x ∷ []) by.1)
  event_by (event.Process process cred) may named next e by longer is = process_keeps process cred may next by.0 longer (is ∙ ap (λ x. trace ++ x ∷ []) by.1)
  event_by (event.Thread thread process) may named next e by longer is = thread_keeps thread process may named next by.0 longer (is ∙ ap (λ x. trace ++ x ∷ []) by.1)
  event_by (event.Stray thread addr word) may named next e by longer is = stray_keeps thread addr word may named next e by longer is

  pub event_keeps : (happening : FaultEvent) → MayHappen (view opening trace places false) happening → IsNamed (view opening trace places false) happening → (next : MachineView) (longer : List Entry) → Happens happening m next trace longer → Keeps opening longer next calls
  event_keeps happening may named next longer (e, by, is) = event_by happening may named next e by longer is

  of_event : (happening : FaultEvent) (next : MachineView) (e : Entry) → HappensBy happening m next e → IsOfEvent happening e
  of_event (event.Mkfs pages) next e by = by.1
  of_event (event.Process process cred) next e by = by.1
  of_event (event.Thread thread process) next e by = by.1
  of_event (event.Stray thread addr word) next e by = subst (IsStrayOf thread addr word) (sym by.entry_is) (refl, refl, refl)

  pub event_is : (happening : FaultEvent) → IsNamed (view opening trace places false) happening → (next : MachineView) (longer : List Entry) → Happens happening m next trace longer → IsHappened (view opening trace places false) (view opening longer places false) happening
  event_is happening named next longer (e, by, is) = record {
    e = e;
    adds = record { worked = refl; works = refl; opening = refl; room = room; trace = is };
    named = named;
    of = of_event happening next e by;
    due = λ t. refl;
  }

  -- the machine can do it
  can_by : (happening : FaultEvent) → MayHappen (view opening trace places false) happening → IsNamed (view opening trace places false) happening → CanHappen w.base.machine.bus happening
  can_by (event.Mkfs pages) may named = tt
  can_by (event.Process process cred) may named = (may.0, may.1)
  can_by (event.Thread thread process) may named = (may.0, may.1, named)
  can_by (event.Stray thread addr word) may named = named

  pub can_happen : (happening : FaultEvent) → MayHappen (view opening trace places false) happening → IsNamed (view opening trace places false) happening → CanHappen m.bus happening
  can_happen happening may named = subst (λ (b : Bus). CanHappen b happening) (sym k.bus) (can_by happening may named)

-- A core whose fields are these, as its callers see it.
module _ (opening : List ℕ) (trace : List Entry) (m : MachineView) (places : List (Option Waiting)) (failed : Bool) (now : CoreView) (is : view opening trace places failed ≡ now)
    (kept : IsTraceOf opening trace × (failed ≡ false → Stands (world_after opening trace) m (place_in places))) (works : now.failed ≡ false) where
  works_is : failed ≡ false
  works_is = ap (λ (c : CoreView). c.failed) is ∙ works

  pub stands_now : Stands (world_after opening trace) m (place_in places)
  stands_now = kept.1 works_is

  now_is : view opening trace places false ≡ now
  now_is = ap (view opening trace places) (sym works_is) ∙ is

  -- what is said of the core, of its fields
  pub of_fields : (P : CoreView → Type 0) → P now → P (view opening trace places false)
  of_fields P = subst P (sym now_is)

  -- what is said of two moments of it
  pub of_views : (P : CoreView → CoreView → Type 0) (longer : List Entry) (later : List (Option Waiting)) → P (view opening trace places false) (view opening longer later false) → P now (view opening longer later failed)
  of_views P longer later p = subst (λ b. P now (view opening longer later b)) (sym works_is) (subst (λ c. P c (view opening longer later false)) now_is p)

  pub small_now : (thread : ℕ) → HasThread now thread → thread < THREADS
  small_now thread was = stands_now.registers.small thread (of_fields (λ c. HasThread c thread) was)

  pub nobody_ended : NobodyHasEnded m
  nobody_ended = (stands_now.down ∙ stands_now.timeless.up, stands_now.ended ∙ stands_now.timeless.ended)

  pub given_all : (thread : ℕ) (command : Command) → HasThread now thread → length now.trace < TRACE_LIMIT → IsCommand command → IsQuiet now → (longer : List Entry) → longer ≡ trace ++ entry.Call thread command ∷ [] → (waiting : Waiting) → Begins thread command waiting
      → (later : List (Option Waiting)) → ((t : ℕ) → place_in later t ≡ put (place_in places) thread (Some waiting) t) → Keeps opening longer m (place_in later) × GivesAs now (view opening longer later failed) thread command (Ok tt)
  given_all thread command started room valid quiet longer grown waiting begins later set = (
    given_keeps opening trace m places kept.0 stands_now (of_fields (λ c. length c.trace < TRACE_LIMIT) room) (of_fields IsQuiet quiet) thread command (of_fields (λ c. HasThread c thread) started) valid longer grown waiting begins later set,
    of_views (λ old new. GivesAs old new thread command (Ok tt)) longer later
        (given_is opening trace m places kept.0 stands_now (of_fields (λ c. length c.trace < TRACE_LIMIT) room) (of_fields IsQuiet quiet) thread command (of_fields (λ c. HasThread c thread) started) valid longer grown waiting begins later set),
  )

  pub turn_all : (thread tick : ℕ) → HasThread now thread → length now.trace < TRACE_LIMIT → IsDueAt now tick → (waiting : Waiting) → place_in places thread ≡ Some waiting → (next : MachineView) (longer : List Entry) (after : Option Waiting) → Steps waiting thread tick m next trace longer after
      → (later : List (Option Waiting)) → ((t : ℕ) → place_in later t ≡ put (place_in places) thread after t) → (turned : Turned) → turned.position ≡ length longer → turned.ended ≡ is_none after
      → Keeps opening longer next (place_in later) × IsTurned now (view opening longer later failed) thread tick turned
  turn_all thread tick started room due waiting has next longer after steps later set turned position ended = (
    turn_keeps opening trace m places kept.0 stands_now (of_fields (λ c. length c.trace < TRACE_LIMIT) room) thread tick (of_fields (λ c. IsDueAt c tick) due) (of_fields (λ c. HasThread c thread) started) waiting has next longer after steps later set,
    of_views (λ old new. IsTurned old new thread tick turned) longer later
        (turn_is opening trace m places kept.0 stands_now (of_fields (λ c. length c.trace < TRACE_LIMIT) room) thread tick (of_fields (λ c. IsDueAt c tick) due) (of_fields (λ c. HasThread c thread) started) waiting has next longer after steps later set turned position ended),
  )

  -- what a waiting call is given to make
  pub ready_all : (thread : ℕ) (waiting : Waiting) → place_in places thread ≡ Some waiting → RunsOn waiting.call.value.session.stage waiting.call.value.next × GivesAction waiting.call.value.next
  ready_all thread waiting has = let ready = ready_now (world_after opening trace) m (place_in places) stands_now thread waiting has in (ready.runs, ready.gives)

  pub started_all : (thread : ℕ) → HasThread now thread → ThreadWasStarted m.bus thread
  started_all thread was = subst (λ (b : Bus). ThreadWasStarted b thread) (sym stands_now.bus) (of_fields (λ c. HasThread c thread) was)

  pub has_call : (thread : ℕ) → IsSome (due_at now thread) → place_in places thread ≡ None → ⊥
  has_call thread some none = no_some (subst IsSome (due_is places thread ∙ ap due_of none) (of_fields (λ c. IsSome (due_at c thread)) some))
    where
      no_some : IsSome (due_of None) → ⊥
      no_some clash = cc

  pub event_all : (happening : FaultEvent) → IsNamed now happening → length now.trace < TRACE_LIMIT → MayHappen now happening → (next : MachineView) (longer : List Entry) → Happens happening m next trace longer
      → Keeps opening longer next (place_in places) × IsHappened now (view opening longer places failed) happening
  event_all happening named room may next longer happens = (
    event_keeps opening trace m places kept.0 stands_now (of_fields (λ c. length c.trace < TRACE_LIMIT) room) happening (of_fields (λ c. MayHappen c happening) may) (of_fields (λ c. IsNamed c happening) named) next longer happens,
    of_views (λ old new. IsHappened old new happening) longer places
        (event_is opening trace m places kept.0 stands_now (of_fields (λ c. length c.trace < TRACE_LIMIT) room) happening (of_fields (λ c. IsNamed c happening) named) next longer happens),
  )

  pub can_all : (happening : FaultEvent) → IsNamed now happening → length now.trace < TRACE_LIMIT → MayHappen now happening → CanHappen m.bus happening
  can_all happening named room may = can_happen opening trace m places kept.0 stands_now (of_fields (λ c. length c.trace < TRACE_LIMIT) room) happening (of_fields (λ c. MayHappen c happening) may) (of_fields (λ c. IsNamed c happening) named)

  -- whom an event names was started on the machine
  pub process_named : (process : ℕ) → ProcessWasStarted m.bus process → HasProcess now process
  process_named process was = subst (λ c. HasProcess c process) now_is (subst (λ (b : Bus). ProcessWasStarted b process) stands_now.bus was)
