-- How a core stands after a call was given to a thread, and after a turn of its call.
use Rattle.std.proofs.Common.{◌≡◌, ◌≢◌, ◌⊎◌, inl, inr, ℕ, ◌≤◌, List, Contains, Option, Some, None, false, refl, sym, ap, subst, ◌∙◌, arith}
use Rattle.std.proofs.lemmas.Bool.{cases_eq}
use Rattle.bus_model.specs.Machine.{Machine, Bus, ThreadWasStarted, ThreadLives, HasRegisters, Answers, IsDue, bus_after}
use Rattle.bus_model.proofs.MachineLemmas.{has_text}
use Rattle.bus_machine.specs.View.{MachineView}
use Rattle.bus_machine.specs.Calls.{with_bus}
use Rattle.tr_types.specs.declared.action.Action.{Action}
use Rattle.tr_types.specs.declared.action.Answer.{Answer}
use Rattle.tr_types.specs.declared.action.Answer.TheVariants.{Done}
use Rattle.tr_types.specs.declared.command.Command.{Command}
use Rattle.tr_types.specs.declared.command.Reply.{Reply}
use Rattle.tr_types.specs.declared.entry.Entry.{Entry}
use Rattle.tr_types.specs.declared.entry.Entry.TheVariants as entry
use Rattle.tr_types.specs.declared.entry.Mark.{Mark}
use Rattle.tr_types.specs.declared.permission.Cred.{Cred}
use Rattle.zo_model.specs.Alone.{root_cred}
use Rattle.zo_model.specs.Commands.{IsCommand}
use Rattle.zo_model.specs.Seats.{Seat, new_seat}
use Rattle.tr_model.specs.OneWindow.{IsWindowed}
use Rattle.tr_model.specs.Worlds.{World, put, stepped, seat_of, cred_of, IsSeat}
use Rattle.tr_dispatch.specs.Rooted.{IsRooted, IsAtRest}
use Rattle.tr_dispatch.specs.Sessions.{IsBare, KnowsAt, StageGives, LeadsTo, SessionActs, SessionEnds, SessionGoes, RunsOn, GivesAction}
use Rattle.tr_dispatch.specs.declared.session.SessionStep.{SessionStep}
use Rattle.tr_dispatch.specs.declared.session.SessionStep.TheVariants as step
use Rattle.tr_dispatch.specs.declared.session.Stage.{Stage}
use Rattle.tr_dispatch.specs.declared.session.Stage.TheVariants as stage
use Rattle.tr_core.specs.declared.calls.Waiting.{Waiting}
use Rattle.tr_core.specs.Standing.{Stands, StandsAs, IsReady, IsTimeless, AreRoots}
use Rattle.tr_core.specs.Steps.{Acts, Begins}
use Rattle.tr_core.proofs.Growing.{IsNext, registers_next, thread_lives, seated_in}
use Rattle.tr_dispatch.proofs.SessionLaws.{call_begins}
use Rattle.tr_dispatch.proofs.Worlds.{put_same, put_other}
use Rattle.tr_core.proofs.Same.{seen_in, rooted_seen, denoted_seen, rest_seen, bare_seen, windowed_seen}
use Rattle.tr_core.proofs.Users.{user_is}

pub some_none : {X : Type 0} (x : X) → Some x ≡ None → ⊥
some_none x clash = cc

-- Where a thread's call begins or ends: the thread holds nothing, and all others are as before.
module _ (w v : World) (thread : ℕ) (same : seen_in w v ≡ v) (bare : IsBare w.base.machine.bus thread) (others : (t : ℕ) → t ≢ thread → v.base.seats t ≡ w.base.seats t) where
  changed_windowed : IsWindowed w → IsWindowed v
  changed_windowed k = subst IsWindowed same (windowed_seen w v (λ t. by t (cases_eq t thread)) k)
    where
      by : (t : ℕ) → (t ≡ thread) ⊎ (t ≢ thread) → (v.base.seats t ≡ w.base.seats t) ⊎ IsBare w.base.machine.bus t
      by t (inl is) = inr (subst (IsBare w.base.machine.bus) (sym is) bare)
      by t (inr other) = inl (others t other)

  -- no thread has a call but this one
  quiet_as : (t : ℕ) → t ≢ thread → (c : Option Waiting) → c ≡ None → StandsAs w t c → StandsAs v t c
  quiet_as t other None none k = (others t other ∙ k.0, subst (λ x. IsBare x.base.machine.bus t) same (bare_seen w v t k.1))
  quiet_as t other (Some c) none k = absurd (some_none c none)

-- A call is given.
module _ (w : World) (m : MachineView) (calls : ℕ → Option Waiting) (k : Stands w m calls) (quiet : (t : ℕ) → calls t ≡ None) (thread : ℕ) (command : Command) (started : ThreadWasStarted w.base.machine.bus thread) (valid : IsCommand command) where
  abbrev call : Entry
  call = entry.Call thread command

  abbrev given : World
  given = stepped w call

  idle : StandsAs w thread None
  idle = subst (StandsAs w thread) (quiet thread) (k.each thread)

  lives : ThreadLives w.base.machine thread
  lives = thread_lives w.base.machine thread k.timeless started

  given_others : (t : ℕ) → t ≢ thread → given.base.seats t ≡ w.base.seats t
  given_others t other = put_other w.base.seats thread _ t other

  given_windowed : IsWindowed given
  given_windowed = changed_windowed w given thread refl idle.1 given_others k.windowed

  pub call_next : IsNext w call
  call_next = record {
    comes = lives;
    in_call = idle.0;
    marked = tt;
    right = record { legal = tt; disciplined = tt; denoted = denoted_seen w given k.denoted };
    windows = (given_windowed, tt, tt);
    table = k.rooted.table;
  }

  -- what its session knows as it begins
  begins_knowing : KnowsAt thread command stage.Begin Done given
  begins_knowing = call_begins w thread command Done k.rooted k.denoted (k.rests quiet) idle.1 lives (omega (arith, k.registers.count, k.registers.small thread started)) valid (user_is w.base.machine.bus thread k.users started)

  module _ (waiting : Waiting) (begins : Begins thread command waiting) where
    ready : IsReady given thread waiting
    ready = record {
      thread_is = begins.thread_is;
      before = stage.Begin;
      told = Done;
      knows = subst (λ c. KnowsAt thread c stage.Begin Done given) (sym begins.command_is) begins_knowing;
      leads = subst (λ c. LeadsTo thread c stage.Begin Done waiting.call.value.session.stage waiting.call.value.next) (sym begins.command_is) begins.leads;
      runs = begins.runs;
      gives = begins.gives;
    }

    pub call_stands : Stands given m (put calls thread (Some waiting))
    call_stands = record {
      works = k.works;
      bus = k.bus;
      ended = k.ended;
      down = k.down;
      rooted = rooted_seen w given k.rooted;
      denoted = denoted_seen w given k.denoted;
      windowed = given_windowed;
      registers = k.registers;
      timeless = record { clock = k.timeless.clock; latest = k.timeless.latest; ended = k.timeless.ended; up = k.timeless.up };
      users = k.users;
      each = λ t. each_by t (cases_eq t thread);
      alone = λ t u one other is_one is_other. only t one is_one (cases_eq t thread) ∙ sym (only u other is_other (cases_eq u thread));
      rests = λ none. absurd (no_call (put_same calls thread (Some waiting)) (none thread));
    }
      where
        each_by : (t : ℕ) → (t ≡ thread) ⊎ (t ≢ thread) → StandsAs given t (put calls thread (Some waiting) t)
        each_by t (inl is) = subst (λ x. StandsAs given x (put calls thread (Some waiting) x)) (sym is) (subst (StandsAs given thread) (sym (put_same calls thread (Some waiting))) ready)
        each_by t (inr other) = subst (StandsAs given t) (sym (put_other calls thread (Some waiting) t other)) (quiet_as w given thread refl idle.1 given_others t other (calls t) (quiet t) (k.each t))

        only : (t : ℕ) (c : Waiting) → put calls thread (Some waiting) t ≡ Some c → (t ≡ thread) ⊎ (t ≢ thread) → t ≡ thread
        only t c is (inl same) = same
        only t c is (inr other) = absurd (some_none c (sym is ∙ put_other calls thread (Some waiting) t other ∙ quiet t))

        no_call : put calls thread (Some waiting) thread ≡ Some waiting → put calls thread (Some waiting) thread ≡ None → ⊥
        no_call some none = absurd (some_none waiting (sym some ∙ none))

-- A turn of a thread's call.
module _ (w : World) (m : MachineView) (calls : ℕ → Option Waiting) (k : Stands w m calls) (thread : ℕ) (waiting : Waiting) (has : calls thread ≡ Some waiting) where
  pub ready_now : IsReady w thread waiting
  ready_now = subst (StandsAs w thread) has (k.each thread)

  -- no other thread has a call
  none_beside : (t : ℕ) → t ≢ thread → calls t ≡ None
  none_beside t other = by (calls t) refl
    where
      by : (c : Option Waiting) → calls t ≡ c → calls t ≡ None
      by None is = is
      by (Some c) is = absurd (other (k.alone t thread c waiting is has))

  pub valid_now : IsCommand waiting.call.value.session.command
  valid_now = ready_now.knows.sits.valid

  seat_now : IsSeat (w.base.seats thread)
  seat_now = seated_in (w.base.seats thread) ready_now.knows.seat ready_now.knows.sits.seat_is

  -- what the session gave for this step
  gives_now : (next : SessionStep) → waiting.call.value.next ≡ next → StageGives thread waiting.call.value.session.command waiting.call.value.session.stage next w
  gives_now next is = subst (λ s. StageGives thread waiting.call.value.session.command waiting.call.value.session.stage s w) is (ready_now.leads w ready_now.knows)

  -- An action was done.
  module _ (now : ℕ) (due : IsDue w.base.machine now) (mark : Mark) (action : Action) (is : waiting.call.value.next ≡ step.Act action mark) (answer : Answer) (answers : Answers w.base.machine.bus thread now action answer) where
    abbrev act : Entry
    act = entry.Act thread now mark action answer

    abbrev acted : World
    acted = stepped w act

    acts : SessionActs (KnowsAt thread waiting.call.value.session.command waiting.call.value.session.stage) thread mark action w
    acts = gives_now (step.Act action mark) is

    goes : SessionGoes (KnowsAt thread waiting.call.value.session.command waiting.call.value.session.stage) thread now mark action w answer
    goes = acts.goes now answer answers

    act_windowed : IsWindowed acted
    act_windowed = goes.windowed k.windowed

    pub act_next : IsNext w act
    act_next = record {
      comes = (ready_now.knows.sits.lives, due, has_text w.base.machine.bus thread now action answer answers);
      in_call = seat_now;
      marked = (subst GivesAction is ready_now.gives).1;
      right = record { legal = goes.legal; disciplined = goes.disciplined; denoted = goes.denoted };
      windows = (act_windowed, acts.shut now answer, acts.found now answer);
      table = goes.knows.rooted.table;
    }

    module _ (next : MachineView) (moved : next ≡ with_bus m (bus_after thread now action answer m.bus)) (after : Waiting) (thread_is : after.call.value.session.thread ≡ waiting.call.value.session.thread) (command_is : after.call.value.session.command ≡ waiting.call.value.session.command) (leads : LeadsTo waiting.call.value.session.thread waiting.call.value.session.command waiting.call.value.session.stage answer after.call.value.session.stage after.call.value.next) (runs : RunsOn after.call.value.session.stage after.call.value.next) (gives : GivesAction after.call.value.next) where
      ready_then : IsReady acted thread after
      ready_then = record {
        thread_is = thread_is ∙ ready_now.thread_is;
        before = waiting.call.value.session.stage;
        told = answer;
        knows = subst (λ c. KnowsAt thread c waiting.call.value.session.stage answer acted) (sym command_is) goes.knows;
        leads = subst (λ c. LeadsTo thread c waiting.call.value.session.stage answer after.call.value.session.stage after.call.value.next) (sym command_is) (subst (λ t. LeadsTo t waiting.call.value.session.command waiting.call.value.session.stage answer after.call.value.session.stage after.call.value.next) ready_now.thread_is leads);
        runs = runs;
        gives = gives;
      }

      pub act_stands : Stands acted next (put calls thread (Some after))
      act_stands = record {
        works = ap (λ (x : MachineView). x.failed) moved ∙ k.works;
        bus = ap (λ (x : MachineView). x.bus) moved ∙ ap (λ (b : Bus). bus_after thread now action answer b) k.bus;
        ended = ap (λ (x : MachineView). x.ended) moved ∙ k.ended;
        down = ap (λ (x : MachineView). x.down) moved ∙ k.down;
        rooted = goes.knows.rooted;
        denoted = goes.denoted;
        windowed = act_windowed;
        registers = registers_next w act act_next.comes k.registers;
        timeless = record { clock = k.timeless.clock; latest = omega (arith, k.timeless.clock, due.1); ended = k.timeless.ended; up = k.timeless.up };
        users = record { creds = k.users.creds; housed = k.users.housed };
        each = λ t. each_by t (cases_eq t thread);
        alone = λ t u one other is_one is_other. only t one is_one (cases_eq t thread) ∙ sym (only u other is_other (cases_eq u thread));
        rests = λ none. absurd (no_call (put_same calls thread (Some after)) (none thread));
      }
        where
          beside : (t : ℕ) → t ≢ thread → (c : Option Waiting) → c ≡ None → StandsAs w t c → StandsAs acted t c
          beside t other None none s = (put_other w.base.seats thread _ t other ∙ s.0, goes.beside t other s.1)
          beside t other (Some c) none s = absurd (some_none c none)

          each_by : (t : ℕ) → (t ≡ thread) ⊎ (t ≢ thread) → StandsAs acted t (put calls thread (Some after) t)
          each_by t (inl same) = subst (λ x. StandsAs acted x (put calls thread (Some after) x)) (sym same) (subst (StandsAs acted thread) (sym (put_same calls thread (Some after))) ready_then)
          each_by t (inr other) = subst (StandsAs acted t) (sym (put_other calls thread (Some after) t other)) (beside t other (calls t) (none_beside t other) (k.each t))

          only : (t : ℕ) (c : Waiting) → put calls thread (Some after) t ≡ Some c → (t ≡ thread) ⊎ (t ≢ thread) → t ≡ thread
          only t c at (inl same) = same
          only t c at (inr other) = absurd (some_none c (sym at ∙ put_other calls thread (Some after) t other ∙ none_beside t other))

          no_call : put calls thread (Some after) thread ≡ Some after → put calls thread (Some after) thread ≡ None → ⊥
          no_call some none = absurd (some_none after (sym some ∙ none))

  -- The reply was given.
  module _ (reply : Reply) (is : waiting.call.value.next ≡ step.Over reply) where
    abbrev ends : Entry
    ends = entry.Reply thread reply

    abbrev ended : World
    ended = stepped w ends

    over : SessionEnds thread reply w
    over = gives_now (step.Over reply) is

    ended_others : (t : ℕ) → t ≢ thread → ended.base.seats t ≡ w.base.seats t
    ended_others t other = put_other w.base.seats thread None t other

    ended_windowed : IsWindowed ended
    ended_windowed = changed_windowed w ended thread refl over.bare ended_others k.windowed

    pub reply_next : IsNext w ends
    reply_next = record {
      comes = ready_now.knows.sits.lives;
      in_call = seat_now;
      marked = tt;
      right = record { legal = over.legal; disciplined = tt; denoted = denoted_seen w ended k.denoted };
      windows = (ended_windowed, tt, tt);
      table = k.rooted.table;
    }

    pub reply_stands : Stands ended m (put calls thread None)
    reply_stands = record {
      works = k.works;
      bus = k.bus;
      ended = k.ended;
      down = k.down;
      rooted = rooted_seen w ended k.rooted;
      denoted = denoted_seen w ended k.denoted;
      windowed = ended_windowed;
      registers = k.registers;
      timeless = record { clock = k.timeless.clock; latest = k.timeless.latest; ended = k.timeless.ended; up = k.timeless.up };
      users = k.users;
      each = λ t. each_by t (cases_eq t thread);
      alone = λ t u one other is_one is_other. absurd (nobody t one is_one (cases_eq t thread));
      rests = λ none. rest_seen w ended over.rests;
    }
      where
        each_by : (t : ℕ) → (t ≡ thread) ⊎ (t ≢ thread) → StandsAs ended t (put calls thread None t)
        each_by t (inl same) = subst (λ x. StandsAs ended x (put calls thread None x)) (sym same)
            (subst (StandsAs ended thread) (sym (put_same calls thread None)) (put_same w.base.seats thread None, bare_seen w ended thread over.bare))
        each_by t (inr other) = subst (StandsAs ended t) (sym (put_other calls thread None t other)) (quiet_as w ended thread refl over.bare ended_others t other (calls t) (none_beside t other) (k.each t))

        nobody : (t : ℕ) (c : Waiting) → put calls thread None t ≡ Some c → (t ≡ thread) ⊎ (t ≢ thread) → ⊥
        nobody t c at (inl same) = some_none c (sym at ∙ ap (put calls thread None) same ∙ put_same calls thread None)
        nobody t c at (inr other) = some_none c (sym at ∙ put_other calls thread None t other ∙ none_beside t other)
