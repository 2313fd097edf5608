-- What stays where an entry leaves what calls see: words, holders, registers, the table of coffers and the trees.
use Rattle.std.proofs.Common.{◌≡◌, ◌≢◌, ◌⊎◌, inl, inr, ℕ, Contains, Bool, false, Option, Some, None, refl, sym, ap, subst, ◌∙◌}
use Rattle.bus_model.specs.Machine.{ThreadLives, pkru_of}
use Rattle.kern_model.specs.Rights.{may_write, closed_pkru}
use Rattle.tr_types.specs.declared.kernel_call.Holder.{Holder}
use Rattle.tr_types.specs.declared.action.Answer.{Answer}
use Rattle.tr_types.specs.declared.command.Command.{Command}
use Rattle.tr_types.specs.declared.command.Reply.{Reply}
use Rattle.zo_model.specs.Legal.{Verdict, NoPoint, MayReply}
use Rattle.zo_model.specs.Seats.{Seat}
use Rattle.zo_model.specs.Steps.{Scene}
use Rattle.zo_ops.specs.Knows.{OpKnows}
use Rattle.kern_model.specs.KernelView.{value}
use Rattle.tr_model.specs.OneWindow.{IsKey, IsWindowed, IsOpen, IsOfFind, IsReading}
use Rattle.tr_model.specs.Worlds.{World, IsDenoted, coffers_at}
use Rattle.tr_dispatch.specs.Rooted.{IsRooted, IsAtRest, root_at, scene_of}
use Rattle.tr_dispatch.specs.Sessions.{IsBare, HasMapped, IsFresh, MayTell, Sits, KnowsAt, StageKnows}
use Rattle.tr_core.specs.Standing.{StandsAs}
use Rattle.tr_core.specs.declared.calls.Waiting.{Waiting}
use Rattle.tr_dispatch.proofs.Register.{shut, shut_stores}
use Rattle.tr_dispatch.specs.declared.session.Stage.{Stage}
use Rattle.tr_dispatch.specs.declared.session.Stage.TheVariants as stage

-- the world `v` with what calls see in `w`
abbrev pub seen_in : World → World → World
seen_in w v = record {
  base = record {
    machine = record {
      bus = record {
        words = w.base.machine.bus.words;
        processes = v.base.machine.bus.processes;
        threads = v.base.machine.bus.threads;
        holders = w.base.machine.bus.holders;
        pkrus = w.base.machine.bus.pkrus;
      };
      clock = v.base.machine.clock;
      latest = v.base.machine.latest;
      begun = v.base.machine.begun;
      ended = v.base.machine.ended;
      down = v.base.machine.down;
    };
    seats = v.base.seats;
    table = w.base.table;
    count = v.base.count;
  };
  trees = w.trees;
  verdicts = v.verdicts;
}

module _ (w v : World) where
  abbrev after : World
  after = seen_in w v

  pub rooted_seen : IsRooted w → IsRooted after
  rooted_seen k = record { kernel = k.kernel; rows = k.rows; table = k.table }

  pub denoted_seen : IsDenoted w → IsDenoted after
  denoted_seen k = record { tabled = k.tabled; ready = k.ready }

  pub rest_seen : IsAtRest w → IsAtRest after
  rest_seen k = record { alone = k.alone; rests = k.rests }

  pub bare_seen : (thread : ℕ) → IsBare w.base.machine.bus thread → IsBare after.base.machine.bus thread
  bare_seen thread k = record { unheld = k.unheld; register = k.register }

  find_seen : (thread key : ℕ) (seat : Seat) → IsOfFind w.base.machine.bus thread key seat → IsOfFind after.base.machine.bus thread key seat
  find_seen thread key seat k = record {
    find = k.find;
    found = k.found;
    named = k.named;
    held = record { row = k.held.row; among = k.held.among; thread_is = k.held.thread_is; coffer_is = k.held.coffer_is; key_is = k.held.key_is };
  }

  -- windows, where each thread's seat is as before or the thread has none open and holds nothing
  abbrev IsKept : ℕ → Type 0
  IsKept t = (v.base.seats t ≡ w.base.seats t) ⊎ IsBare w.base.machine.bus t

  pub windowed_seen : ((t : ℕ) → IsKept t) → IsWindowed w → IsWindowed after
  windowed_seen kept k = record {
    one = λ thread key other one two. k.one thread key other one two;
    closed = λ thread none. closed_by thread none (kept thread);
    unmapped = λ thread row none among. unmapped_by thread row none among (kept thread);
    consulted = λ thread key opened. consulted_by thread key opened (kept thread);
    reading = λ thread key seat is reads key_is. reading_by thread key seat is reads key_is (kept thread);
  }
    where
      closed_by : (thread : ℕ) → v.base.seats thread ≡ None → IsKept thread → pkru_of w.base.machine.bus thread ≡ closed_pkru
      closed_by thread none (inl same) = k.closed thread (sym same ∙ none)
      closed_by thread none (inr bare) = bare.register

      unmapped_by : (thread : ℕ) (row : Holder) → v.base.seats thread ≡ None → Contains w.base.machine.bus.holders row → IsKept thread → row.thread ≢ thread
      unmapped_by thread row none among (inl same) = k.unmapped thread row (sym same ∙ none) among
      unmapped_by thread row none among (inr bare) = bare.unheld row among

      consulted_by : (thread key : ℕ) → IsOpen w.base.machine.bus thread key → IsKept thread → (seat : Seat) × (v.base.seats thread ≡ Some seat) × IsOfFind after.base.machine.bus thread key seat
      consulted_by thread key opened (inl same) =
          let c = k.consulted thread key opened in
          (c.0, same ∙ c.1, find_seen thread key c.0 c.2)
      consulted_by thread key opened (inr bare) = absurd (shut w.base.machine.bus thread key bare.register opened)

      reading_by : (thread key : ℕ) (seat : Seat) → v.base.seats thread ≡ Some seat → IsReading seat.command → IsKey key → IsKept thread → may_write (pkru_of w.base.machine.bus thread) key ≡ false
      reading_by thread key seat is reads key_is (inl same) = k.reading thread key seat (sym same ∙ is) reads key_is
      reading_by thread key seat is reads key_is (inr bare) = shut_stores w.base.machine.bus thread key bare.register key_is

  mapped_seen : (thread : ℕ) (command : Command) (key pkru : ℕ) → HasMapped w.base.machine.bus thread command key pkru → HasMapped after.base.machine.bus thread command key pkru
  mapped_seen thread command key pkru k = record { is_key = k.is_key; held = k.held; only = k.only; register = k.register }

  module _ (thread : ℕ) (verdict : v.verdicts thread ≡ w.verdicts thread) where
    fresh_seen : (seat : Seat) → IsFresh w thread seat → IsFresh after thread seat
    fresh_seen seat k = record { uncommitted = k.uncommitted; unasked = k.unasked; open_reply = verdict ∙ k.open_reply }

    tell_seen : (seat : Seat) (reply : Reply) → MayTell w thread seat reply → MayTell after thread seat reply
    tell_seen seat reply k = (rest_seen k.0, subst (λ (x : Verdict). MayReply (coffers_at w) seat x reply) (sym verdict) k.1)

    abbrev scene_with : Seat → Verdict → Scene
    scene_with seat x = record { at = value w.base.machine.bus.words; id = 1; coffer = root_at w; coffers = coffers_at w; seat = seat; verdict = x }

    stage_seen : (command : Command) (s : Stage) (told : Answer) (seat : Seat) → StageKnows thread command s told w seat → StageKnows thread command s told after seat
    stage_seen command stage.Begin told seat (bare, rest, fresh) = (bare_seen thread bare, rest_seen rest, fresh_seen seat fresh)
    stage_seen command stage.Finding told seat (bare, rest, fresh, found, is) = (bare_seen thread bare, rest_seen rest, fresh_seen seat fresh, found, is)
    stage_seen command stage.Mapping told seat (key, mapped, rest, fresh, found, is) = (key, mapped_seen thread command key _ mapped, rest_seen rest, fresh_seen seat fresh, found, is)
    stage_seen command (stage.Working op) told seat (key, mapped, found, knows) = (key, mapped_seen thread command key _ mapped, found, subst (λ (x : Verdict). OpKnows op command told (scene_with seat x)) (sym verdict) knows)
    stage_seen command (stage.Closing reply) told seat (key, mapped, tell) = (key, mapped_seen thread command key _ mapped, tell_seen seat reply tell)
    stage_seen command (stage.Ending reply) told seat (bare, tell) = (bare_seen thread bare, tell_seen seat reply tell)
    stage_seen command stage.Over told seat none = absurd none

    -- what the session of a thread knows, whose seat and verdict stay
    pub knows_seen : v.base.seats thread ≡ w.base.seats thread → (ThreadLives w.base.machine thread → ThreadLives v.base.machine thread) → (command : Command) (s : Stage) (told : Answer) → KnowsAt thread command s told w → KnowsAt thread command s told after
    knows_seen seat lives command s told k = record {
      rooted = rooted_seen k.rooted;
      denoted = denoted_seen k.denoted;
      seat = k.seat;
      sits = record {
        lives = lives k.sits.lives;
        register = k.sits.register;
        valid = k.sits.valid;
        seat_is = seat ∙ k.sits.seat_is;
        command_is = k.sits.command_is;
        cred = k.sits.cred;
      };
      knows = stage_seen command s told k.seat k.knows;
    }

  -- how a thread stands
  pub stands_seen : (thread : ℕ) → v.verdicts thread ≡ w.verdicts thread → v.base.seats thread ≡ w.base.seats thread → (ThreadLives w.base.machine thread → ThreadLives v.base.machine thread) → (c : Option Waiting) → StandsAs w thread c → StandsAs after thread c
  stands_seen thread verdict seat lives None k = (seat ∙ k.0, bare_seen thread k.1)
  stands_seen thread verdict seat lives (Some waiting) k = record {
    thread_is = k.thread_is;
    before = k.before;
    told = k.told;
    knows = knows_seen thread verdict seat lives waiting.call.value.session.command k.before k.told k.knows;
    leads = k.leads;
    runs = k.runs;
    gives = k.gives;
  }
