-- How a core stands after an event: the machine has moved, and all that calls see is as it was.
use Rattle.std.proofs.Common.{◌≡◌, ◌⊎◌, inl, inr, ℕ, List, Contains, Option, Some, None, false, refl, sym, ap, subst, ◌∙◌}
use Rattle.bus_model.specs.Machine.{Machine, Bus, ThreadLives, HasRegisters}
use Rattle.bus_machine.specs.View.{MachineView}
use Rattle.tr_types.specs.declared.entry.Entry.{Entry}
use Rattle.tr_model.specs.Marks.{IsMarkedEntry}
use Rattle.tr_model.specs.OneWindow.{FindsShut, MapsFound, IsWindowed}
use Rattle.tr_model.specs.Worlds.{World, Row, root_row, stepped, MayCome, IsInCall, IsLegal, IsDisciplined, IsDenoted}
use Rattle.tr_dispatch.specs.Rooted.{IsRooted, IsAtRest}
use Rattle.tr_core.specs.declared.calls.Waiting.{Waiting}
use Rattle.tr_core.specs.Standing.{Stands, StandsAs, IsTimeless, AreRoots}
use Rattle.tr_core.proofs.Growing.{IsNext, registers_next}
use Rattle.tr_core.proofs.Same.{seen_in, rooted_seen, denoted_seen, rest_seen, windowed_seen, stands_seen}

module _ (w : World) (m : MachineView) (calls : ℕ → Option Waiting) (k : Stands w m calls) (e : Entry) (comes : MayCome w e) where
  abbrev v : World
  v = stepped w e

  module _ (same : seen_in w v ≡ v) (seats : v.base.seats ≡ w.base.seats) (verdicts : v.verdicts ≡ w.verdicts) where
    windowed : IsWindowed v
    windowed = subst IsWindowed same (windowed_seen w v (λ t. inl (ap (λ f. f t) seats)) k.windowed)

    denoted : IsDenoted v
    denoted = subst IsDenoted same (denoted_seen w v k.denoted)

    rooted : IsRooted v
    rooted = subst IsRooted same (rooted_seen w v k.rooted)

    -- the entry of the event may come next
    pub event_next : IsInCall w e → IsMarkedEntry e → IsLegal w e → IsDisciplined w e → FindsShut w e → MapsFound w e → IsNext w e
    event_next in_call marked legal disciplined shut found = record {
      comes = comes;
      in_call = in_call;
      marked = marked;
      right = record { legal = legal; disciplined = disciplined; denoted = denoted };
      windows = (windowed, shut, found);
      table = rooted.table;
    }

    -- and leaves the core so
    pub event_stands : (next : MachineView) → next.failed ≡ false → next.bus ≡ v.base.machine.bus → next.ended ≡ v.base.machine.ended → next.down ≡ v.base.machine.down → ((t : ℕ) → ThreadLives w.base.machine t → ThreadLives v.base.machine t) → IsTimeless v.base.machine → AreRoots v.base.machine.bus → Stands v next calls
    event_stands next works bus ended down lives timeless users = record {
      works = works;
      bus = bus;
      ended = ended;
      down = down;
      rooted = rooted;
      denoted = denoted;
      windowed = windowed;
      registers = registers_next w e comes k.registers;
      timeless = timeless;
      users = users;
      each = λ t. subst (λ x. StandsAs x t (calls t)) same (stands_seen w v t (ap (λ f. f t) verdicts) (ap (λ f. f t) seats) (lives t) (calls t) (k.each t));
      alone = k.alone;
      rests = λ none. subst IsAtRest same (rest_seen w v (k.rests none));
    }
