-- The world after an action of a thread, as the thread and the others see it.
use Rattle.std.proofs.Common.{◌≡◌, ◌≢◌, ◌⊎◌, inl, inr, ℕ, ◌<◌, List, length, Bool, false, cond, Contains, Option, Some, None, refl, ap, sym, subst, ◌∙◌, get_or-set_same, get_or-set_other, slice_index_or, slice_set}
use Rattle.std.proofs.lemmas.Bool.{cases_eq, eq-eqb, ne_eqb}
use Rattle.std.proofs.lemmas.List.{length-set}
use Rattle.bus_model.specs.Machine.{Bus, pkru_of, registered}
use Rattle.kern_model.specs.Rights.{may_read, may_write, closed_pkru, only_pkru}
use Rattle.tr_types.specs.declared.action.Action.{Action}
use Rattle.tr_types.specs.declared.action.Action.TheVariants.{Load, Store, Cas, Flush, Fence, Pkru, Kernel}
use Rattle.tr_types.specs.declared.action.Answer.{Answer}
use Rattle.tr_types.specs.declared.action.Answer.TheVariants.{Word as WordIs, Done, Fault, Kern}
use Rattle.tr_types.specs.declared.command.Command.{Command}
use Rattle.tr_types.specs.declared.command.Command.TheVariants.{Create, Stat}
use Rattle.tr_types.specs.declared.entry.Entry.TheVariants as entry
use Rattle.tr_types.specs.declared.entry.Mark.{Mark}
use Rattle.tr_types.specs.declared.kernel_call.Holder.{Holder}
use Rattle.zo_model.specs.Legal.{verdict_after}
use Rattle.zo_model.specs.Seats.{Seat, seat_after}
use Rattle.tr_model.specs.OneWindow.{IsKey, IsOpen, IsOfFind, IsReading, IsWindowed}
use Rattle.tr_model.specs.Worlds.{World, put, pool_of, seated, moved_verdict, coffers_at, stepped}
use Rattle.tr_dispatch.specs.Sessions.{Sits, IsBare, HasFound, row_of, open_pkru, writes}
use Rattle.tr_dispatch.proofs.Register.{shut, shut_stores, only_first, only_loads}

pub put_same : {X : Type 0} (at : ℕ → X) (thread : ℕ) (x : X) → put at thread x thread ≡ x
put_same at thread x = ap (λ (b : Bool). cond b x (at thread)) (eq-eqb thread thread refl)

pub put_other : {X : Type 0} (at : ℕ → X) (thread : ℕ) (x : X) (other : ℕ) → other ≢ thread → put at thread x other ≡ at other
put_other at thread x other ne = ap (λ (b : Bool). cond b x (at other)) (ne_eqb other thread ne)

-- as many registers as before, and those of other threads as they were
length_registered : (thread : ℕ) (action : Action) (answer : Answer) (pkrus : List ℕ) → length (registered thread action answer pkrus) ≡ length pkrus
length_registered thread (Load addr) answer pkrus = refl
length_registered thread (Store addr word) answer pkrus = refl
length_registered thread (Cas addr old new) answer pkrus = refl
length_registered thread (Flush addr) answer pkrus = refl
length_registered thread Fence answer pkrus = refl
length_registered thread (Pkru pkru) (WordIs x) pkrus = refl
length_registered thread (Pkru pkru) Done pkrus = length-set pkrus thread pkru
length_registered thread (Pkru pkru) (Fault kind) pkrus = refl
length_registered thread (Pkru pkru) (Kern answer) pkrus = refl
length_registered thread (Kernel call) answer pkrus = refl

other_registered : (thread other : ℕ) (action : Action) (answer : Answer) (pkrus : List ℕ) → other ≢ thread → slice_index_or (registered thread action answer pkrus) other closed_pkru ≡ slice_index_or pkrus other closed_pkru
other_registered thread other (Load addr) answer pkrus ne = refl
other_registered thread other (Store addr word) answer pkrus ne = refl
other_registered thread other (Cas addr old new) answer pkrus ne = refl
other_registered thread other (Flush addr) answer pkrus ne = refl
other_registered thread other Fence answer pkrus ne = refl
other_registered thread other (Pkru pkru) (WordIs x) pkrus ne = refl
other_registered thread other (Pkru pkru) Done pkrus ne = get_or-set_other pkrus thread other pkru closed_pkru ne
other_registered thread other (Pkru pkru) (Fault kind) pkrus ne = refl
other_registered thread other (Pkru pkru) (Kern answer) pkrus ne = refl
other_registered thread other (Kernel call) answer pkrus ne = refl

-- a register that was written
pub register_set : (bus : Bus) (thread pkru : ℕ) → thread < length bus.pkrus → slice_index_or (slice_set bus.pkrus thread pkru) thread closed_pkru ≡ pkru
register_set bus thread pkru lt = get_or-set_same bus.pkrus thread pkru closed_pkru lt

-- the thread's seat and verdict
module _ (w : World) (thread now : ℕ) (mark : Mark) (action : Action) (answer : Answer) (seat : Seat) where
  abbrev after : World
  after = stepped w (entry.Act thread now mark action answer)

  pub seat_moves : w.base.seats thread ≡ Some seat → after.base.seats thread ≡ Some (seat_after (pool_of w.base.machine.bus.words) mark action answer seat)
  seat_moves is =
      put_same w.base.seats thread (seated (pool_of w.base.machine.bus.words) mark action answer (w.base.seats thread))
      ∙ ap (seated (pool_of w.base.machine.bus.words) mark action answer) is

  pub verdict_moves : w.base.seats thread ≡ Some seat → after.verdicts thread ≡ verdict_after mark answer (coffers_at w) seat (w.verdicts thread)
  verdict_moves is =
      put_same w.verdicts thread (moved_verdict mark answer (coffers_at w) (w.base.seats thread) (w.verdicts thread))
      ∙ ap (λ (s : Option Seat). moved_verdict mark answer (coffers_at w) s (w.verdicts thread)) is

  pub sits_after : (command : Command) → Sits thread command w seat → Sits thread command after (seat_after (pool_of w.base.machine.bus.words) mark action answer seat)
  sits_after command sits = record {
    lives = sits.lives;
    register = subst (λ (n : ℕ). thread < n) (sym (length_registered thread action answer w.base.machine.bus.pkrus)) sits.register;
    valid = sits.valid;
    seat_is = seat_moves sits.seat_is;
    command_is = sits.command_is;
    cred = sits.cred;
  }

-- What an action of a thread leaves to the others: their maps, their registers and their calls.
pub record LeavesOthers (thread : ℕ) (w after : World) : Type 0 where
  pub kept : (row : Holder) → row.thread ≢ thread → Contains w.base.machine.bus.holders row → Contains after.base.machine.bus.holders row
  pub only : (row : Holder) → row.thread ≢ thread → Contains after.base.machine.bus.holders row → Contains w.base.machine.bus.holders row
  pub registers : (other : ℕ) → other ≢ thread → pkru_of after.base.machine.bus other ≡ pkru_of w.base.machine.bus other
  pub seats : (other : ℕ) → other ≢ thread → after.base.seats other ≡ w.base.seats other

-- it leaves them all where it leaves their maps
pub leaves_others : (w : World) (thread now : ℕ) (mark : Mark) (action : Action) (answer : Answer)
    → ((row : Holder) → row.thread ≢ thread → Contains w.base.machine.bus.holders row → Contains (stepped w (entry.Act thread now mark action answer)).base.machine.bus.holders row)
    → ((row : Holder) → row.thread ≢ thread → Contains (stepped w (entry.Act thread now mark action answer)).base.machine.bus.holders row → Contains w.base.machine.bus.holders row)
    → LeavesOthers thread w (stepped w (entry.Act thread now mark action answer))
leaves_others w thread now mark action answer kept only = record {
  kept = kept;
  only = only;
  registers = λ other ne. other_registered thread other action answer w.base.machine.bus.pkrus ne;
  seats = λ other ne. put_other w.base.seats thread (seated (pool_of w.base.machine.bus.words) mark action answer (w.base.seats thread)) other ne;
}

pub same_holders : (w : World) (thread now : ℕ) (mark : Mark) (action : Action) (answer : Answer)
    → (stepped w (entry.Act thread now mark action answer)).base.machine.bus.holders ≡ w.base.machine.bus.holders
    → LeavesOthers thread w (stepped w (entry.Act thread now mark action answer))
same_holders w thread now mark action answer same = leaves_others w thread now mark action answer
    (λ row ne among. subst (λ (hs : List Holder). Contains hs row) (sym same) among)
    (λ row ne among. subst (λ (hs : List Holder). Contains hs row) same among)

-- other threads that hold nothing still hold nothing
pub bare_beside : (thread : ℕ) (w later : World) → LeavesOthers thread w later → (other : ℕ) → other ≢ thread → IsBare w.base.machine.bus other → IsBare later.base.machine.bus other
bare_beside thread w later others other ne bare = record {
  unheld = λ row among is. bare.unheld row (others.only row (λ own. ne (sym is ∙ own)) among) is;
  register = others.registers other ne ∙ bare.register;
}

-- The thread's window: it is in it where its register has the root coffer's key open alone, which it found and holds.
pub record InWindow (thread : ℕ) (command : Command) (w : World) (seat : Seat) : Type 0 where
  pub register : pkru_of w.base.machine.bus thread ≡ open_pkru command 1
  pub held : Contains w.base.machine.bus.holders (row_of thread command 1)
  pub found : HasFound seat

abbrev pub IsOwnWindow : ℕ → Command → World → Seat → Type 0
IsOwnWindow thread command w seat = (pkru_of w.base.machine.bus thread ≡ closed_pkru) ⊎ InWindow thread command w seat

some_seat : (seat : Seat) → Some seat ≡ None → ⊥
some_seat seat clash = cc

one_seat : (seat other : Seat) → Some seat ≡ Some other → seat ≡ other
one_seat seat other same = cc

loads_only : (command : Command) → IsReading command → writes command ≡ false
loads_only (Create path mode) is = absurd is
loads_only (Stat path) is = refl

-- windows stay right where the thread's own is, and the others are left
module _ (thread : ℕ) (command : Command) (w after : World) (seat : Seat) (others : LeavesOthers thread w after) (sits : Sits thread command after seat) (own : IsOwnWindow thread command after seat) (old : IsWindowed w) where
  open_before : (u key : ℕ) → u ≢ thread → IsOpen after.base.machine.bus u key → IsOpen w.base.machine.bus u key
  open_before u key ne (is, reads) = (is, ap (λ (p : ℕ). may_read p key) (sym (others.registers u ne)) ∙ reads)

  own_is : (key : ℕ) → IsOpen after.base.machine.bus thread key → IsOwnWindow thread command after seat → InWindow thread command after seat × (key ≡ 1)
  own_is key opened (inl closed) = absurd (shut after.base.machine.bus thread key closed opened)
  own_is key opened (inr window) = (window, only_first (writes command) key opened.0 (ap (λ (p : ℕ). may_read p key) (sym window.register) ∙ opened.1))

  own_key : (u key : ℕ) → u ≡ thread → IsOpen after.base.machine.bus u key → InWindow thread command after seat × (key ≡ 1)
  own_key u key same opened = own_is key (subst (λ (t : ℕ). IsOpen after.base.machine.bus t key) same opened) own

  seated_still : (u : ℕ) → u ≡ thread → after.base.seats u ≡ None → ⊥
  seated_still u same none = some_seat seat (sym sits.seat_is ∙ ap after.base.seats (sym same) ∙ none)

  one_by : (u key other : ℕ) → (u ≡ thread) ⊎ (u ≢ thread) → IsOpen after.base.machine.bus u key → IsOpen after.base.machine.bus u other → key ≡ other
  one_by u key other (inl same) opened also = (own_key u key same opened).1 ∙ sym (own_key u other same also).1
  one_by u key other (inr ne) opened also = old.one u key other (open_before u key ne opened) (open_before u other ne also)

  closed_by : (u : ℕ) → (u ≡ thread) ⊎ (u ≢ thread) → after.base.seats u ≡ None → pkru_of after.base.machine.bus u ≡ closed_pkru
  closed_by u (inl same) none = absurd (seated_still u same none)
  closed_by u (inr ne) none = others.registers u ne ∙ old.closed u (sym (others.seats u ne) ∙ none)

  unmapped_by : (u : ℕ) (row : Holder) → (u ≡ thread) ⊎ (u ≢ thread) → after.base.seats u ≡ None → Contains after.base.machine.bus.holders row → row.thread ≢ u
  unmapped_by u row (inl same) none among is = seated_still u same none
  unmapped_by u row (inr ne) none among is = old.unmapped u row (sym (others.seats u ne) ∙ none) (others.only row (λ own. ne (sym is ∙ own)) among) is

  abbrev Consults : ℕ → ℕ → Type 0
  Consults u key = (s : Seat) × (after.base.seats u ≡ Some s) × IsOfFind after.base.machine.bus u key s

  own_consults : (u key : ℕ) → u ≡ thread → InWindow thread command after seat × (key ≡ 1) → Consults u key
  own_consults u key same (window, first) = (
    seat,
    ap after.base.seats same ∙ sits.seat_is,
    record {
      find = window.found.find;
      found = window.found.found;
      named = window.found.named;
      held = record { row = row_of thread command 1; among = window.held; thread_is = sym same; coffer_is = sym window.found.coffer; key_is = sym first };
    },
  )

  other_consults : (u key : ℕ) → u ≢ thread → (s : Seat) × (w.base.seats u ≡ Some s) × IsOfFind w.base.machine.bus u key s → Consults u key
  other_consults u key ne (s, is, of) = (
    s,
    others.seats u ne ∙ is,
    record {
      find = of.find;
      found = of.found;
      named = of.named;
      held = record {
        row = of.held.row;
        among = others.kept of.held.row (λ own. ne (sym of.held.thread_is ∙ own)) of.held.among;
        thread_is = of.held.thread_is;
        coffer_is = of.held.coffer_is;
        key_is = of.held.key_is;
      };
    },
  )

  consulted_by : (u key : ℕ) → (u ≡ thread) ⊎ (u ≢ thread) → IsOpen after.base.machine.bus u key → Consults u key
  consulted_by u key (inl same) opened = own_consults u key same (own_key u key same opened)
  consulted_by u key (inr ne) opened = other_consults u key ne (old.consulted u key (open_before u key ne opened))

  own_reading : (u key : ℕ) → u ≡ thread → IsReading command → IsKey key → IsOwnWindow thread command after seat → may_write (pkru_of after.base.machine.bus u) key ≡ false
  own_reading u key same reading is (inl closed) = shut_stores after.base.machine.bus u key (ap (pkru_of after.base.machine.bus) same ∙ closed) is
  own_reading u key same reading is (inr window) =
      ap (λ (p : ℕ). may_write p key) (ap (pkru_of after.base.machine.bus) same ∙ window.register ∙ ap (only_pkru 1) (loads_only command reading)) ∙ only_loads key is

  reading_by : (u key : ℕ) (s : Seat) → (u ≡ thread) ⊎ (u ≢ thread) → after.base.seats u ≡ Some s → IsReading s.command → IsKey key → may_write (pkru_of after.base.machine.bus u) key ≡ false
  reading_by u key s (inl same) seats reading is =
      own_reading u key same (subst IsReading (ap (λ (t : Seat). t.command) (one_seat s seat (sym seats ∙ ap after.base.seats same ∙ sits.seat_is)) ∙ sits.command_is) reading) is own
  reading_by u key s (inr ne) seats reading is = ap (λ (p : ℕ). may_write p key) (others.registers u ne) ∙ old.reading u key s (sym (others.seats u ne) ∙ seats) reading is

  pub windows_stay : IsWindowed after
  windows_stay = record {
    one = λ u key other. one_by u key other (cases_eq u thread);
    closed = λ u. closed_by u (cases_eq u thread);
    unmapped = λ u row. unmapped_by u row (cases_eq u thread);
    consulted = λ u key. consulted_by u key (cases_eq u thread);
    reading = λ u key s. reading_by u key s (cases_eq u thread);
  }
