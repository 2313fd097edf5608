-- What a begun call knows, where its knowledge stays, and that a closed register refuses every store.
use Rattle.std.proofs.Common.{◌≡◌, ◌≢◌, ℕ, ◌/◌, ◌<◌, List, [], ◌∷◌, length, Bool, true, false, cond, Contains, Option, Some, None, refl, ap, sym, subst, ◌∙◌, arith}
use Rattle.pm_words.specs.Word.{Word}
use Rattle.bus_model.specs.Machine.{Bus, ThreadLives, pkru_of, is_word, IsStored, store_refusal}
use Rattle.kern_model.specs.Kernel.{kernel_owner}
use Rattle.kern_model.specs.KernelView.{value, pages_of}
use Rattle.kern_model.specs.Rights.{closed_pkru, holds_beside, key_in, store_fault, store_fault_by}
use Rattle.tr_types.specs.declared.action.Answer.{Answer}
use Rattle.tr_types.specs.declared.action.Answer.TheVariants.{Word as WordIs, Done, Fault, Kern}
use Rattle.tr_types.specs.declared.action.FaultKind.{FaultKind}
use Rattle.tr_types.specs.declared.action.FaultKind.TheVariants.{NotMapped, NotWritable, KeyDenied}
use Rattle.tr_types.specs.declared.command.Command.{Command}
use Rattle.tr_types.specs.declared.command.Reply.{Reply}
use Rattle.tr_types.specs.declared.entry.Entry.TheVariants as entry
use Rattle.tr_types.specs.declared.kernel_call.Holder.{Holder}
use Rattle.tr_types.specs.declared.kernel_call.KernAnswer.TheVariants.{Mapped}
use Rattle.tr_types.specs.declared.permission.Cred.{Cred}
use Rattle.zo_model.specs.Alone.{IsAlone, root_cred}
use Rattle.zo_model.specs.CofferWords.{Rests}
use Rattle.zo_model.specs.Commands.{IsCommand}
use Rattle.zo_model.specs.Legal.{Verdict, NoPoint, MayReply}
use Rattle.zo_model.specs.Seats.{Seat, new_seat}
use Rattle.zo_model.specs.Tree.{Member}
use Rattle.zo_ops.specs.Knows.{OpKnows}
use Rattle.tr_model.specs.OneWindow.{IsKey}
use Rattle.tr_model.specs.RootCoffer.{root_coffer, root_mapped}
use Rattle.tr_model.specs.Worlds.{World, Row, root_row, coffer_at, coffers_of, coffers_at, cred_of, seat_of, stepped, IsDenoted}
use Rattle.tr_dispatch.specs.declared.session.Stage.{Stage}
use Rattle.tr_dispatch.specs.declared.session.Stage.TheVariants as stage
use Rattle.tr_dispatch.specs.Rooted.{IsRooted, IsAtRest, scene_of}
use Rattle.tr_dispatch.specs.Sessions.{IsBare, HasMapped, IsFresh, MayTell, StageKnows, KnowsAt, row_of, open_pkru}
use Rattle.tr_dispatch.proofs.Members.{contains_here, contains_there}
use Rattle.tr_dispatch.proofs.Register.{closed_writes}
use Rattle.tr_dispatch.proofs.Worlds.{put_same, LeavesOthers}

-- What a call knows that has begun: the thread holds nothing, no call works in the coffer, and its user is uid 0.
pub call_begins : (w : World) (thread : ℕ) (command : Command) (answer : Answer) → IsRooted w → IsDenoted w → IsAtRest w → IsBare w.base.machine.bus thread
    → ThreadLives w.base.machine thread → thread < length w.base.machine.bus.pkrus → IsCommand command → cred_of w.base.machine.bus thread ≡ Some root_cred
    → KnowsAt thread command stage.Begin answer (stepped w (entry.Call thread command))
call_begins w thread command answer rooted denoted rest bare lives register valid cred = record {
  rooted = record { kernel = rooted.kernel; rows = rooted.rows; table = rooted.table };
  denoted = record { tabled = denoted.tabled; ready = denoted.ready };
  seat = new_seat root_cred command;
  sits = record {
    lives = lives;
    register = register;
    valid = valid;
    seat_is = put_same w.base.seats thread (seat_of (cred_of w.base.machine.bus thread) command) ∙ ap (λ (c : Option Cred). seat_of c command) cred;
    command_is = refl;
    cred = refl;
  };
  knows = (
    bare,
    record { alone = rest.alone; rests = rest.rests },
    record { uncommitted = refl; unasked = refl; open_reply = put_same w.verdicts thread NoPoint },
  );
}

-- What a session sees of a world: its knowledge stays where this does. The rows of other threads may come and go.
pub record SeesSame (thread : ℕ) (w after : World) : Type 0 where
  pub words : after.base.machine.bus.words ≡ w.base.machine.bus.words
  pub kept : (row : Holder) → row.thread ≡ thread → Contains w.base.machine.bus.holders row → Contains after.base.machine.bus.holders row
  pub only : (row : Holder) → row.thread ≡ thread → Contains after.base.machine.bus.holders row → Contains w.base.machine.bus.holders row
  pub register : pkru_of after.base.machine.bus thread ≡ pkru_of w.base.machine.bus thread
  pub registers : length after.base.machine.bus.pkrus ≡ length w.base.machine.bus.pkrus
  pub lives : ThreadLives w.base.machine thread → ThreadLives after.base.machine thread
  pub seat : after.base.seats thread ≡ w.base.seats thread
  pub table : after.base.table ≡ w.base.table
  pub trees : after.trees ≡ w.trees
  pub verdict : after.verdicts thread ≡ w.verdicts thread

-- so it is with what another thread leaves to the others, where the words and what users see stay
pub beside_sees : (other thread : ℕ) (w after : World) → thread ≢ other → LeavesOthers other w after
    → after.base.machine.bus.words ≡ w.base.machine.bus.words → length after.base.machine.bus.pkrus ≡ length w.base.machine.bus.pkrus → (ThreadLives w.base.machine thread → ThreadLives after.base.machine thread)
    → after.base.table ≡ w.base.table → after.trees ≡ w.trees → after.verdicts thread ≡ w.verdicts thread
    → SeesSame thread w after
beside_sees other thread w after ne others words registers lives table trees verdict = record {
  words = words;
  kept = λ row own among. others.kept row (λ is. ne (sym own ∙ is)) among;
  only = λ row own among. others.only row (λ is. ne (sym own ∙ is)) among;
  register = others.registers thread ne;
  registers = registers;
  lives = lives;
  seat = others.seats thread ne;
  table = table;
  trees = trees;
  verdict = verdict;
}

module _ (thread : ℕ) (command : Command) (answer : Answer) (w after : World) (same : SeesSame thread w after) where
  -- the part of the knowledge that is of the coffer
  over : (P : List Word → List Row → (ℕ → List Member) → Type 0) → P w.base.machine.bus.words w.base.table w.trees → P after.base.machine.bus.words after.base.table after.trees
  over P p =
      subst (λ (trees : ℕ → List Member). P after.base.machine.bus.words after.base.table trees) (sym same.trees)
      (subst (λ (table : List Row). P after.base.machine.bus.words table w.trees) (sym same.table)
      (subst (λ (words : List Word). P words w.base.table w.trees) (sym same.words) p))

  still_bare : IsBare w.base.machine.bus thread → IsBare after.base.machine.bus thread
  still_bare bare = record {
    unheld = λ row among own. bare.unheld row (same.only row own among) own;
    register = same.register ∙ bare.register;
  }

  still_mapped : (key pkru : ℕ) → HasMapped w.base.machine.bus thread command key pkru → HasMapped after.base.machine.bus thread command key pkru
  still_mapped key pkru mapped = record {
    is_key = mapped.is_key;
    held = same.kept (row_of thread command key) refl mapped.held;
    only = λ row among own. mapped.only row (same.only row own among) own;
    register = same.register ∙ mapped.register;
  }

  still_rests : IsAtRest w → IsAtRest after
  still_rests rest = record {
    alone = over (λ words table trees. IsAlone (coffers_of table trees) (coffer_at words table root_row (root_coffer (pages_of words))) (trees 0)) rest.alone;
    rests = over (λ words table trees. Rests (value words) (coffer_at words table root_row (root_coffer (pages_of words))) (trees 0)) rest.rests;
  }

  still_fresh : (seat : Seat) → IsFresh w thread seat → IsFresh after thread seat
  still_fresh seat fresh = record { uncommitted = fresh.uncommitted; unasked = fresh.unasked; open_reply = same.verdict ∙ fresh.open_reply }

  still_tells : (seat : Seat) (reply : Reply) → MayTell w thread seat reply → MayTell after thread seat reply
  still_tells seat reply (rest, may) = (
    still_rests rest,
    subst (λ (v : Verdict). MayReply (coffers_at after) seat v reply) (sym same.verdict)
        (over (λ words table trees. MayReply (coffers_of table trees) seat (w.verdicts thread) reply) may),
  )

  scene_same : (seat : Seat) → scene_of w thread seat ≡ scene_of after thread seat
  scene_same seat =
      let words = sym same.words in
      let table = sym same.table in
      let trees = sym same.trees in
      let verdict = sym same.verdict in
      λ i. record {
        at = value (words i);
        id = 1;
        coffer = coffer_at (words i) (table i) root_row (root_coffer (pages_of (words i)));
        coffers = coffers_of (table i) (trees i);
        seat = seat;
        verdict = verdict i;
      }

  still_known : (s : Stage) (seat : Seat) → StageKnows thread command s answer w seat → StageKnows thread command s answer after seat
  still_known stage.Begin seat k = (still_bare k.0, still_rests k.1, still_fresh seat k.2)
  still_known stage.Finding seat k = (still_bare k.0, still_rests k.1, still_fresh seat k.2, k.3, k.4)
  still_known stage.Mapping seat k = (
    k.0,
    still_mapped k.0 closed_pkru k.1,
    still_rests k.2,
    still_fresh seat k.3,
    k.4,
    subst (λ (words : List Word). answer ≡ Kern (Mapped (root_mapped words k.0))) (sym same.words) k.5,
  )
  still_known (stage.Working op) seat k = (k.0, still_mapped k.0 (open_pkru command k.0) k.1, k.2, subst (OpKnows op command answer) (scene_same seat) k.3)
  still_known (stage.Closing reply) seat k = (k.0, still_mapped k.0 closed_pkru k.1, still_tells seat reply k.2)
  still_known (stage.Ending reply) seat k = (still_bare k.0, still_tells seat reply k.1)
  still_known stage.Over seat k = absurd k

  -- the knowledge of a session stays where what it sees does, in a world that is as it must be for it
  pub knows_seen : (s : Stage) → IsRooted after → IsDenoted after → KnowsAt thread command s answer w → KnowsAt thread command s answer after
  knows_seen s rooted denoted k = record {
    rooted = rooted;
    denoted = denoted;
    seat = k.seat;
    sits = record {
      lives = same.lives k.sits.lives;
      register = subst (λ (n : ℕ). thread < n) (sym same.registers) k.sits.register;
      valid = k.sits.valid;
      seat_is = same.seat ∙ k.sits.seat_is;
      command_is = k.sits.command_is;
      cred = k.sits.cred;
    };
    knows = still_known s k.seat k.knows;
  }

-- A store under a closed register is a fault, where each row has a key of a coffer.
pub rooted_key : (w : World) → IsRooted w → (row : Holder) → Contains w.base.machine.bus.holders row → IsKey row.key
rooted_key w rooted row among =
    let first = (rooted.rows row among).key in
    record { least = omega (arith, first); most = omega (arith, first) }

no_key : (key : ℕ) → None ≡ Some key → ⊥
no_key key clash = cc

no_fault : (kind : FaultKind) → Some kind ≡ None → ⊥
no_fault kind clash = cc

same_key : (key other : ℕ) → Some key ≡ Some other → key ≡ other
same_key key other same = cc

-- the key of a process is that of a row
key_among : (threads : List (ℕ × ℕ)) (holders : List Holder) (thread coffer key : ℕ) → key_in threads holders thread coffer ≡ Some key → (row : Holder) × Contains holders row × (row.key ≡ key)
key_among threads [] thread coffer key is = absurd (no_key key is)
key_among threads (h ∷ holders) thread coffer key is = by (holds_beside threads thread coffer h) is (key_among threads holders thread coffer key)
  where
    by : (b : Bool) → cond b (Some h.key) (key_in threads holders thread coffer) ≡ Some key
        → (key_in threads holders thread coffer ≡ Some key → (row : Holder) × Contains holders row × (row.key ≡ key))
        → (row : Holder) × Contains (h ∷ holders) row × (row.key ≡ key)
    by true own rest = (h, contains_here h holders, same_key h.key key own)
    by false later rest = let at = rest later in (at.0, contains_there h holders at.0 at.1, at.2)

refused_by : (key : Option ℕ) (writable : Bool) → ((k : ℕ) → key ≡ Some k → IsKey k) → store_fault_by key writable closed_pkru ≢ None
refused_by None writable keys none = no_fault NotMapped none
refused_by (Some key) false keys none = no_fault NotWritable none
refused_by (Some key) true keys none = no_fault KeyDenied (sym (ap (λ (b : Bool). cond b None (Some KeyDenied)) (closed_writes key (keys key refl))) ∙ none)

module _ (bus : Bus) (thread addr : ℕ) (closed : pkru_of bus thread ≡ closed_pkru) (keys : (row : Holder) → Contains bus.holders row → IsKey row.key) where
  key_of_row : (coffer key : ℕ) → key_in bus.threads bus.holders thread coffer ≡ Some key → IsKey key
  key_of_row coffer key is = let at = key_among bus.threads bus.holders thread coffer key is in subst IsKey at.2 (keys at.0 at.1)

  never_permitted : store_refusal bus thread addr ≢ None
  never_permitted = by (is_word bus.words addr)
    where
      by : (b : Bool) → cond b (store_fault bus.threads bus.holders thread (pkru_of bus thread) (kernel_owner bus.words (addr / 4096))) (Some NotMapped) ≢ None
      by true none = refused_by _ _ (key_of_row (kernel_owner bus.words (addr / 4096)))
          (ap (λ (p : ℕ). store_fault bus.threads bus.holders thread p (kernel_owner bus.words (addr / 4096))) (sym closed) ∙ none)
      by false none = no_fault NotMapped none

  pub stray_refused : (answer : Answer) → IsStored bus thread addr answer → (kind : FaultKind) × (answer ≡ Fault kind)
  stray_refused (WordIs x) stored = absurd stored
  stray_refused Done stored = absurd (never_permitted stored)
  stray_refused (Fault kind) stored = (kind, refl)
  stray_refused (Kern answer) stored = absurd stored
