-- Which entries move the trees, and what they leave of the units.
use Rattle.std.proofs.Common.{◌≡◌, ℕ, Bool, true, false, not, ◌&&◌, List, [], ◌∷◌, length, refl, sym, ap, subst, ◌∙◌, inl, inr, ◌⊎◌, Option, Some, None}
use Rattle.std.proofs.lemmas.Bool.{false≢true}
use Rattle.tr_types.specs.Paths.{names_of}
use Rattle.tr_types.specs.declared.action.Action.{Action}
use Rattle.tr_types.specs.declared.action.Action.TheVariants.{Store, Kernel}
use Rattle.tr_types.specs.declared.action.Answer.{Answer}
use Rattle.tr_types.specs.declared.action.Answer.TheVariants.{Word as WordIs, Done, Fault, Kern}
use Rattle.tr_types.specs.declared.command.Command.{Command}
use Rattle.tr_types.specs.declared.command.Command.TheVariants.{Create, Stat}
use Rattle.tr_types.specs.declared.entry.Entry.{Entry}
use Rattle.tr_types.specs.declared.entry.Entry.TheVariants as entry
use Rattle.tr_types.specs.declared.entry.Mark.{Mark}
use Rattle.tr_types.specs.declared.entry.Mark.TheVariants as mark
use Rattle.tr_types.specs.declared.kernel_call.Kcall.TheVariants.{Find, Map, Unmap, Enlarge, New}
use Rattle.tr_types.specs.declared.action.FaultKind.{FaultKind}
use Rattle.bus_model.specs.Machine.{Bus, HasText}
use Rattle.zo_model.specs.Tree.{Member}
use Rattle.zo_model.specs.Coffers.{Coffer, parent}
use Rattle.zo_model.specs.Answers.{Answered, answer, consulted}
use Rattle.zo_model.specs.Legal.{is_lost, IsWay}
use Rattle.zo_model.specs.Seats.{is_commit}
use Rattle.tr_model.specs.Worlds.{Standing, IsReady, IsLost, IsQuarantined, Row, coffers_of, put}
use Rattle.tr_replay.specs.Seats.{Seat}
use Rattle.tr_replay.specs.Worlds.{Base, Commit, World, never, replay_of, commit_of, is_stored, address_of, table_after, harmed, moves, trees_if, trees_by, stepped}
use Rattle.tr_replay.specs.Legal.{IsKnownCall, IsLegalBy, IsLegalAct, IsLegalCommit, MayCommit}
use Rattle.tr_passing.specs.Units.{Last, Units, Lasts, Allowed, put_last, making, lasts_in, lasts_by, row_at, is_move, units_if, units_by, units_after, GoesOn}
use Rattle.tr_passing.specs.Laws.{IsTidy, IsAlone, root_standing}
use Rattle.tr_passing.proofs.Growth.{Makes, Creates, creates, trees_grow, with_file}
use Rattle.tr_passing.proofs.Orders.{IsNew, losing_alone}

three : (a b c : Bool) → (a && b && c) ≡ true → (a ≡ true) × (b ≡ true) × (c ≡ true)
three true true c e = (refl, refl, e)
three true false c e = absurd (false≢true e)
three false b c e = absurd (false≢true e)

is_true : (b : Bool) → not b ≡ true → b ≡ false
is_true true e = absurd (false≢true e)
is_true false e = refl

pub allowed_never : (w : World) (units : Units) → Allowed never w units
allowed_never w units position lt judged drops = absurd (false≢true drops)

-- which coffer is lost, no tree tells
lost_alone : (s : Standing) (trees other : ℕ → List Member) (command : Command) → is_lost (consulted (coffers_of (root_standing s ∷ []) trees) command) ≡ is_lost (consulted (coffers_of (root_standing s ∷ []) other) command)
lost_alone IsReady trees other (Create path mode) = refl
lost_alone IsReady trees other (Stat path) = refl
lost_alone IsLost trees other (Create path mode) = refl
lost_alone IsLost trees other (Stat path) = refl
lost_alone IsQuarantined trees other (Create path mode) = refl
lost_alone IsQuarantined trees other (Stat path) = refl

lost_same : (table : List Row) → IsAlone table → (trees other : ℕ → List Member) (command : Command) → is_lost (consulted (coffers_of table trees) command) ≡ is_lost (consulted (coffers_of table other) command)
lost_same table alone trees other command =
    subst (λ (rows : List Row). is_lost (consulted (coffers_of rows trees) command) ≡ is_lost (consulted (coffers_of rows other) command)) (sym alone.is) (lost_alone alone.standing trees other command)

fault_none : (m : Mark) (kind : FaultKind) → is_commit m (Fault kind) ≡ false
fault_none mark.Commit kind = refl
fault_none m kind = refl

-- a right change is a store that was done, and makes no coffer
pub record StoresIn (coffers : List Coffer) (a : Answered) (action : Action) (given : Answer) : Type 0 where
  pub stored : is_stored action given ≡ true
  pub long : length a.coffers ≡ length coffers

stores_in : (bus : Bus) (thread now : ℕ) (m : Mark) (coffers : List Coffer) (command : Command) (a : Answered) (action : Action) (given : Answer) → IsKnownCall action → HasText bus thread now action given → is_commit m given ≡ true
    → IsWay coffers command a action → StoresIn coffers a action given
stores_in bus thread now m coffers command a (Store addr word) Done known has commits way = record { stored = refl; long = way }
stores_in bus thread now m coffers command a (Store addr word) (Fault kind) known has commits way = absurd (false≢true (sym (fault_none m kind) ∙ commits))
stores_in bus thread now m coffers command a (Store addr word) (WordIs x) known has commits way = absurd has
stores_in bus thread now m coffers command a (Store addr word) (Kern x) known has commits way = absurd has
stores_in bus thread now m coffers command a (Kernel (New parent path kind mode link guard)) given known has commits way = absurd known
stores_in bus thread now m coffers command a (Kernel (Find path also)) given known has commits way = absurd way
stores_in bus thread now m coffers command a (Kernel (Map path right exclusive)) given known has commits way = absurd way
stores_in bus thread now m coffers command a (Kernel (Unmap id)) given known has commits way = absurd way
stores_in bus thread now m coffers command a (Kernel (Enlarge id count)) given known has commits way = absurd way
stores_in bus thread now m coffers command a (Kernel call) given known has commits way = absurd known
stores_in bus thread now m coffers command a action given known has commits way = absurd way

-- An action by which a change comes about that is judged.
pub record Acts (w : World) (e : Entry) : Type 0 where
  pub thread : ℕ
  pub now : ℕ
  pub m : Mark
  pub action : Action
  pub given : Answer
  pub seat : Seat
  pub entry_is : e ≡ entry.Act thread now m action given
  pub runs : w.base.seats thread ≡ Some seat
  pub commits : is_commit m given ≡ true
  pub judged : moves false w.base e seat ≡ true

-- it is right in a replay without the dropped changes, as it isn't dropped itself
pub record Right (drops : ℕ → Bool) (w : World) (s : Standing) (seat : Seat) (action : Action) (given : Answer) : Type 0 where
  pub first : seat.committed ≡ None
  pub answered' : Answered
  pub answer_is : answer (coffers_of (root_standing s ∷ []) (w.replays drops).trees) seat.cred seat.command ≡ Some answered'
  pub creates' : Creates s ((w.replays drops).trees 0) seat.command answered'
  pub stored : is_stored action given ≡ true

right_by : (drops : ℕ → Bool) (w : World) (s : Standing) (bus : Bus) (thread now : ℕ) (m : Mark) (seat : Seat) (action : Action) (given : Answer) → IsKnownCall action → HasText bus thread now action given → is_commit m given ≡ true
    → MayCommit (coffers_of (root_standing s ∷ []) (w.replays drops).trees) seat action → Right drops w s seat action given
right_by drops w s bus thread now m seat action given known has commits may =
    let st = stores_in bus thread now m (coffers_of (root_standing s ∷ []) (w.replays drops).trees) seat.command may.answered action given known has commits may.way in
    record {
      first = may.first;
      answered' = may.answered;
      answer_is = may.changes.0;
      creates' = creates s (w.replays drops).trees seat.cred seat.command may.answered may.changes.0 may.changes.1 st.long;
      stored = st.stored;
    }

pub right : (drops : ℕ → Bool) (w : World) (e : Entry) (a : Acts w e) (tidy : IsTidy w.base) → GoesOn w e → IsLegalBy drops w e → drops w.base.count ≡ false → Right drops w tidy.alone.standing a.seat a.action a.given
right drops w e a tidy comes legal kept =
    right_by drops w tidy.alone.standing w.base.machine.bus a.thread a.now a.m a.seat a.action a.given legal'.0 comes'.2 a.commits
    (subst (λ (rows : List Row). MayCommit (coffers_of rows (w.replays drops).trees) a.seat a.action) tidy.alone.is (may lost))
  where
    act : Entry
    act = entry.Act a.thread a.now a.m a.action a.given

    legal' : IsLegalBy drops w act
    legal' = subst (IsLegalBy drops w) a.entry_is legal

    comes' : GoesOn w act
    comes' = subst (GoesOn w) a.entry_is comes

    judged' : moves false w.base act a.seat ≡ true
    judged' = ap (λ (x : Entry). moves false w.base x a.seat) (sym a.entry_is) ∙ a.judged

    may : IsLegalCommit drops w act a.action (Some a.seat)
    may = subst (λ (o : Option Seat). IsLegalCommit drops w act a.action o) a.runs
        (subst (λ (t : Bool). IsLegalAct drops w act a.action t (w.base.seats a.thread)) (ap (λ (t : Bool). t && not (drops w.base.count)) a.commits ∙ ap not kept) legal'.1)

    lost : is_lost (consulted (coffers_of (table_after w.base act) (w.replays drops).trees) a.seat.command) ≡ false
    lost =
        lost_same (table_after w.base act) (losing_alone (harmed w.base act) w.base.table tidy.alone) (w.replays drops).trees (λ _. []) a.seat.command
        ∙ is_true (is_lost (consulted (coffers_of (table_after w.base act) (λ _. [])) a.seat.command)) judged'

-- the new last change of a unit
abbrev pub new_last : World → Commit → Standing → List ℕ → Last
new_last w c s path = making w c (root_standing s) (names_of path)

abbrev pub moved_units : World → Commit → Standing → List ℕ → Units → Units
moved_units w c s path units = record { judged = put units.judged c.position true; last = put_last units.last 0 (parent (names_of path)) (new_last w c s path) }

-- The entry moves the trees.
pub record Moves (w : World) (e : Entry) (units : Units) (s : Standing) : Type 0 where
  pub acts : Acts w e
  pub path : List ℕ
  pub mode : ℕ
  pub c : Commit
  pub new : IsNew w.base e c
  pub first : acts.seat.committed ≡ None
  pub command_is : acts.seat.command ≡ Create path mode
  pub makes : (a : Answered) × Makes s ((replay_of w).trees 0) path a
  pub units_are : units_after w e units ≡ moved_units w c s path units
  -- what it leaves of each replay
  pub dropped : (drops : ℕ → Bool) → drops w.base.count ≡ true → ((stepped w e).replays drops).trees ≡ (w.replays drops).trees
  pub kept : (drops : ℕ → Bool) → drops w.base.count ≡ false → IsLegalBy drops w e → (birth : ℕ) → ((stepped w e).replays drops).trees birth ≡ with_file path (w.replays drops).trees birth

stored_new : (b : Base) (thread now : ℕ) (m : Mark) (action : Action) (given : Answer) (seat : Seat) → b.seats thread ≡ Some seat → is_commit m given ≡ true → is_stored action given ≡ true
    → IsNew b (entry.Act thread now m action given) (commit_of b thread (address_of action) seat)
stored_new b thread now m (Store addr word) Done seat runs commits stores =
    record { thread = thread; now = now; m = m; addr = addr; word = word; seat = seat; entry_is = refl; runs = runs; commits = commits; is = refl }
stored_new b thread now m (Store addr word) given seat runs commits stores = absurd (false≢true stores)
stored_new b thread now m action given seat runs commits stores = absurd (false≢true stores)

same_path : (command : Command) (path other : List ℕ) (mode mode' : ℕ) → command ≡ Create path mode → command ≡ Create other mode' → path ≡ other
same_path command path other mode mode' one two = let both : Create path mode ≡ Create other mode' = sym one ∙ two in cc

-- the entry moves no tree, and leaves the units
pub record Rests (w : World) (e : Entry) (units : Units) : Type 0 where
  pub units_are : units_after w e units ≡ units
  pub trees_are : (drops : ℕ → Bool) → ((stepped w e).replays drops).trees ≡ (w.replays drops).trees

-- it is a reply
pub record Tells (w : World) (e : Entry) (units : Units) : Type 0 where
  pub thread : ℕ
  pub entry_is : (units_after w e units).judged ≡ units.judged
  pub last_is : (units_after w e units).last ≡ (λ birth names. Rattle.tr_passing.specs.Units.kept_last thread (units.last birth names))
  pub trees_are : (drops : ℕ → Bool) → ((stepped w e).replays drops).trees ≡ (w.replays drops).trees

Kind : World → Entry → Units → Standing → Type 0
Kind w e units s = Rests w e units ⊎ (Tells w e units ⊎ Moves w e units s)

module _ (w : World) (units : Units) (tidy : IsTidy w.base) (thread now : ℕ) (m : Mark) (action : Action) (given : Answer) where
  abbrev e : Entry
  e = entry.Act thread now m action given

  rests : (seat : Seat) → w.base.seats thread ≡ Some seat → is_move w.base e m action given seat ≡ false → ((d : Bool) → (is_commit m given && moves d w.base e seat) ≡ false) → Rests w e units
  rests seat runs still none = record {
    units_are = ap (λ (o : Option Seat). units_by w e thread m action given o units) runs ∙ ap (λ (b : Bool). units_if b w (commit_of w.base thread (address_of action) seat) seat.command units) still;
    trees_are = λ drops. ap (λ (o : Option Seat). trees_by (drops w.base.count) w.base (w.replays drops) e m given o) runs ∙ ap (λ (b : Bool). trees_if b w.base (w.replays drops) seat) (none (drops w.base.count));
  }

  module _ (seat : Seat) (runs : w.base.seats thread ≡ Some seat) (commits : is_commit m given ≡ true) (judged : moves false w.base e seat ≡ true) (comes : GoesOn w e) (legal : IsLegalBy never w e) where
    acts : Acts w e
    acts = record { thread = thread; now = now; m = m; action = action; given = given; seat = seat; entry_is = refl; runs = runs; commits = commits; judged = judged }

    now_right : Right never w tidy.alone.standing seat action given
    unfolding acts
    now_right = right never w e acts tidy comes legal refl

    c : Commit
    c = commit_of w.base thread (address_of action) seat

    move : is_move w.base e m action given seat ≡ true
    move = λ i. commits i && now_right.stored i && judged i

    units_are : units_after w e units ≡ moved_units w c tidy.alone.standing now_right.creates'.path units
    unfolding c
    units_are =
        ap (λ (o : Option Seat). units_by w e thread m action given o units) runs
        ∙ ap (λ (b : Bool). units_if b w c seat.command units) move
        ∙ ap (λ (command : Command). units_if true w c command units) now_right.creates'.command_is
        ∙ ap (λ (rows : List Row). record { judged = put units.judged c.position true; last = lasts_in w c (row_at rows (parent (names_of now_right.creates'.path))) (names_of now_right.creates'.path) units.last }) tidy.alone.is

    by_runs : (drops : ℕ → Bool) → ((stepped w e).replays drops).trees ≡ trees_if (is_commit m given && moves (drops w.base.count) w.base e seat) w.base (w.replays drops) seat
    by_runs drops = ap (λ (o : Option Seat). trees_by (drops w.base.count) w.base (w.replays drops) e m given o) runs

    dropped : (drops : ℕ → Bool) → drops w.base.count ≡ true → ((stepped w e).replays drops).trees ≡ (w.replays drops).trees
    dropped drops drop = by_runs drops ∙ ap (λ (b : Bool). trees_if b w.base (w.replays drops) seat) (λ i. commits i && moves (drop i) w.base e seat)

    kept : (drops : ℕ → Bool) → drops w.base.count ≡ false → IsLegalBy drops w e → (birth : ℕ) → ((stepped w e).replays drops).trees birth ≡ with_file now_right.creates'.path (w.replays drops).trees birth
    unfolding acts
    kept drops keep legal' birth =
        let r = right drops w e acts tidy comes legal' keep in
        let same : r.creates'.path ≡ now_right.creates'.path = same_path seat.command r.creates'.path now_right.creates'.path r.creates'.mode now_right.creates'.mode r.creates'.command_is now_right.creates'.command_is in
        ap (λ (trees : ℕ → List Member). trees birth) (by_runs drops)
        ∙ ap (λ (b : Bool). trees_if b w.base (w.replays drops) seat birth) ((λ i. commits i && moves (keep i) w.base e seat) ∙ judged)
        ∙ ap (λ (rows : List Row). Rattle.tr_model.specs.Worlds.trees_after rows (w.replays drops).trees (answer (coffers_of rows (w.replays drops).trees) seat.cred seat.command) birth) tidy.alone.is
        ∙ trees_grow tidy.alone.standing (w.replays drops).trees r.creates'.path (answer (coffers_of (root_standing tidy.alone.standing ∷ []) (w.replays drops).trees) seat.cred seat.command) r.answered' r.answer_is r.creates'.makes birth
        ∙ ap (λ (p : List ℕ). with_file p (w.replays drops).trees birth) same

    moves_it : Moves w e units tidy.alone.standing
    unfolding acts c
    moves_it = record {
      acts = acts;
      path = now_right.creates'.path;
      mode = now_right.creates'.mode;
      c = c;
      new = stored_new w.base thread now m action given seat runs commits now_right.stored;
      first = now_right.first;
      command_is = now_right.creates'.command_is;
      makes = (now_right.answered', now_right.creates'.makes);
      units_are = units_are;
      dropped = dropped;
      kept = kept;
    }

  act_kind : (o : Option Seat) → w.base.seats thread ≡ o → GoesOn w e → IsLegalBy never w e → Kind w e units tidy.alone.standing
  unfolding Kind
  act_kind None runs comes legal = inl (record {
    units_are = ap (λ (o : Option Seat). units_by w e thread m action given o units) runs;
    trees_are = λ drops. ap (λ (o : Option Seat). trees_by (drops w.base.count) w.base (w.replays drops) e m given o) runs;
  })
  act_kind (Some seat) runs comes legal = by (is_commit m given) refl (moves false w.base e seat) refl
    where
      off : (x y z : Bool) → x ≡ false → (x && y && z) ≡ false
      off x y z is = ap (λ (t : Bool). t && y && z) is

      last_off : (x y z : Bool) → z ≡ false → (x && y && z) ≡ false
      last_off true true z is = is
      last_off true false z is = refl
      last_off false y z is = refl

      never_moves : (d : Bool) → moves false w.base e seat ≡ false → moves d w.base e seat ≡ false
      never_moves true is = refl
      never_moves false is = is

      by : (commits : Bool) → is_commit m given ≡ commits → (judged : Bool) → moves false w.base e seat ≡ judged → Kind w e units tidy.alone.standing
      by false no' judged is = inl (rests seat runs (off (is_commit m given) (is_stored action given) (moves false w.base e seat) no') (λ d. ap (λ (t : Bool). t && moves d w.base e seat) no'))
      by true commits false is =
          inl (rests seat runs (last_off (is_commit m given) (is_stored action given) (moves false w.base e seat) is)
          (λ d. ap (λ (t : Bool). t && moves d w.base e seat) commits ∙ never_moves d is))
      by true commits true is = inr (inr (moves_it seat runs commits is comes legal))

-- each entry rests, tells or moves
pub kind_of : (w : World) (e : Entry) (units : Units) (tidy : IsTidy w.base) → GoesOn w e → IsLegalBy never w e → Rests w e units ⊎ (Tells w e units ⊎ Moves w e units tidy.alone.standing)
unfolding Kind
kind_of w (entry.Act thread now m action given) units tidy comes legal = act_kind w units tidy thread now m action given (w.base.seats thread) refl comes legal
kind_of w (entry.Reply thread given) units tidy comes legal = inr (inl (record { thread = thread; entry_is = refl; last_is = refl; trees_are = λ drops. refl }))
kind_of w (entry.Crash choice) units tidy comes legal = absurd comes
kind_of w e units tidy comes legal = inl (record { units_are = refl; trees_are = λ drops. refl })
