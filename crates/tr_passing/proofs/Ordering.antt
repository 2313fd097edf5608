-- The units stand to the world as before, after an entry that does what it owes.
use Rattle.std.proofs.Common.{◌≡◌, ℕ, ◌+◌, ◌<◌, ◌==◌, Bool, true, false, cond, not, ◌&&◌, List, [], ◌∷◌, refl, sym, ap, subst, ◌∙◌, inl, inr, ◌⊎◌, arith, Contains, Option, Some, None}
use Rattle.std.specs.Cmp.Lexicographic.{pointwise_decides, bytes_decides}
use Rattle.std.proofs.lemmas.Bool.{cases_eq, eq-eqb}
use Rattle.tr_types.specs.Paths.{names_of}
use Rattle.tr_types.specs.declared.action.Action.{Action}
use Rattle.tr_types.specs.declared.action.Action.TheVariants.{Store}
use Rattle.tr_types.specs.declared.action.Answer.{Answer}
use Rattle.tr_types.specs.declared.action.Answer.TheVariants.{Done}
use Rattle.tr_types.specs.declared.command.Command.{Command}
use Rattle.tr_types.specs.declared.command.Command.TheVariants.{Create, Stat}
use Rattle.tr_types.specs.declared.entry.Entry.{Entry}
use Rattle.tr_types.specs.declared.entry.Entry.TheVariants as entry
use Rattle.tr_types.specs.declared.entry.Mark.{Mark}
use Rattle.zo_model.specs.Tree.{same_names}
use Rattle.zo_model.specs.Answers.{consulted}
use Rattle.zo_model.specs.Coffers.{parent}
use Rattle.zo_model.specs.Legal.{is_lost}
use Rattle.tr_model.specs.Worlds.{Standing, IsReady, IsLost, IsQuarantined, Row, coffers_of, losing, lost_standing, root_row, cred_of}
use Rattle.tr_replay.specs.Seats.{Seat, committed_after, seat_after}
use Rattle.tr_replay.specs.Worlds.{Base, Commit, World, never, base_after, stepped, commit_of, committing, commits_after, harmed, moves, seat_of, seated, has_lease}
use Rattle.tr_replay.specs.Legal.{IsInCall}
use Rattle.tr_replay.specs.Crashes.{IsUnanswered, IsLastUnder}
use Rattle.tr_passing.specs.Units.{Last, Units, IsOpen, put_last, is_move, units_if, units_by, units_after, kept_last, GoesOn}
use Rattle.tr_passing.specs.Laws.{IsTidy, IsAlone, IsReadyAlone, IsOrdered, HasUnit, Owes, OrderedMore, root_standing}
use Rattle.tr_passing.proofs.Orders.{IsNew, put_same, put_other, put_cases, contains_first, commit_cases, commit_kept, new_position, new_same, tidy_more}
use Rattle.tr_passing.proofs.Moves.{Acts, Rests, Tells, Moves, right, kind_of, allowed_never, new_last}
use Rattle.tr_passing.proofs.Keeping.{kept_from, judged_more, open_before}

some_last : (a b : Last) → Some a ≡ Some b → a ≡ b
some_last a b e = cc

pub same_self : (names : List (List ℕ)) → same_names names names ≡ true
same_self names = (pointwise_decides bytes_decides names names).1 refl

pub new_there : (b : Base) (e : Entry) (c : Commit) → IsNew b e c → Contains (commits_after b e) c
new_there b e c new =
    subst (λ (cs : List Commit). Contains cs c) (sym all) (subst (λ (x : Commit). Contains (x ∷ b.commits) c) new.is (contains_first c b.commits))
  where
    all : commits_after b e ≡ commit_of b new.thread new.addr new.seat ∷ b.commits
    all =
        ap (commits_after b) new.entry_is
        ∙ ap (λ (o : Option Seat). committing b new.thread new.m (Store new.addr new.word) Done o) new.runs
        ∙ ap (λ (t : Bool). cond (t && true) (commit_of b new.thread new.addr new.seat ∷ b.commits) b.commits) new.commits

-- A coffer that is ready was ready before.

first_standing : List Row → Standing
first_standing [] = IsReady
first_standing (row ∷ rows) = row.standing

still_ready : (s : Standing) → (t : Bool) → cond t (root_standing (lost_standing s)) (root_standing s) ∷ [] ≡ root_row ∷ [] → root_standing s ∷ [] ≡ root_row ∷ []
unfolding first_standing
still_ready s false e = e
still_ready IsReady true e = refl
still_ready IsLost true e = absurd (let both : IsLost ≡ IsReady = ap first_standing e in let isnt : ⊥ = cc in isnt)
still_ready IsQuarantined true e = absurd (let both : IsQuarantined ≡ IsReady = ap first_standing e in let isnt : ⊥ = cc in isnt)

losing_ready : (o : Option (List (List ℕ))) (table : List Row) → IsAlone table → losing o table ≡ root_row ∷ [] → table ≡ root_row ∷ []
losing_ready None table alone e = e
losing_ready (Some path) table alone e =
    alone.is ∙ still_ready alone.standing (same_names [] path) (ap (λ (rows : List Row). losing (Some path) rows) (sym alone.is) ∙ e)

pub ready_before : (b : Base) (e : Entry) → IsTidy b → IsReadyAlone (base_after b e) → IsReadyAlone b
ready_before b e tidy ready = losing_ready (harmed b e) b.table tidy.alone ready

lost_never : (command : Command) → is_lost (consulted (coffers_of (root_row ∷ []) (λ _. [])) command) ≡ false
lost_never (Create path mode) = refl
lost_never (Stat path) = refl

-- in a coffer that stays ready each change is judged
ready_moves : (b : Base) (e : Entry) (seat : Seat) → IsReadyAlone (base_after b e) → moves false b e seat ≡ true
ready_moves b e seat ready = ap (λ (rows : List Row). not (is_lost (consulted (coffers_of rows (λ _. [])) seat.command))) ready ∙ ap not (lost_never seat.command)

new_judged : (w : World) (e : Entry) (units : Units) (c : Commit) → IsNew w.base e c → IsReadyAlone (base_after w.base e) → (units_after w e units).judged c.position ≡ true
new_judged w e units c new ready =
    (λ i. (units_after w (new.entry_is i) units).judged c.position)
    ∙ ap (λ (o : Option Seat). (units_by w act new.thread new.m (Store new.addr new.word) Done o units).judged c.position) new.runs
    ∙ ap (λ (t : Bool). (units_if t w made new.seat.command units).judged c.position) move
    ∙ put_same units.judged made.position c.position true (ap (λ (x : Commit). x.position) new.is)
  where
    act : Entry
    act = entry.Act new.thread new.now new.m (Store new.addr new.word) Done

    made : Commit
    made = commit_of w.base new.thread new.addr new.seat

    move : is_move w.base act new.m (Store new.addr new.word) Done new.seat ≡ true
    move =
        (λ i. new.commits i && true && moves false w.base act new.seat)
        ∙ ap (λ (x : Entry). moves false w.base x new.seat) (sym new.entry_is) ∙ ready_moves w.base e new.seat ready

module _ (w : World) (units : Units) (e : Entry) (tidy : IsTidy w.base) (ordered : IsOrdered w units) (owes : Owes w units e) where
  -- a change without a reply has none after the entry
  called : (c : Commit) (thread : ℕ) (command : Command) → e ≡ entry.Call thread command → IsUnanswered w.base c → IsUnanswered (base_after w.base (entry.Call thread command)) c
  called c thread command is u = by (cases_eq c.thread thread)
    where
      free : w.base.seats thread ≡ None
      free = subst (IsInCall w) is owes.in_call

      by : (c.thread ≡ thread) ⊎ (c.thread ≡ thread → ⊥) → IsUnanswered (base_after w.base (entry.Call thread command)) c
      by (inl same) = absurd (let both : Some u.seat ≡ None = sym u.runs ∙ ap w.base.seats same ∙ free in let isnt : ⊥ = cc in isnt)
      by (inr ne) = record { seat = u.seat; runs = put_other w.base.seats thread c.thread (seat_of (cred_of w.base.machine.bus thread) command) ne ∙ u.runs; committed = u.committed }

  acted : (c : Commit) (thread now : ℕ) (m : Mark) (action : Action) (given : Answer) → e ≡ entry.Act thread now m action given → IsReadyAlone (base_after w.base e) → IsUnanswered w.base c
      → IsUnanswered (base_after w.base (entry.Act thread now m action given)) c
  acted c thread now m action given is ready u = by (cases_eq c.thread thread)
    where
      after : Option Seat
      after = seated (has_lease w.base) w.base.count thread now m action given (w.base.seats thread)

      off : committed_after w.base.count m given u.seat.committed ≡ Some c.position
      off = ap (λ (o : Option ℕ). committed_after w.base.count m given o) u.committed

      by : (c.thread ≡ thread) ⊎ (c.thread ≡ thread → ⊥) → IsUnanswered (base_after w.base (entry.Act thread now m action given)) c
      by (inr ne) = record { seat = u.seat; runs = put_other w.base.seats thread c.thread (seated (has_lease w.base) w.base.count thread now m action given (w.base.seats thread)) ne ∙ u.runs; committed = u.committed }
      by (inl same) = record {
        seat = seat_after (has_lease w.base) w.base.count thread now m action given u.seat;
        runs =
            put_same w.base.seats thread c.thread (seated (has_lease w.base) w.base.count thread now m action given (w.base.seats thread)) same
            ∙ ap (λ (o : Option Seat). seated (has_lease w.base) w.base.count thread now m action given o) (ap w.base.seats (sym same) ∙ u.runs);
        committed = off;
      }

  replied : (c : Commit) (thread : ℕ) (given : Rattle.tr_types.specs.declared.command.Reply.Reply) → e ≡ entry.Reply thread given → IsReadyAlone w.base → Contains w.base.commits c → IsOpen w.base c → IsUnanswered w.base c
      → IsUnanswered (base_after w.base (entry.Reply thread given)) c
  replied c thread given is ready there open' u = by (cases_eq c.thread thread)
    where
      unit : HasUnit units c
      unit = ordered.covered c there (ordered.moved ready c there) open'

      stays : (units_after w e units).last unit.birth unit.names ≡ Some unit.last
      stays = owes.stays unit.birth unit.names unit.last unit.is (subst (IsOpen w.base) (sym unit.commit_is) open')

      gone : c.thread ≡ thread → (units_after w e units).last unit.birth unit.names ≡ None
      gone same =
          (λ i. (units_after w (is i) units).last unit.birth unit.names) ∙ ap (kept_last thread) unit.is
          ∙ ap (λ (t : Bool). cond t None (Some unit.last)) (eq-eqb unit.last.commit.thread thread (ap (λ (x : Commit). x.thread) unit.commit_is ∙ same))

      by : (c.thread ≡ thread) ⊎ (c.thread ≡ thread → ⊥) → IsUnanswered (base_after w.base (entry.Reply thread given)) c
      by (inl same) = absurd (let both : None ≡ Some unit.last = sym (gone same) ∙ stays in let isnt : ⊥ = cc in isnt)
      by (inr ne) = record { seat = u.seat; runs = put_other w.base.seats thread c.thread None ne ∙ u.runs; committed = u.committed }

  seat_stays : (c : Commit) → IsReadyAlone (base_after w.base e) → Contains w.base.commits c → IsOpen w.base c → (x : Entry) → e ≡ x → IsUnanswered w.base c → IsUnanswered (base_after w.base x) c
  seat_stays c ready there open' (entry.Call thread command) is u = called c thread command is u
  seat_stays c ready there open' (entry.Act thread now m action given) is u = acted c thread now m action given is ready u
  seat_stays c ready there open' (entry.Reply thread given) is u = replied c thread given is (ready_before w.base e tidy ready) there open' u
  seat_stays c ready there open' (entry.Crash choice) is u = absurd (subst (GoesOn w) is owes.comes)
  seat_stays c ready there open' x is u = record { seat = u.seat; runs = u.runs; committed = u.committed }

  new_first : (c : Commit) (new : IsNew w.base e c) → IsReadyAlone (base_after w.base e) → new.seat.committed ≡ None
  new_first c new ready =
      let acts : Acts w e = record { thread = new.thread; now = new.now; m = new.m; action = Store new.addr new.word; given = Done; seat = new.seat; entry_is = new.entry_is; runs = new.runs; commits = new.commits; judged = ready_moves w.base e new.seat ready } in
      (right never w e acts tidy owes.comes (owes.sure never (allowed_never w units)) refl).first

  new_unanswered : (c : Commit) → IsNew w.base e c → IsReadyAlone (base_after w.base e) → IsUnanswered (base_after w.base e) c
  new_unanswered c new ready = subst (λ (x : Entry). IsUnanswered (base_after w.base x) c) (sym new.entry_is) (record {
    seat = seat_after (has_lease w.base) w.base.count new.thread new.now new.m (Store new.addr new.word) Done new.seat;
    runs =
        put_same w.base.seats new.thread c.thread (seated (has_lease w.base) w.base.count new.thread new.now new.m (Store new.addr new.word) Done (w.base.seats new.thread)) (ap (λ (x : Commit). x.thread) new.is)
        ∙ ap (λ (o : Option Seat). seated (has_lease w.base) w.base.count new.thread new.now new.m (Store new.addr new.word) Done o) new.runs;
    committed =
        ap (λ (o : Option ℕ). committed_after w.base.count new.m Done o) (new_first c new ready)
        ∙ ap (λ (t : Bool). cond t (Some w.base.count) None) new.commits ∙ ap (λ (x : Commit). Some x.position) (sym new.is);
  })

  abbrev Kind : Type 0
  Kind = Rests w e units ⊎ (Tells w e units ⊎ Moves w e units tidy.alone.standing)

  kind : Kind
  kind = kind_of w e units tidy owes.comes (owes.sure never (allowed_never w units))

  pub last_cases : (k : Kind) (b : ℕ) (names : List (List ℕ)) (last : Last) → (units_after w e units).last b names ≡ Some last
      → (units.last b names ≡ Some last) ⊎ (IsNew w.base e last.commit × ((units_after w e units).judged last.commit.position ≡ true))
  last_cases (inl r) b names last is = inl (ap (λ (u : Units). u.last b names) (sym r.units_are) ∙ is)
  last_cases (inr (inl t)) b names last is = inl (kept_from t.thread (units.last b names) last (ap (λ (l : Rattle.tr_passing.specs.Units.Lasts). l b names) (sym t.last_is) ∙ is))
  last_cases (inr (inr m)) b names last is =
      by ((b == 0) && same_names (parent (names_of m.path)) names) (ap (λ (u : Units). u.last b names) (sym m.units_are) ∙ is)
    where
      by : (t : Bool) → cond t (Some (new_last w m.c tidy.alone.standing m.path)) (units.last b names) ≡ Some last
          → (units.last b names ≡ Some last) ⊎ (IsNew w.base e last.commit × ((units_after w e units).judged last.commit.position ≡ true))
      by false s = inl s
      by true s =
          let c_is : m.c ≡ last.commit = ap (λ (l : Last). l.commit) (some_last (new_last w m.c tidy.alone.standing m.path) last s) in
          inr (subst (IsNew w.base e) c_is m.new, ap (λ (u : Units). u.judged last.commit.position) m.units_are ∙ put_same units.judged m.c.position last.commit.position true (ap (λ (x : Commit). x.position) (sym c_is)))

  judged_cases : (k : Kind) (i : ℕ) → (units_after w e units).judged i ≡ true → (units.judged i ≡ true) ⊎ (i ≡ w.base.count)
  judged_cases (inl r) i is = inl (ap (λ (u : Units). u.judged i) (sym r.units_are) ∙ is)
  judged_cases (inr (inl t)) i is = inl (ap (λ (f : ℕ → Bool). f i) (sym t.entry_is) ∙ is)
  judged_cases (inr (inr m)) i is = by (put_cases units.judged m.c.position i true true (ap (λ (u : Units). u.judged i) (sym m.units_are) ∙ is))
    where
      by : ((i ≡ m.c.position) × (true ≡ true)) ⊎ ((i ≡ m.c.position → ⊥) × (units.judged i ≡ true)) → (units.judged i ≡ true) ⊎ (i ≡ w.base.count)
      by (inl (at, same)) = inr (at ∙ new_position w.base e m.c m.new)
      by (inr (ne, old)) = inl old

  among : (b : ℕ) (names : List (List ℕ)) (last : Last) → (units_after w e units).last b names ≡ Some last → Contains (commits_after w.base e) last.commit
  among b names last is = by (last_cases kind b names last is)
    where
      by : (units.last b names ≡ Some last) ⊎ (IsNew w.base e last.commit × ((units_after w e units).judged last.commit.position ≡ true)) → Contains (commits_after w.base e) last.commit
      by (inl old) = commit_kept w.base e owes.comes last.commit (ordered.among b names last old)
      by (inr (new, j)) = new_there w.base e last.commit new

  judged : (b : ℕ) (names : List (List ℕ)) (last : Last) → (units_after w e units).last b names ≡ Some last → (units_after w e units).judged last.commit.position ≡ true
  judged b names last is = by (last_cases kind b names last is)
    where
      by : (units.last b names ≡ Some last) ⊎ (IsNew w.base e last.commit × ((units_after w e units).judged last.commit.position ≡ true)) → (units_after w e units).judged last.commit.position ≡ true
      by (inl old) = judged_more w e units last.commit.position (ordered.judged b names last old)
      by (inr (new, j)) = j

  passed : (i : ℕ) → (units_after w e units).judged i ≡ true → i < w.base.count + 1
  passed i is = by (judged_cases kind i is)
    where
      by : (units.judged i ≡ true) ⊎ (i ≡ w.base.count) → i < w.base.count + 1
      by (inl old) = let lt = ordered.passed i old in omega (arith, lt)
      by (inr at) = omega (arith, at)

  new_unit : (k : Kind) (c : Commit) → IsNew w.base e c → (units_after w e units).judged c.position ≡ true → HasUnit (units_after w e units) c
  new_unit (inl r) c new j = let lt = ordered.passed c.position (ap (λ (u : Units). u.judged c.position) (sym r.units_are) ∙ j) in let at = new_position w.base e c new in absurd (omega (arith, lt, at))
  new_unit (inr (inl t)) c new j = let lt = ordered.passed c.position (ap (λ (f : ℕ → Bool). f c.position) (sym t.entry_is) ∙ j) in let at = new_position w.base e c new in absurd (omega (arith, lt, at))
  new_unit (inr (inr m)) c new j = record {
    birth = 0;
    names = parent (names_of m.path);
    last = new_last w m.c tidy.alone.standing m.path;
    is =
        ap (λ (u : Units). u.last 0 (parent (names_of m.path))) m.units_are
        ∙ ap (λ (t : Bool). cond t (Some (new_last w m.c tidy.alone.standing m.path)) (units.last 0 (parent (names_of m.path)))) (same_self (parent (names_of m.path)));
    commit_is = new_same w.base e m.c c m.new new;
  }

  covered : (c : Commit) → Contains (commits_after w.base e) c → (units_after w e units).judged c.position ≡ true → IsOpen (base_after w.base e) c → HasUnit (units_after w e units) c
  covered c there j open' = by (commit_cases w.base e owes.comes c there)
    where
      before : IsOpen w.base c
      before = open_before w e tidy owes.comes c open'

      old_unit : Contains w.base.commits c → (units.judged c.position ≡ true) ⊎ (c.position ≡ w.base.count) → HasUnit (units_after w e units) c
      old_unit old (inr at) = let lt = tidy.before c old in absurd (omega (arith, lt, at))
      old_unit old (inl was) =
          let unit = ordered.covered c old was before in
          record { birth = unit.birth; names = unit.names; last = unit.last; is = owes.stays unit.birth unit.names unit.last unit.is (subst (IsOpen w.base) (sym unit.commit_is) before); commit_is = unit.commit_is }

      by : Contains w.base.commits c ⊎ IsNew w.base e c → HasUnit (units_after w e units) c
      by (inl old) = old_unit old (judged_cases kind c.position j)
      by (inr new) = new_unit kind c new j

  moved : IsReadyAlone (base_after w.base e) → (c : Commit) → Contains (commits_after w.base e) c → (units_after w e units).judged c.position ≡ true
  moved ready c there = by (commit_cases w.base e owes.comes c there)
    where
      by : Contains w.base.commits c ⊎ IsNew w.base e c → (units_after w e units).judged c.position ≡ true
      by (inl old) = judged_more w e units c.position (ordered.moved (ready_before w.base e tidy ready) c old)
      by (inr new) = new_judged w e units c new ready

  unanswered : IsReadyAlone (base_after w.base e) → (c : Commit) → Contains (commits_after w.base e) c → IsOpen (base_after w.base e) c → IsUnanswered (base_after w.base e) c
  unanswered ready c there open' = by (commit_cases w.base e owes.comes c there)
    where
      by : Contains w.base.commits c ⊎ IsNew w.base e c → IsUnanswered (base_after w.base e) c
      by (inl old) =
          let before = open_before w e tidy owes.comes c open' in
          seat_stays c ready old before e refl (ordered.unanswered (ready_before w.base e tidy ready) c old before)
      by (inr new) = new_unanswered c new ready

  under : (c : Commit) → Contains (commits_after w.base e) c → IsOpen (base_after w.base e) c → IsLastUnder (base_after w.base e) c
  under c there open' later lease other later_there less own theirs same =
      by (commit_cases w.base e owes.comes c there) (commit_cases w.base e owes.comes later later_there)
    where
      by : Contains w.base.commits c ⊎ IsNew w.base e c → Contains w.base.commits later ⊎ IsNew w.base e later → ⊥
      by (inl old) (inl old') = ordered.under c old (open_before w e tidy owes.comes c open') later lease other old' less own theirs same
      by (inl old) (inr new) = owes.leases later later_there (new_position w.base e later new) c old (open_before w e tidy owes.comes c open') (lease, other, own, theirs, same)
      by (inr new) later' =
          let lt = (tidy_more w.base e tidy owes.comes).before later later_there in
          let at = new_position w.base e c new in
          omega (arith, lt, at, less)

  ordered_after : IsOrdered (stepped w e) (units_after w e units)
  ordered_after = record { among = among; judged = judged; passed = passed; covered = covered; moved = moved; unanswered = unanswered; under = under }

pub ordered_more : OrderedMore
unfolding ordered_after
ordered_more w units e tidy ordered owes = ordered_after w units e tidy ordered owes
