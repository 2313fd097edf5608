-- What an entry leaves of commits, seats and the table.
use Rattle.tr_passing.specs.Units.{Goes}
use Rattle.std.proofs.Common.{◌≡◌, ℕ, ◌+◌, ◌/◌, ◌<◌, ◌≤◌, ◌==◌, zero, suc, Bool, true, false, cond, ◌&&◌, if◌then◌else◌, List, [], ◌∷◌, refl, sym, ap, subst, ◌∙◌, inl, inr, ◌⊎◌, arith, Contains, Option, Some, None}
use Rattle.std.proofs.lemmas.Bool.{cases_eq, eq-eqb, ne_eqb, false≢true}
use Rattle.tr_types.specs.declared.action.Action.{Action}
use Rattle.tr_types.specs.declared.action.Action.TheVariants.{Store}
use Rattle.tr_types.specs.declared.action.Answer.{Answer}
use Rattle.tr_types.specs.declared.action.Answer.TheVariants.{Done}
use Rattle.tr_types.specs.declared.command.Command.{Command}
use Rattle.tr_types.specs.declared.entry.Entry.{Entry}
use Rattle.tr_types.specs.declared.entry.Entry.TheVariants as entry
use Rattle.tr_types.specs.declared.entry.Mark.{Mark}
use Rattle.tr_types.specs.declared.permission.Cred.{Cred}
use Rattle.zo_model.specs.Tree.{same_names}
use Rattle.zo_model.specs.Seats.{is_commit}
use Rattle.tr_model.specs.Worlds.{Standing, Row, lose, losing, lost_standing, put, cred_of}
use Rattle.tr_replay.specs.Seats.{Seat, committed_after, seat_after}
use Rattle.tr_replay.specs.Worlds.{Base, Commit, commit_of, committing, commits_after, is_stored, seat_of, seated, seats_after, raised, is_change, is_done, address_of, tops_after, harmed, has_lease}
use Rattle.tr_passing.specs.Laws.{IsAlone, TidyMore, root_standing}
use Rattle.tr_passing.proofs.Rising.{tops_rise, low_after}

pub put_same : {X : Type 0} (f : ℕ → X) (i j : ℕ) (x : X) → j ≡ i → put f i x j ≡ x
put_same f i j x e = ap (λ (b : Bool). cond b x (f j)) (eq-eqb j i e)

pub put_other : {X : Type 0} (f : ℕ → X) (i j : ℕ) (x : X) → (j ≡ i → ⊥) → put f i x j ≡ f j
put_other f i j x ne = ap (λ (b : Bool). cond b x (f j)) (ne_eqb j i ne)

pub put_cases : {X : Type 0} (f : ℕ → X) (i j : ℕ) (x y : X) → put f i x j ≡ y → ((j ≡ i) × (x ≡ y)) ⊎ ((j ≡ i → ⊥) × (f j ≡ y))
put_cases f i j x y e = by (cases_eq j i)
  where
    by : (j ≡ i) ⊎ (j ≡ i → ⊥) → ((j ≡ i) × (x ≡ y)) ⊎ ((j ≡ i → ⊥) × (f j ≡ y))
    by (inl same) = inl (same, sym (put_same f i j x same) ∙ e)
    by (inr ne) = inr (ne, sym (put_other f i j x ne) ∙ e)

pub contains_cases : {X : Type 0} (x y : X) (xs : List X) → Contains (x ∷ xs) y → (y ≡ x) ⊎ Contains xs y
contains_cases x y xs (zero, lt, at) = inl (sym at)
contains_cases x y xs (suc k, lt, at) = inr (k, omega (arith, lt), at)

pub contains_more : {X : Type 0} (x y : X) (xs : List X) → Contains xs y → Contains (x ∷ xs) y
contains_more x y xs (k, lt, at) = (suc k, omega (arith, lt), at)

pub contains_first : {X : Type 0} (x : X) (xs : List X) → Contains (x ∷ xs) x
contains_first x xs = (zero, omega arith, refl)

-- a change that comes about by this entry
pub record IsNew (b : Base) (e : Entry) (c : Commit) : Type 0 where
  pub thread : ℕ
  pub now : ℕ
  pub m : Mark
  pub addr : ℕ
  pub word : ℕ
  pub seat : Seat
  pub entry_is : e ≡ entry.Act thread now m (Store addr word) Done
  pub runs : b.seats thread ≡ Some seat
  pub commits : is_commit m Done ≡ true
  pub is : c ≡ commit_of b thread addr seat

pub Shape : Base → Entry → List Commit → Type 0
Shape b e commits = (commits ≡ b.commits) ⊎ ((c : Commit) × IsNew b e c × (commits ≡ c ∷ b.commits))

and_parts : (a b : Bool) → (a && b) ≡ true → (a ≡ true) × (b ≡ true)
and_parts true b e = (refl, e)
and_parts false b e = absurd (false≢true e)

stored_shape : (b : Base) (thread now : ℕ) (m : Mark) (action : Action) (given : Answer) (seat : Seat) → b.seats thread ≡ Some seat → is_commit m given ≡ true → is_stored action given ≡ true
    → (c : Commit) × IsNew b (entry.Act thread now m action given) c × (commit_of b thread (address_of action) seat ∷ b.commits ≡ c ∷ b.commits)
stored_shape b thread now m (Store addr word) Done seat runs commits stores =
    (commit_of b thread addr seat, record { thread = thread; now = now; m = m; addr = addr; word = word; seat = seat; entry_is = refl; runs = runs; commits = commits; is = refl }, refl)
stored_shape b thread now m (Store addr word) given seat runs commits stores = absurd (false≢true stores)
stored_shape b thread now m action given seat runs commits stores = absurd (false≢true stores)

act_shape : (b : Base) (thread now : ℕ) (m : Mark) (action : Action) (given : Answer) (o : Option Seat) → b.seats thread ≡ o → Shape b (entry.Act thread now m action given) (committing b thread m action given o)
unfolding Shape
act_shape b thread now m action given None is = inl refl
act_shape b thread now m action given (Some seat) is = by (is_commit m given && is_stored action given) refl
  where
    by : (both : Bool) → (is_commit m given && is_stored action given) ≡ both → Shape b (entry.Act thread now m action given) (cond both (commit_of b thread (address_of action) seat ∷ b.commits) b.commits)
    by false e = inl refl
    by true e = let parts = and_parts (is_commit m given) (is_stored action given) e in inr (stored_shape b thread now m action given seat is parts.0 parts.1)

pub commits_shape : (b : Base) (e : Entry) → Goes b.machine e → Shape b e (commits_after b e)
unfolding Shape
commits_shape b (entry.Act thread now m action given) fits = act_shape b thread now m action given (b.seats thread) refl
commits_shape b (entry.Crash choice) fits = absurd fits
commits_shape b e fits = inl refl

-- each change stood before, or comes about by the entry
pub commit_cases : (b : Base) (e : Entry) → Goes b.machine e → (c : Commit) → Contains (commits_after b e) c → Contains b.commits c ⊎ IsNew b e c
unfolding Shape
commit_cases b e fits c there = by (commits_shape b e fits)
  where
    by : Shape b e (commits_after b e) → Contains b.commits c ⊎ IsNew b e c
    by (inl same) = inl (subst (λ (cs : List Commit). Contains cs c) same there)
    by (inr (d, new, is)) = own (contains_cases d c b.commits (subst (λ (cs : List Commit). Contains cs c) is there))
      where
        own : (c ≡ d) ⊎ Contains b.commits c → Contains b.commits c ⊎ IsNew b e c
        own (inl at) = inr (subst (IsNew b e) (sym at) new)
        own (inr old) = inl old

pub commit_kept : (b : Base) (e : Entry) → Goes b.machine e → (c : Commit) → Contains b.commits c → Contains (commits_after b e) c
unfolding Shape
commit_kept b e fits c there = by (commits_shape b e fits)
  where
    by : Shape b e (commits_after b e) → Contains (commits_after b e) c
    by (inl same) = subst (λ (cs : List Commit). Contains cs c) (sym same) there
    by (inr (d, new, is)) = subst (λ (cs : List Commit). Contains cs c) (sym is) (contains_more d c b.commits there)

pub new_position : (b : Base) (e : Entry) (c : Commit) → IsNew b e c → c.position ≡ b.count
new_position b e c new = ap (λ (x : Commit). x.position) new.is

-- two that come about by one entry are one
pub new_same : (b : Base) (e : Entry) (c d : Commit) → IsNew b e c → IsNew b e d → c ≡ d
new_same b e c d one two = one.is ∙ both (sym one.entry_is ∙ two.entry_is) ∙ sym two.is
  where
    both : entry.Act one.thread one.now one.m (Store one.addr one.word) Done ≡ entry.Act two.thread two.now two.m (Store two.addr two.word) Done → commit_of b one.thread one.addr one.seat ≡ commit_of b two.thread two.addr two.seat
    both e =
        let thread : one.thread ≡ two.thread = cc in
        let addr : one.addr ≡ two.addr = cc in
        let seat : one.seat ≡ two.seat = some_seat one.seat two.seat (sym one.runs ∙ ap b.seats thread ∙ two.runs) in
        λ i. commit_of b (thread i) (addr i) (seat i)
      where
        some_seat : (s t : Seat) → Some s ≡ Some t → s ≡ t
        some_seat s t e = cc

-- Tidiness.

lose_alone : (path : List (List ℕ)) (s : Standing) → IsAlone (lose path (root_standing s) ∷ [])
lose_alone path s = by (same_names [] path)
  where
    by : (b : Bool) → IsAlone (cond b (root_standing (lost_standing s)) (root_standing s) ∷ [])
    by true = record { standing = lost_standing s; is = refl }
    by false = record { standing = s; is = refl }

pub losing_alone : (o : Option (List (List ℕ))) (table : List Row) → IsAlone table → IsAlone (losing o table)
losing_alone None table alone = alone
losing_alone (Some path) table alone = subst (λ (rows : List Row). IsAlone (losing (Some path) rows)) (sym alone.is) (lose_alone path alone.standing)

raised_alike : (b : Bool) (at : ℕ) (tops : ℕ → ℕ) (addr other : ℕ) → addr / 8 ≡ other / 8 → tops addr ≡ tops other → raised b at tops addr ≡ raised b at tops other
raised_alike true at tops addr other same e = (λ i. if same i == at / 8 then e i + 1 else e i)
raised_alike false at tops addr other same e = e

alike_after : (b : Base) (e : Entry) → Goes b.machine e → (addr other : ℕ) → addr / 8 ≡ other / 8 → b.tops addr ≡ b.tops other → tops_after b e addr ≡ tops_after b e other
alike_after b (entry.Act thread now m action given) fits addr other same is = raised_alike (is_change action given) (address_of action) b.tops addr other same is
alike_after b (entry.Stray thread at word given) fits addr other same is = raised_alike (is_done given) at b.tops addr other same is
alike_after b (entry.Crash choice) fits addr other same is = absurd fits
alike_after b e fits addr other same is = is

new_placed : (b : Base) (e : Entry) (c : Commit) → IsNew b e c → c.place ≤ tops_after b e c.addr
new_placed b e c new =
    let place : c.place ≡ b.tops new.addr + 1 = ap (λ (x : Commit). x.place) new.is in
    let at : c.addr ≡ new.addr = ap (λ (x : Commit). x.addr) new.is in
    let tops : tops_after b e c.addr ≡ tops_after b (entry.Act new.thread new.now new.m (Store new.addr new.word) Done) new.addr = (λ i. tops_after b (new.entry_is i) (at i)) in
    let more : tops_after b (entry.Act new.thread new.now new.m (Store new.addr new.word) Done) new.addr ≡ b.tops new.addr + 1 =
    ap (λ (t : Bool). cond t (b.tops new.addr + 1) (b.tops new.addr)) (eq-eqb (new.addr / 8) (new.addr / 8) refl) in
    omega (arith, place, tops, more)

some_position : (p q : ℕ) → Some p ≡ Some q → p ≡ q
some_position p q e = cc

none_position : {X : Type 0} (p : ℕ) → None ≡ Some p → X
none_position p e = absurd (let no' : ⊥ = cc in no')

-- a seat's commit lies before
SeatsBelow : ℕ → Option Seat → Type 0
SeatsBelow count o = (position : ℕ) (seat : Seat) → o ≡ Some seat → seat.committed ≡ Some position → position < count

called_below : (count : ℕ) (cred : Option Cred) (command : Command) → SeatsBelow count (seat_of cred command)
unfolding SeatsBelow
called_below count None command position seat e at = absurd (let isnt : ⊥ = cc in isnt)
called_below count (Some cred) command position seat e at =
    let none : None ≡ seat.committed = by (seat_of (Some cred) command) e refl in
    none_position position (none ∙ at)
  where
    by : (o : Option Seat) → o ≡ Some seat → o ≡ seat_of (Some cred) command → None ≡ seat.committed
    by (Some s) one two =
        let first : s ≡ seat = cc in
        let second : s ≡ Rattle.tr_replay.specs.Seats.new_seat cred command = cc in
        ap (λ (x : Seat). x.committed) (sym second ∙ first)
    by None one two = absurd (let isnt : ⊥ = cc in isnt)

committed_below : (count position : ℕ) (m : Mark) (given : Answer) (committed : Option ℕ) → (committed ≡ Some position → position < count) → committed_after count m given committed ≡ Some position → position < count + 1
committed_below count position m given (Some first) before e = let lt = before e in omega (arith, lt)
committed_below count position m given None before e = by (is_commit m given) e
  where
    by : (t : Bool) → cond t (Some count) None ≡ Some position → position < count + 1
    by true e = let is = some_position count position e in omega (arith, is)
    by false e = none_position position e

acted_below : (has : ℕ → Bool) (count thread now : ℕ) (m : Mark) (action : Action) (given : Answer) (o : Option Seat) → SeatsBelow count o → SeatsBelow (count + 1) (seated has count thread now m action given o)
unfolding SeatsBelow
acted_below has count thread now m action given None below position seat e at = absurd (let isnt : ⊥ = cc in isnt)
acted_below has count thread now m action given (Some old) below position seat e at =
    committed_below count position m given old.committed (λ is. below position old refl is) (ap (λ (x : Seat). x.committed) (some_seat (seat_after has count thread now m action given old) seat e) ∙ at)
  where
    some_seat : (s t : Seat) → Some s ≡ Some t → s ≡ t
    some_seat s t e = cc

more_below : (count : ℕ) (o : Option Seat) → SeatsBelow count o → SeatsBelow (count + 1) o
unfolding SeatsBelow
more_below count o below position seat e at = let lt = below position seat e at in omega (arith, lt)

none_below : (count : ℕ) → SeatsBelow count None
unfolding SeatsBelow
none_below count position seat e at = absurd (let isnt : ⊥ = cc in isnt)

put_below : (count : ℕ) (seats : ℕ → Option Seat) (thread : ℕ) (o : Option Seat) → ((t : ℕ) → SeatsBelow count (seats t)) → SeatsBelow count o → (t : ℕ) → SeatsBelow count (put seats thread o t)
put_below count seats thread o all one t = by (t == thread)
  where
    by : (b : Bool) → SeatsBelow count (cond b o (seats t))
    by true = one
    by false = all t

seats_below : (b : Base) (e : Entry) → ((t : ℕ) → SeatsBelow b.count (b.seats t)) → (t : ℕ) → SeatsBelow (b.count + 1) (seats_after b e t)
seats_below b (entry.Call thread command) all t =
    put_below (b.count + 1) b.seats thread (seat_of (cred_of b.machine.bus thread) command) (λ u. more_below b.count (b.seats u) (all u)) (called_below (b.count + 1) (cred_of b.machine.bus thread) command) t
seats_below b (entry.Act thread now m action given) all t =
    put_below (b.count + 1) b.seats thread (seated (has_lease b) b.count thread now m action given (b.seats thread)) (λ u. more_below b.count (b.seats u) (all u)) (acted_below (has_lease b) b.count thread now m action given (b.seats thread) (all thread)) t
seats_below b (entry.Reply thread reply) all t = put_below (b.count + 1) b.seats thread None (λ u. more_below b.count (b.seats u) (all u)) (none_below (b.count + 1)) t
seats_below b (entry.Crash choice) all t = none_below (b.count + 1)
seats_below b e all t = more_below b.count (b.seats t) (all t)

pub tidy_more : TidyMore
unfolding SeatsBelow
tidy_more b e tidy fits = record {
  alone = losing_alone (harmed b e) b.table tidy.alone;
  low = low_after b e tidy fits;
  alike = λ addr other same. alike_after b e fits addr other same (tidy.alike addr other same);
  placed = λ c there. placed c (commit_cases b e fits c there);
  before = λ c there. before c (commit_cases b e fits c there);
  different = λ c d one two same. different c d (commit_cases b e fits c one) (commit_cases b e fits d two) same;
  seats = λ thread position seat. seats_below b e (λ t position' seat'. tidy.seats t position' seat') thread position seat;
}
  where
    placed : (c : Commit) → Contains b.commits c ⊎ IsNew b e c → c.place ≤ tops_after b e c.addr
    placed c (inl old) = let was = tidy.placed c old in let rise = tops_rise b e fits c.addr in omega (arith, was, rise)
    placed c (inr new) = new_placed b e c new

    before : (c : Commit) → Contains b.commits c ⊎ IsNew b e c → c.position < b.count + 1
    before c (inl old) = let lt = tidy.before c old in omega (arith, lt)
    before c (inr new) = let is = new_position b e c new in omega (arith, is)

    different : (c d : Commit) → Contains b.commits c ⊎ IsNew b e c → Contains b.commits d ⊎ IsNew b e d → c.position ≡ d.position → c ≡ d
    different c d (inl one) (inl two) same = tidy.different c d one two same
    different c d (inl one) (inr two) same = let lt = tidy.before c one in let is = new_position b e d two in absurd (omega (arith, lt, is, same))
    different c d (inr one) (inl two) same = let lt = tidy.before d two in let is = new_position b e c one in absurd (omega (arith, lt, is, same))
    different c d (inr one) (inr two) same = new_same b e c d one two
