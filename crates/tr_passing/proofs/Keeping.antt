-- How the units stand to the world, after any entry; and what a crash may drop.
use Rattle.std.proofs.Common.{◌≡◌, ℕ, ◌<◌, ◌==◌, Bool, true, false, cond, ◌&&◌, List, [], ◌∷◌, nat_lt, refl, sym, ap, subst, ◌∙◌, inl, inr, ◌⊎◌, arith, Contains, Option, Some, None}
use Rattle.std.specs.List.{list_any}
use Rattle.std.proofs.lemmas.Bool.{eqb-true, ltb-true, or_cases, false≢true}
use Rattle.tr_types.specs.Paths.{names_of}
use Rattle.tr_types.specs.declared.entry.Entry.{Entry}
use Rattle.tr_types.specs.declared.entry.Entry.TheVariants as entry
use Rattle.tr_types.specs.declared.action.Action.{Action}
use Rattle.tr_types.specs.declared.action.Answer.{Answer}
use Rattle.tr_types.specs.declared.command.Command.{Command}
use Rattle.tr_types.specs.declared.command.Command.TheVariants.{Create, Stat}
use Rattle.tr_types.specs.declared.entry.Mark.{Mark}
use Rattle.zo_model.specs.Tree.{same_names}
use Rattle.zo_model.specs.Coffers.{parent}
use Rattle.tr_model.specs.Worlds.{Row}
use Rattle.tr_replay.specs.Seats.{Seat}
use Rattle.tr_replay.specs.Worlds.{Commit, World, base_after, stepped, floor, is_dropped, address_of, commit_of}
use Rattle.tr_passing.specs.Units.{Last, Units, Lasts, IsOpen, IsAtRisk, Allowed, put_last, making, lasts_in, lasts_by, row_at, is_move, units_if, units_by, units_after, kept_last, GoesOn}
use Rattle.tr_passing.specs.Laws.{IsTidy, AllowedBefore, DroppedAllowed}
use Rattle.tr_passing.proofs.Rising.{floor_rises}
use Rattle.tr_passing.proofs.Orders.{IsNew, put_same, put_other, put_cases, commit_cases, commit_kept, new_position}

some_last : (a b : Last) → Some a ≡ Some b → a ≡ b
some_last a b e = cc

-- what was the last of a unit, or comes about by the entry
LastFrom : World → Units → ℕ → List (List ℕ) → Last → Type 0
LastFrom w units birth names last = (units.last birth names ≡ Some last) ⊎ (last.commit.position ≡ w.base.count)

pub kept_from : (thread : ℕ) (o : Option Last) (last : Last) → kept_last thread o ≡ Some last → o ≡ Some last
kept_from thread None last e = e
kept_from thread (Some old) last e = by (old.commit.thread == thread) e
  where
    by : (b : Bool) → cond b None (Some old) ≡ Some last → Some old ≡ Some last
    by true e = absurd (let isnt : ⊥ = cc in isnt)
    by false e = e

put_from : (w : World) (units : Units) (lasts : Lasts) (birth b : ℕ) (directory names : List (List ℕ)) (new last : Last) → new.commit.position ≡ w.base.count → (lasts ≡ units.last) → put_last lasts birth directory new b names ≡ Some last → LastFrom w units b names last
unfolding LastFrom
put_from w units lasts birth b directory names new last position same e = by ((b == birth) && same_names directory names) e
  where
    by : (t : Bool) → cond t (Some new) (lasts b names) ≡ Some last → LastFrom w units b names last
    by true e = inr (ap (λ (l : Last). l.commit.position) (sym (some_last new last e)) ∙ position)
    by false e = inl (ap (λ (l : Lasts). l b names) (sym same) ∙ e)

by_from : (w : World) (units : Units) (c : Commit) (command : Command) (b : ℕ) (names : List (List ℕ)) (last : Last) → c.position ≡ w.base.count → lasts_by w c command units.last b names ≡ Some last → LastFrom w units b names last
unfolding LastFrom
by_from w units c (Stat path) b names last position e = inl e
by_from w units c (Create path mode) b names last position e = by (row_at w.base.table (parent (names_of path))) e
  where
    by : (o : Option Row) → lasts_in w c o (names_of path) units.last b names ≡ Some last → LastFrom w units b names last
    by None e = inl e
    by (Some row) e =
        put_from w units units.last row.birth b (Rattle.tr_passing.specs.Units.inside row (parent (names_of path))) names (making w c row (names_of path)) last position refl e

act_from : (w : World) (units : Units) (thread now : ℕ) (m : Mark) (action : Action) (given : Answer) (o : Option Seat) (b : ℕ) (names : List (List ℕ)) (last : Last)
    → (units_by w (entry.Act thread now m action given) thread m action given o units).last b names ≡ Some last → LastFrom w units b names last
unfolding LastFrom
act_from w units thread now m action given None b names last e = inl e
act_from w units thread now m action given (Some seat) b names last e = by (is_move w.base (entry.Act thread now m action given) m action given seat) e
  where
    by : (t : Bool) → (units_if t w (commit_of w.base thread (address_of action) seat) seat.command units).last b names ≡ Some last → LastFrom w units b names last
    by true e = by_from w units (commit_of w.base thread (address_of action) seat) seat.command b names last refl e
    by false e = inl e

last_from : (w : World) (e : Entry) (units : Units) (b : ℕ) (names : List (List ℕ)) (last : Last) → (units_after w e units).last b names ≡ Some last → LastFrom w units b names last
unfolding LastFrom
last_from w (entry.Act thread now m action given) units b names last e = act_from w units thread now m action given (w.base.seats thread) b names last e
last_from w (entry.Reply thread given) units b names last e = inl (kept_from thread (units.last b names) last e)
last_from w (entry.Crash choice) units b names last e = absurd (let isnt : ⊥ = cc in isnt)
last_from w e units b names last is = inl is

if_judged : (t : Bool) (w : World) (c : Commit) (command : Command) (units : Units) (i : ℕ) → units.judged i ≡ true → (units_if t w c command units).judged i ≡ true
if_judged true w c command units i is = by (i == c.position)
  where
    by : (t : Bool) → cond t true (units.judged i) ≡ true
    by true = refl
    by false = is
if_judged false w c command units i is = is

act_judged : (w : World) (units : Units) (thread now : ℕ) (m : Mark) (action : Action) (given : Answer) (o : Option Seat) (i : ℕ) → units.judged i ≡ true
    → (units_by w (entry.Act thread now m action given) thread m action given o units).judged i ≡ true
act_judged w units thread now m action given None i is = is
act_judged w units thread now m action given (Some seat) i is = if_judged (is_move w.base (entry.Act thread now m action given) m action given seat) w (commit_of w.base thread (address_of action) seat) seat.command units i is

pub judged_more : (w : World) (e : Entry) (units : Units) (i : ℕ) → units.judged i ≡ true → (units_after w e units).judged i ≡ true
judged_more w (entry.Act thread now m action given) units i is = act_judged w units thread now m action given (w.base.seats thread) i is
judged_more w (entry.Reply thread given) units i is = is
judged_more w (entry.Crash choice) units i is = is
judged_more w e units i is = is

pub open_before : (w : World) (e : Entry) → IsTidy w.base → GoesOn w e → (c : Commit) → IsOpen (base_after w.base e) c → IsOpen w.base c
open_before w e tidy comes c open' = let rise = floor_rises w.base e tidy comes c.addr in omega (arith, rise, open')

pub allowed_before : AllowedBefore
unfolding LastFrom
allowed_before drops w units e tidy ordered comes allowed i lt judged drop =
    let risk = allowed i (omega (arith, lt)) (judged_more w e units i judged) drop in
    by risk (last_from w e units risk.birth risk.names risk.last risk.is)
  where
    by : (risk : IsAtRisk (stepped w e) (units_after w e units) i) → LastFrom w units risk.birth risk.names risk.last → IsAtRisk w units i
    by risk (inl old) = record {
      birth = risk.birth;
      names = risk.names;
      last = risk.last;
      is = old;
      position_is = risk.position_is;
      among = ordered.among risk.birth risk.names risk.last old;
      is_open = open_before w e tidy comes risk.last.commit risk.is_open;
    }
    by risk (inr new) = let at = risk.position_is in absurd (omega (arith, lt, new, at))

-- What a crash drops.

pub any_dropped : (places : ℕ → ℕ) (i : ℕ) (commits : List Commit) → list_any (is_dropped places i) commits ≡ true → (c : Commit) × Contains commits c × (c.position ≡ i) × (places c.addr < c.place)
any_dropped places i [] e = absurd (false≢true e)
any_dropped places i (c ∷ commits) e = by (or_cases (is_dropped places i c) (list_any (is_dropped places i) commits) e) (any_dropped places i commits)
  where
    own : (a b : Bool) → (a && b) ≡ true → (a ≡ true) × (b ≡ true)
    own true b e = (refl, e)
    own false b e = absurd (false≢true e)

    by : (is_dropped places i c ≡ true) ⊎ (list_any (is_dropped places i) commits ≡ true) → (list_any (is_dropped places i) commits ≡ true → (d : Commit) × Contains commits d × (d.position ≡ i) × (places d.addr < d.place)) → (d : Commit) × Contains (c ∷ commits) d × (d.position ≡ i) × (places d.addr < d.place)
    by (inl here) later = let parts = own (c.position == i) (nat_lt (places c.addr) c.place) here in (c, Rattle.tr_passing.proofs.Orders.contains_first c commits, eqb-true c.position i parts.0, ltb-true (places c.addr) c.place parts.1)
    by (inr more) later = let rest = later more in (rest.0, Rattle.tr_passing.proofs.Orders.contains_more c rest.0 commits rest.1, rest.2, rest.3)

pub dropped_allowed : DroppedAllowed
dropped_allowed w units places image ordered left i lt judged drop =
    let found = any_dropped places i w.base.commits drop in
    by found.0 found.1 found.2 found.3
  where
    by : (c : Commit) → Contains w.base.commits c → c.position ≡ i → places c.addr < c.place → IsAtRisk w units i
    by c there at less =
        let low = left.low c.addr in
        let unit = ordered.covered c there (ap units.judged at ∙ judged) (omega (arith, low, less)) in
        record {
          birth = unit.birth;
          names = unit.names;
          last = unit.last;
          is = unit.is;
          position_is = ap (λ (x : Commit). x.position) unit.commit_is ∙ at;
          among = subst (Contains w.base.commits) (sym unit.commit_is) there;
          is_open = subst (IsOpen w.base) (sym unit.commit_is) (let o : floor w.base c.addr < c.place = omega (arith, low, less) in o);
        }
