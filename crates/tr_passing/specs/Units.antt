-- What a crash may still drop, told by units. A unit is a directory of a coffer: the names directly in it. Of each unit the last
-- change is kept until its call has its reply, with what stood there before it. The world has no units: they are beside it, and only
-- laws speak of them.
use Rattle.bus_model.specs.Machine.{Machine, Fits}
use Rattle.std.specs.Prelude.{◌≡◌, ℕ, ◌<◌, ◌==◌, List, [], ◌∷◌, length, filter, drop, Contains, Bool, true, false, ◌&&◌, Option, Some, None, if◌then◌else◌, nat_le}
use Rattle.tr_types.specs.Paths.{names_of}
use Rattle.tr_types.specs.declared.action.Action.{Action}
use Rattle.tr_types.specs.declared.action.Answer.{Answer}
use Rattle.tr_types.specs.declared.command.Command.{Command}
use Rattle.tr_types.specs.declared.command.Command.TheVariants.{Create, Stat}
use Rattle.tr_types.specs.declared.entry.Entry.{Entry}
use Rattle.tr_types.specs.declared.entry.Entry.TheVariants as entry
use Rattle.tr_types.specs.declared.entry.Mark.{Mark}
use Rattle.zo_model.specs.Tree.{Member, Node, same_names, is_child}
use Rattle.zo_model.specs.Coffers.{lies_in, parent}
use Rattle.zo_model.specs.Seats.{is_commit}
use Rattle.tr_model.specs.Worlds.{Row, put}
use Rattle.tr_replay.specs.Seats.{Seat}
use Rattle.tr_replay.specs.Worlds.{Base, Commit, World, replay_of, floor, is_stored, address_of, commit_of, moves}

-- an entry that the machine allows, and that is no crash
abbrev pub Goes : Machine → Entry → Type 0
Goes m (entry.Crash choice) = ⊥
Goes m e = Fits m e

abbrev pub GoesOn : World → Entry → Type 0
GoesOn w e = Goes w.base.machine e

-- what stood at a path that a change has changed
pub record Undo : Type 0 where
  pub names : List (List ℕ)
  pub node : Option Node

-- The last change of a unit, what stood before it at the paths that it changed, and how many members the directory had.
pub record Last : Type 0 where
  pub commit : Commit
  pub undo : List Undo
  pub names : ℕ

pub record Units : Type 0 where
  -- the positions of the entries by which a change has moved the trees
  pub judged : ℕ → Bool
  -- by the birth of the coffer and the directory's names in it
  pub last : ℕ → List (List ℕ) → Option Last

abbrev pub no_units : Units
no_units = record { judged = λ _. false; last = λ _ _. None }

-- a crash may still drop the change
abbrev pub IsOpen : Base → Commit → Type 0
IsOpen b c = floor b c.addr < c.place

-- The row of the coffer of a path: of that with the longest path with which it begins.
abbrev pub deeper_row : Row → Option Row → Option Row
deeper_row row None = Some row
deeper_row row (Some other) = if nat_le (length other.path) (length row.path) then Some row else Some other

abbrev pub row_at : List Row → List (List ℕ) → Option Row
row_at [] names = None
row_at (row ∷ table) names = if lies_in names row.path then deeper_row row (row_at table names) else row_at table names

-- how many members stand directly in a directory
abbrev pub members_in : List Member → List (List ℕ) → ℕ
members_in tree names = length (filter (is_child names) tree)

-- the names from the coffer's root on
abbrev pub inside : Row → List (List ℕ) → List (List ℕ)
inside row names = drop (length row.path) names

-- by coffer and directory
abbrev pub Lasts : Type 0
Lasts = ℕ → List (List ℕ) → Option Last

abbrev pub put_last : Lasts → ℕ → List (List ℕ) → Last → Lasts
put_last lasts birth directory last b names = if (b == birth) && same_names directory names then Some last else lasts b names

-- the change makes a file of these names, where nothing stood
abbrev pub making : World → Commit → Row → List (List ℕ) → Last
making w c row names = record {
  commit = c;
  undo = record { names = inside row names; node = None } ∷ [];
  names = members_in ((replay_of w).trees row.birth) (inside row (parent names));
}

abbrev pub lasts_in : World → Commit → Option Row → List (List ℕ) → Lasts → Lasts
lasts_in w c None names lasts = lasts
lasts_in w c (Some row) names lasts = put_last lasts row.birth (inside row (parent names)) (making w c row names)

abbrev pub lasts_by : World → Commit → Command → Lasts → Lasts
lasts_by w c (Create path mode) lasts = lasts_in w c (row_at w.base.table (parent (names_of path))) (names_of path) lasts
lasts_by w c (Stat path) lasts = lasts

-- a store by which a change comes about and moves the trees
abbrev pub is_move : Base → Entry → Mark → Action → Answer → Seat → Bool
is_move b e mark action answer seat = is_commit mark answer && is_stored action answer && moves false b e seat

abbrev pub units_if : Bool → World → Commit → Command → Units → Units
units_if true w c command units = record { judged = put units.judged c.position true; last = lasts_by w c command units.last }
units_if false w c command units = units

abbrev pub units_by : World → Entry → ℕ → Mark → Action → Answer → Option Seat → Units → Units
units_by w e thread mark action answer None units = units
units_by w e thread mark action answer (Some seat) units =
    units_if (is_move w.base e mark action answer seat) w (commit_of w.base thread (address_of action) seat) seat.command units

-- at the reply of its call a change is the last of its unit no more
abbrev pub kept_last : ℕ → Option Last → Option Last
kept_last thread None = None
kept_last thread (Some last) = if last.commit.thread == thread then None else Some last

-- the units after an entry at a world
abbrev pub units_after : World → Entry → Units → Units
units_after w (entry.Act thread now mark action answer) units = units_by w (entry.Act thread now mark action answer) thread mark action answer (w.base.seats thread) units
units_after w (entry.Reply thread given) units = record { judged = units.judged; last = λ birth names. kept_last thread (units.last birth names) }
units_after w (entry.Crash choice) units = record { judged = units.judged; last = λ _ _. None }
units_after w e units = units

-- the change at a position is the last of its unit, and open
pub record IsAtRisk (w : World) (units : Units) (position : ℕ) : Type 0 where
  pub birth : ℕ
  pub names : List (List ℕ)
  pub last : Last
  pub is : units.last birth names ≡ Some last
  pub position_is : last.commit.position ≡ position
  pub among : Contains w.base.commits last.commit
  pub is_open : IsOpen w.base last.commit

-- What a crash may drop now, of the changes that moved the trees. Positions that did not are free, and so are those still to come.
abbrev pub Allowed : (ℕ → Bool) → World → Units → Type 0
Allowed drops w units = (position : ℕ) → position < w.base.count → units.judged position ≡ true → drops position ≡ true → IsAtRisk w units position

-- What is left of a node, and of how many members a directory has, where these changes are dropped.

abbrev pub undone : List Undo → List (List ℕ) → Option Node → Option Node
undone [] names node = node
undone (u ∷ undo) names node = if same_names u.names names then u.node else undone undo names node

abbrev pub node_by : (ℕ → Bool) → Option Last → List (List ℕ) → Option Node → Option Node
node_by drops None names node = node
node_by drops (Some last) names node = if drops last.commit.position then undone last.undo names node else node

abbrev pub node_left : (ℕ → Bool) → Units → ℕ → List (List ℕ) → Option Node → Option Node
node_left drops units birth names node = node_by drops (units.last birth (parent names)) names node

abbrev pub count_by : (ℕ → Bool) → Option Last → ℕ → ℕ
count_by drops None count = count
count_by drops (Some last) count = if drops last.commit.position then last.names else count

abbrev pub count_left : (ℕ → Bool) → Units → ℕ → List (List ℕ) → ℕ → ℕ
count_left drops units birth names count = count_by drops (units.last birth names) count
