-- One state for a whole trace, in two halves. The one half no lost change alters: the machine, what each thread's call
-- has done, and which coffers there are. The other has what users see: the trees, and what is settled of each call's reply
-- since its point. An entry moves the state by a total function (`stepped`).
use Rattle.std.specs.Prelude.{◌≡◌, ℕ, ◌+◌, ◌/◌, List, [], ◌∷◌, map, Contains, Bool, true, Option, Some, None, if◌then◌else◌, ◌==◌}
use Rattle.std.specs.List.{IsDistinct}
use Rattle.pm_words.specs.Word.{Word}
use Rattle.zo_layout.specs.Layout.{page_at, pool_head, kernel_pages}
use Rattle.kern_model.specs.KernelView.{value, pages_of}
use Rattle.kern_model.specs.Kernel.{kernel_owner, coffer_pages, coffers}
use Rattle.kern_model.specs.KernelTables.{Coffer as KernelCoffer}
use Rattle.bus_model.specs.Machine.{Machine, Bus, opened, moved, Fits}
use Rattle.tr_types.specs.Paths.{names_of}
use Rattle.tr_types.specs.declared.action.Action.{Action}
use Rattle.tr_types.specs.declared.action.Action.TheVariants.{Kernel}
use Rattle.tr_types.specs.declared.action.Answer.{Answer}
use Rattle.tr_types.specs.declared.action.Answer.TheVariants.{Done}
use Rattle.tr_types.specs.declared.command.Command.{Command}
use Rattle.tr_types.specs.declared.command.Reply.{Reply}
use Rattle.tr_types.specs.declared.entry.Entry.{Entry}
use Rattle.tr_types.specs.declared.entry.Entry.TheVariants as entry
use Rattle.tr_types.specs.declared.entry.Mark.{Mark}
use Rattle.tr_types.specs.declared.entry.Mark.TheVariants.{Commit}
use Rattle.tr_types.specs.declared.kernel_call.Kcall.TheVariants.{Find, Map, Unmap, Enlarge}
use Rattle.tr_types.specs.declared.permission.Cred.{Cred}
use Rattle.tr_types.specs.declared.permission.Perm.{Perm}
use Rattle.zo_model.specs.Tree.{Member, new_tree, same_names}
use Rattle.zo_model.specs.Alone.{root_perm}
use Rattle.zo_model.specs.CofferWords.{CofferAt, Denotes}
use Rattle.zo_model.specs.Coffers.{Content, Ready, Lost, Quarantined, Coffer, names_below}
use Rattle.zo_model.specs.Answers.{Answered, answer}
use Rattle.zo_model.specs.Seats.{Seat, new_seat, seat_after, is_commit}
use Rattle.zo_model.specs.Legal.{Verdict, NoPoint, IsJudged, MayCommit, MayReply, verdict_after}
use Rattle.zo_model.specs.Discipline.{Keeps}

-- how a coffer stands
pub data Standing : Type 0 where
  IsReady : Standing
  IsLost : Standing
  IsQuarantined : Standing

-- A coffer of the table. `birth` tells coffers apart for good, as a path or a number can come back: the position of the
-- entry that made it, plus 1; the root coffer of the opening has 0.
pub record Row : Type 0 where
  pub birth : ℕ
  pub path : List (List ℕ)
  pub perm : Perm
  pub standing : Standing

pub record Base : Type 0 where
  pub machine : Machine
  -- the running call of each thread
  pub seats : ℕ → Option Seat
  pub table : List Row
  -- how many entries there were
  pub count : ℕ

pub record World : Type 0 where
  pub base : Base
  -- the tree of each coffer, by its birth
  pub trees : ℕ → List Member
  pub verdicts : ℕ → Verdict

-- the root coffer of a new image
abbrev pub root_row : Row
root_row = record { birth = 0; path = []; perm = root_perm; standing = IsReady }

-- the world as it opens over a new image
abbrev pub world_of : List ℕ → World
world_of image = record {
  base = record { machine = opened image; seats = λ _. None; table = root_row ∷ []; count = 0 };
  trees = λ _. new_tree;
  verdicts = λ _. NoPoint;
}

-- the coffers with what they hold

abbrev pub content_of : Standing → List Member → Content
content_of IsReady tree = Ready tree
content_of IsLost tree = Lost
content_of IsQuarantined tree = Quarantined

abbrev pub coffer_of_row : (ℕ → List Member) → Row → Coffer
coffer_of_row trees row = record { path = row.path; perm = row.perm; content = content_of row.standing (trees row.birth) }

abbrev pub coffers_of : List Row → (ℕ → List Member) → List Coffer
coffers_of table trees = map (coffer_of_row trees) table

-- what a command of a seat is answered here
abbrev pub answered : List Row → (ℕ → List Member) → Seat → Option Answered
answered table trees seat = answer (coffers_of table trees) seat.cred seat.command

-- After a commit each coffer has the tree that the answer gives it.

abbrev pub tree_or : Content → List Member → List Member
tree_or (Ready tree) old = tree
tree_or content old = old

abbrev pub tree_in : List Coffer → List (List ℕ) → List Member → List Member
tree_in [] path old = old
tree_in (coffer ∷ coffers) path old = if same_names coffer.path path then tree_or coffer.content old else tree_in coffers path old

abbrev pub tree_by : List Row → List Coffer → ℕ → List Member → List Member
tree_by [] coffers birth old = old
tree_by (row ∷ table) coffers birth old = if row.birth == birth then tree_in coffers row.path old else tree_by table coffers birth old

abbrev pub trees_after : List Row → (ℕ → List Member) → Option Answered → ℕ → List Member
trees_after table trees None birth = trees birth
trees_after table trees (Some a) birth = tree_by table a.coffers birth (trees birth)

abbrev pub put : {X : Type 0} → (ℕ → X) → ℕ → X → ℕ → X
put at thread x t = if t == thread then x else at t

-- the trees and what is settled of the reply after an action of a thread with this seat
abbrev pub moved_trees : Bool → List Row → (ℕ → List Member) → Option Seat → ℕ → List Member
moved_trees true table trees (Some seat) = trees_after table trees (answered table trees seat)
moved_trees commits table trees seat = trees

abbrev pub moved_verdict : Mark → Answer → List Coffer → Option Seat → Verdict → Verdict
moved_verdict mark answer coffers None old = old
moved_verdict mark answer coffers (Some seat) old = verdict_after mark answer coffers seat old

-- the head of the pool from which calls draw, in the root coffer
abbrev pub pool_of : List Word → ℕ
pool_of words = pool_head (page_at (kernel_pages (pages_of words))) 0

abbrev pub seated : ℕ → Mark → Action → Answer → Option Seat → Option Seat
seated pool mark action answer None = None
seated pool mark action answer (Some seat) = Some (seat_after pool mark action answer seat)

-- the process of a thread has these credentials
abbrev pub seat_of : Option Cred → Command → Option Seat
seat_of None command = None
seat_of (Some cred) command = Some (new_seat cred command)

-- A stray store that is done makes the coffer lost to which its page belongs.

abbrev pub path_of_id : List KernelCoffer → ℕ → Option (List (List ℕ))
path_of_id [] id = None
path_of_id (c ∷ cs) id = if c.id == id then Some (names_of c.path) else path_of_id cs id

abbrev pub lost_standing : Standing → Standing
lost_standing IsQuarantined = IsQuarantined
lost_standing standing = IsLost

abbrev pub lose : List (List ℕ) → Row → Row
lose path row = if same_names row.path path then record { birth = row.birth; path = row.path; perm = row.perm; standing = lost_standing row.standing } else row

abbrev pub losing : Option (List (List ℕ)) → List Row → List Row
losing None table = table
losing (Some path) table = map (lose path) table

abbrev pub lost_after : List Word → ℕ → Answer → List Row → List Row
lost_after words addr Done table = losing (path_of_id (coffers words) (kernel_owner words (addr / 4096))) table
lost_after words addr answer table = table

-- the credentials of a thread's process
abbrev pub cred_in : List (ℕ × Cred) → ℕ → Option Cred
cred_in [] process = None
cred_in ((p, cred) ∷ processes) process = if p == process then Some cred else cred_in processes process

abbrev pub cred_at : List (ℕ × Cred) → List (ℕ × ℕ) → ℕ → Option Cred
cred_at processes [] thread = None
cred_at processes ((t, process) ∷ threads) thread = if t == thread then cred_in processes process else cred_at processes threads thread

abbrev pub cred_of : Bus → ℕ → Option Cred
cred_of bus thread = cred_at bus.processes bus.threads thread

-- the half that no lost change alters, after an entry
abbrev pub base_after : Base → Entry → Base
base_after b (entry.Call thread command) = record {
  machine = moved b.machine (entry.Call thread command);
  seats = put b.seats thread (seat_of (cred_of b.machine.bus thread) command);
  table = b.table;
  count = b.count + 1;
}
base_after b (entry.Act thread now mark action answer) = record {
  machine = moved b.machine (entry.Act thread now mark action answer);
  seats = put b.seats thread (seated (pool_of b.machine.bus.words) mark action answer (b.seats thread));
  table = b.table;
  count = b.count + 1;
}
base_after b (entry.Reply thread reply) = record {
  machine = moved b.machine (entry.Reply thread reply);
  seats = put b.seats thread None;
  table = b.table;
  count = b.count + 1;
}
base_after b (entry.Stray thread addr word answer) = record {
  machine = moved b.machine (entry.Stray thread addr word answer);
  seats = b.seats;
  table = lost_after b.machine.bus.words addr answer b.table;
  count = b.count + 1;
}
base_after b e = record { machine = moved b.machine e; seats = b.seats; table = b.table; count = b.count + 1 }

abbrev pub trees_of : World → Entry → ℕ → List Member
trees_of w (entry.Act thread now mark action answer) = moved_trees (is_commit mark answer) w.base.table w.trees (w.base.seats thread)
trees_of w e = w.trees

abbrev pub verdicts_of : World → Entry → ℕ → Verdict
verdicts_of w (entry.Call thread command) = put w.verdicts thread NoPoint
verdicts_of w (entry.Act thread now mark action answer) = put w.verdicts thread (moved_verdict mark answer (coffers_of w.base.table w.trees) (w.base.seats thread) (w.verdicts thread))
verdicts_of w e = w.verdicts

-- the world after an entry
abbrev pub stepped : World → Entry → World
stepped w e = record { base = base_after w.base e; trees = trees_of w e; verdicts = verdicts_of w e }

-- the machine allows the entry
abbrev pub MayCome : World → Entry → Type 0
MayCome w e = Fits w.base.machine e

-- A thread acts and replies only within its call, and begins one only where none of it runs. This holds whatever is lost.

abbrev pub IsSeat : Option Seat → Type 0
IsSeat None = ⊥
IsSeat (Some seat) = Unit {0}

abbrev pub IsInCall : World → Entry → Type 0
IsInCall w (entry.Call thread command) = w.base.seats thread ≡ None
IsInCall w (entry.Act thread now mark action answer) = IsSeat (w.base.seats thread)
IsInCall w (entry.Reply thread reply) = IsSeat (w.base.seats thread)
IsInCall w e = Unit {0}

-- the coffers as they stand
abbrev pub coffers_at : World → List Coffer
coffers_at w = coffers_of w.base.table w.trees

-- legality of a commit and of a reply, of a thread with this seat
abbrev pub IsLegalCommit : World → Action → Bool → Option Seat → Type 0
IsLegalCommit w action true (Some seat) = IsJudged (coffers_at w) seat → MayCommit (coffers_at w) seat action
IsLegalCommit w action commits seat = Unit {0}

abbrev pub IsLegalReply : World → Option Seat → Verdict → Reply → Type 0
IsLegalReply w None verdict reply = Unit {0}
IsLegalReply w (Some seat) verdict reply = MayReply (coffers_at w) seat verdict reply

-- The kernel calls that our commands give, however the kernel answers. A trace has no other: those that make or end coffers,
-- change their permission, or take pages from them come with the commands that give them.
abbrev pub IsKnownCall : Action → Type 0
IsKnownCall (Kernel (Find path also)) = Unit {0}
IsKnownCall (Kernel (Map path right exclusive)) = Unit {0}
IsKnownCall (Kernel (Unmap id)) = Unit {0}
IsKnownCall (Kernel (Enlarge id count)) = Unit {0}
IsKnownCall (Kernel call) = ⊥
IsKnownCall action = Unit {0}

-- the entry is legal in this world
abbrev pub IsLegal : World → Entry → Type 0
IsLegal w (entry.Act thread now mark action answer) = IsKnownCall action × IsLegalCommit w action (is_commit mark answer) (w.base.seats thread)
IsLegal w (entry.Reply thread reply) = IsLegalReply w (w.base.seats thread) (w.verdicts thread) reply
IsLegal w e = Unit {0}

-- no commit is refused
abbrev pub IsCommitDone : Mark → Answer → Type 0
IsCommitDone Commit answer = is_commit Commit answer ≡ true
IsCommitDone mark answer = Unit {0}

-- our calls keep their discipline, where they are judged
abbrev pub KeepsAt : World → Mark → Action → Answer → Option Seat → Type 0
KeepsAt w mark action answer None = Unit {0}
KeepsAt w mark action answer (Some seat) =
    IsJudged (coffers_at w) seat → Keeps (page_at (kernel_pages (pages_of w.base.machine.bus.words))) (coffers_at w) seat action × IsCommitDone mark answer

abbrev pub IsDisciplined : World → Entry → Type 0
IsDisciplined w (entry.Act thread now mark action answer) = KeepsAt w mark action answer (w.base.seats thread)
IsDisciplined w e = Unit {0}

-- The coffer of a row as the kernel's tables give it, with the names of the coffers directly below it.

abbrev pub coffer_at : List Word → List Row → Row → KernelCoffer → CofferAt
coffer_at words table row c = record {
  control = c.control;
  root = c.root;
  pages = coffer_pages words c.id;
  path = row.path;
  below = names_below (map (λ r. r.path) table) row.path;
}

-- Each coffer that is ready is the kernel's, and its words denote its tree.
pub record HasWords (words : List Word) (table : List Row) (row : Row) (tree : List Member) : Type 0 where
  pub coffer : KernelCoffer
  pub among : Contains (coffers words) coffer
  pub path_is : names_of coffer.path ≡ row.path
  pub perm_is : coffer.perm ≡ row.perm
  pub denotes : Denotes (value words) (coffer_at words table row coffer) tree

-- how the kernel's tables give the standing of a coffer: 1 where it stands, 2 where it is quarantined
abbrev pub state_of : Standing → ℕ
state_of IsReady = 1
state_of IsLost = 1
state_of IsQuarantined = 2

-- a row and a coffer of the kernel's tables are of the same coffer
pub record IsRowOf (row : Row) (coffer : KernelCoffer) : Type 0 where
  pub path_is : names_of coffer.path ≡ row.path
  pub perm_is : coffer.perm ≡ row.perm
  pub state_is : coffer.state ≡ state_of row.standing

-- The table has just the kernel's coffers, each once.
pub record IsTabled (words : List Word) (table : List Row) : Type 0 where
  pub rows : (row : Row) → Contains table row → (coffer : KernelCoffer) × Contains (coffers words) coffer × IsRowOf row coffer
  pub coffers_are : (coffer : KernelCoffer) → Contains (coffers words) coffer → (row : Row) × Contains table row × IsRowOf row coffer
  pub rows_once : IsDistinct same_names (map (λ r. r.path) table)
  pub coffers_once : IsDistinct same_names (map (λ c. names_of c.path) (coffers words))

-- The table is the kernel's, and the words of each coffer that is ready denote its tree.
pub record IsDenoted (w : World) : Type 0 where
  pub tabled : IsTabled w.base.machine.bus.words w.base.table
  pub ready : (row : Row) → Contains w.base.table row → row.standing ≡ IsReady → HasWords w.base.machine.bus.words w.base.table row (w.trees row.birth)
