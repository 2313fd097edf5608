-- One state for a whole trace, in two halves. The one half no crash takes back: the machine, what each thread's call has done,
-- which coffers there are, and by which stores changes came about. The other is what users see: the trees, and what is settled of
-- each call's reply. A crash may drop changes whose stores are not durable, so there is one such replay for each set of
-- dropped changes. An entry moves the state by a total function (`stepped`).
use Rattle.std.specs.Prelude.{ℕ, ◌+◌, ◌-◌, ◌/◌, ◌%◌, List, [], ◌∷◌, ◌++◌, length, map, filter, Bool, true, false, not, Option, Some, None, if◌then◌else◌, ◌==◌, ◌&&◌, ◌||◌, nat_lt}
use Rattle.std.specs.List.{list_any, range_with_len}
use Rattle.std.specs.Int.{w64, to_le_bytes}
use Rattle.pm_words.specs.Word.{Word}
use Rattle.pm_words.specs.Memory.{word_at}
use Rattle.pm_words.specs.Hash.{fnv64_of}
use Rattle.zo_layout.specs.Layout.{page_at, control_lease, pool_lease, dir_lease, dir_at, dir_counter, root_page}
use Rattle.kern_model.specs.KernelView.{value}
use Rattle.kern_model.specs.Kernel.{kernel_owner, coffers}
use Rattle.kern_model.specs.KernelTables.{Coffer as KernelCoffer}
use Rattle.bus_model.specs.Machine.{Machine, opened, moved}
use Rattle.tr_types.specs.Fold.{state_after}
use Rattle.tr_types.specs.Permission.{no_groups}
use Rattle.tr_types.specs.declared.action.Action.{Action}
use Rattle.tr_types.specs.declared.action.Action.TheVariants.{Load, Store, Cas}
use Rattle.tr_types.specs.declared.action.Answer.{Answer}
use Rattle.tr_types.specs.declared.action.Answer.TheVariants.{Word as WordIs, Done}
use Rattle.tr_types.specs.declared.command.Command.{Command}
use Rattle.tr_types.specs.declared.entry.Entry.{Entry}
use Rattle.tr_types.specs.declared.entry.Entry.TheVariants as entry
use Rattle.tr_types.specs.declared.entry.Mark.{Mark}
use Rattle.tr_types.specs.declared.entry.Mark.TheVariants.{Plain}
use Rattle.tr_types.specs.declared.entry.Pick.{Pick}
use Rattle.tr_types.specs.declared.entry.Pick.TheVariants as pick
use Rattle.tr_types.specs.declared.permission.Cred.{Cred}
use Rattle.zo_model.specs.Tree.{Member, new_tree, same_names}
use Rattle.zo_model.specs.Coffers.{Coffer}
use Rattle.zo_model.specs.Answers.{Answered, answer, consulted}
use Rattle.zo_model.specs.Legal.{NoPoint, is_lost}
use Rattle.zo_model.specs.Seats.{Lease, is_commit}
use Rattle.tr_model.specs.Worlds.{Standing, IsReady, Row, root_row, coffers_of, trees_after, path_of_id, losing, cred_of, put}
use Rattle.tr_replay.specs.Seats.{Seat, new_seat, seat_after, is_late}
use Rattle.tr_replay.specs.Verdicts.{Settled, NotLooked, settled_at_call, settled_after, still_barred}

-- A store by which a change came about: the position of its entry, its thread, its address and the place of its word in that
-- word's history, and the leases that the call held.
pub record Commit : Type 0 where
  pub position : ℕ
  pub thread : ℕ
  pub addr : ℕ
  pub place : ℕ
  pub held : List Lease

pub record Base : Type 0 where
  pub machine : Machine
  -- the running call of each thread
  pub seats : ℕ → Option Seat
  pub table : List Row
  -- the pages that have the lease of a directory
  pub leased : ℕ → Bool
  -- the place of each word's present value in the word's history, which begins at 0; by any address in the word
  pub tops : ℕ → ℕ
  -- those since the last crash, the last one first
  pub commits : List Commit
  -- the coffers lost by the last event whose notes are still to come
  pub owed : List (List (List ℕ))
  -- how many entries there were
  pub count : ℕ

-- what users see
pub record Replay : Type 0 where
  -- the tree of each coffer, by its birth
  pub trees : ℕ → List Member
  -- what is settled of the reply of each thread's call
  pub settled : ℕ → Settled

pub record World : Type 0 where
  pub base : Base
  -- for each set of positions: what users would see, had the changes at these positions not come about
  pub replays : (ℕ → Bool) → Replay

-- no change is dropped
abbrev pub never : ℕ → Bool
never position = false

-- what users see
abbrev pub replay_of : World → Replay
replay_of w = w.replays never

-- where no call runs nothing is settled
abbrev pub idle : Settled
idle = record { begun = NoPoint; refused = NoPoint; pointed = NoPoint; committed = NoPoint; looked = NotLooked; short = NotLooked; barred = false }

abbrev pub cred_or : Option Cred → Cred
cred_or None = record { uid = 0; gid = 0; groups = no_groups }
cred_or (Some cred) = cred

-- the world as it opens over a new image
abbrev pub world_of : List ℕ → World
world_of image = record {
  base = record {
    machine = opened image;
    seats = λ _. None;
    table = root_row ∷ [];
    leased = λ page. page == root_page (length image / 512);
    tops = λ _. 0;
    commits = [];
    owed = [];
    count = 0;
  };
  replays = λ _. record { trees = λ _. new_tree; settled = λ _. idle };
}

-- The word at an address is that of a lease: of a control page or one of its pools, or of a directory.
abbrev pub is_lease_at : ℕ → ℕ → Bool
is_lease_at control addr = (control_lease (page_at control) == addr) || list_any (λ pool. pool_lease (page_at control) pool == addr) (range_with_len 0 8)

abbrev pub is_lease : Base → ℕ → Bool
is_lease b addr =
    (b.leased (addr / 4096) && (dir_lease (page_at (addr / 4096)) == addr)) || list_any (λ (c : KernelCoffer). is_lease_at c.control addr) (coffers b.machine.bus.words)

-- the pages that have a lease: of directories, and control pages
abbrev pub is_control : Base → ℕ → Bool
is_control b page = list_any (λ (c : KernelCoffer). c.control == page) (coffers b.machine.bus.words)

abbrev pub has_lease : Base → ℕ → Bool
has_lease b page = b.leased page || is_control b page

-- A load of the tree: of no word of a control page, and none of a directory's lease, note or counter. A look at these is none, and
-- neither is a check.

abbrev pub is_beside : ℕ → ℕ → Bool
is_beside dir addr = (dir_lease dir == addr) || (dir_at dir == addr) || (dir_counter dir == addr)

abbrev pub is_of_tree : Base → ℕ → Bool
is_of_tree b addr = not (is_control b (addr / 4096)) && not (b.leased (addr / 4096) && is_beside (page_at (addr / 4096)) addr)

abbrev pub tells_tree : Base → Mark → Action → Bool
tells_tree b Plain (Load addr) = is_of_tree b addr
tells_tree b mark action = false

-- An action of a call that comes too late: a store, or an exchange of a word that is no lease.
abbrev pub comes_late : Base → ℕ → Action → Answer → Option Seat → Bool
comes_late b now (Store addr word) Done (Some seat) = is_late (value b.machine.bus.words) now seat addr
comes_late b now (Cas addr old new) (WordIs word) (Some seat) = not (is_lease b addr) && is_late (value b.machine.bus.words) now seat addr
comes_late b now action answer seat = false

abbrev pub address_of : Action → ℕ
address_of (Store addr word) = addr
address_of (Cas addr old new) = addr
address_of action = 0

-- The coffer whose page this is, by its path.
abbrev pub path_at : List Word → ℕ → Option (List (List ℕ))
path_at words addr = path_of_id (coffers words) (kernel_owner words (addr / 4096))

-- the coffer that an entry makes lost, whether or not it was lost before: by a late store or a stray one
abbrev pub harmed_if : Bool → List Word → ℕ → Option (List (List ℕ))
harmed_if true words addr = path_at words addr
harmed_if false words addr = None

abbrev pub is_done : Answer → Bool
is_done Done = true
is_done answer = false

abbrev pub harmed : Base → Entry → Option (List (List ℕ))
harmed b (entry.Act thread now mark action answer) = harmed_if (comes_late b now action answer (b.seats thread)) b.machine.bus.words (address_of action)
harmed b (entry.Stray thread addr word answer) = harmed_if (is_done answer) b.machine.bus.words addr
harmed b e = None

-- the coffers that it makes lost and that weren't before; one that is shut off stays so

abbrev pub is_ready : Standing → Bool
is_ready IsReady = true
is_ready standing = false

abbrev pub is_newly : List (List ℕ) → Row → Bool
is_newly path row = same_names row.path path && is_ready row.standing

abbrev pub owed_by : Option (List (List ℕ)) → List Row → List (List (List ℕ))
owed_by None table = []
owed_by (Some path) table = map (λ row. row.path) (filter (is_newly path) table)

abbrev pub rest : List (List (List ℕ)) → List (List (List ℕ))
rest [] = []
rest (path ∷ paths) = paths

abbrev pub owed_after : Base → Entry → List (List (List ℕ))
owed_after b (entry.Lost path) = rest b.owed
owed_after b e = owed_by (harmed b e) b.table

abbrev pub table_after : Base → Entry → List Row
table_after b e = losing (harmed b e) b.table

-- Places. A store puts the next one into the history of its word; an exchange does so where it changes it.
abbrev pub is_change : Action → Answer → Bool
is_change (Store addr word) Done = true
is_change (Cas addr old new) (WordIs word) = word == old
is_change action answer = false

abbrev pub raised : Bool → ℕ → (ℕ → ℕ) → ℕ → ℕ
raised true addr tops a = if a / 8 == addr / 8 then tops a + 1 else tops a
raised false addr tops a = tops a

abbrev pub tops_after : Base → Entry → ℕ → ℕ
tops_after b (entry.Act thread now mark action answer) = raised (is_change action answer) (address_of action) b.tops
tops_after b (entry.Stray thread addr word answer) = raised (is_done answer) addr b.tops
tops_after b (entry.Crash choice) = λ _. 0
tops_after b e = b.tops

-- the place of the durable value
abbrev pub floor : Base → ℕ → ℕ
floor b addr = b.tops addr - length (word_at b.machine.bus.words addr).older

abbrev pub is_stored : Action → Answer → Bool
is_stored (Store addr word) Done = true
is_stored action answer = false

abbrev pub commit_of : Base → ℕ → ℕ → Seat → Commit
commit_of b thread addr seat = record { position = b.count; thread = thread; addr = addr; place = b.tops addr + 1; held = seat.held }

abbrev pub committing : Base → ℕ → Mark → Action → Answer → Option Seat → List Commit
committing b thread mark action answer None = b.commits
committing b thread mark action answer (Some seat) = if is_commit mark answer && is_stored action answer then commit_of b thread (address_of action) seat ∷ b.commits else b.commits

abbrev pub commits_after : Base → Entry → List Commit
commits_after b (entry.Act thread now mark action answer) = committing b thread mark action answer (b.seats thread)
commits_after b (entry.Crash choice) = []
commits_after b e = b.commits

-- Seats. A crash ends all calls.

abbrev pub seat_of : Option Cred → Command → Option Seat
seat_of None command = None
seat_of (Some cred) command = Some (new_seat cred command)

abbrev pub seated : (ℕ → Bool) → ℕ → ℕ → ℕ → Mark → Action → Answer → Option Seat → Option Seat
seated has_lease position thread now mark action answer None = None
seated has_lease position thread now mark action answer (Some seat) = Some (seat_after has_lease position thread now mark action answer seat)

abbrev pub seats_after : Base → Entry → ℕ → Option Seat
seats_after b (entry.Call thread command) = put b.seats thread (seat_of (cred_of b.machine.bus thread) command)
seats_after b (entry.Act thread now mark action answer) = put b.seats thread (seated (has_lease b) b.count thread now mark action answer (b.seats thread))
seats_after b (entry.Reply thread reply) = put b.seats thread None
seats_after b (entry.Crash choice) = λ _. None
seats_after b e = b.seats

-- the half that no crash takes back, after an entry
abbrev pub base_after : Base → Entry → Base
base_after b e = record {
  machine = moved b.machine e;
  seats = seats_after b e;
  table = table_after b e;
  leased = b.leased;
  tops = tops_after b e;
  commits = commits_after b e;
  owed = owed_after b e;
  count = b.count + 1;
}

-- What a crash drops. `places` has for each word the place of the value that the crash leaves.

abbrev pub is_dropped : (ℕ → ℕ) → ℕ → Commit → Bool
is_dropped places position c = (c.position == position) && nat_lt (places c.addr) c.place

abbrev pub dropped : (ℕ → ℕ) → List Commit → ℕ → Bool
dropped places commits position = list_any (is_dropped places position) commits

-- the place of the value that a pick leaves: of the present one, of the durable one, or of one that the seed names
abbrev pub picked_place : Pick → ℕ → ℕ → ℕ → ℕ
picked_place pick.All addr top low = top
picked_place pick.None addr top low = low
picked_place (pick.Seed seed) addr top low = low + fnv64_of (to_le_bytes w64 seed ++ to_le_bytes w64 addr) % (top - low + 1)

abbrev pub word_address : ℕ → ℕ
word_address addr = addr - addr % 8

abbrev pub places_of : Pick → Base → ℕ → ℕ
places_of choice b addr = picked_place choice (word_address addr) (b.tops addr) (floor b addr)

-- What users see after an entry. A change moves the trees unless it is dropped, or its coffer is lost by it.

abbrev pub answered : Base → Replay → Seat → Option Answered
answered b r seat = answer (coffers_of b.table r.trees) seat.cred seat.command

abbrev pub moves : Bool → Base → Entry → Seat → Bool
moves drop b e seat = not drop && not (is_lost (consulted (coffers_of (table_after b e) (λ _. [])) seat.command))

abbrev pub trees_if : Bool → Base → Replay → Seat → ℕ → List Member
trees_if true b r seat = trees_after b.table r.trees (answered b r seat)
trees_if false b r seat = r.trees

abbrev pub trees_by : Bool → Base → Replay → Entry → Mark → Answer → Option Seat → ℕ → List Member
trees_by drop b r e mark answer None = r.trees
trees_by drop b r e mark answer (Some seat) = trees_if (is_commit mark answer && moves drop b e seat) b r seat

abbrev pub trees_of : Bool → Base → Replay → Entry → ℕ → List Member
trees_of drop b r (entry.Act thread now mark action answer) = trees_by drop b r (entry.Act thread now mark action answer) mark answer (b.seats thread)
trees_of drop b r e = r.trees

abbrev pub tells_tree_in : Base → Entry → Bool
tells_tree_in b (entry.Act thread now mark action answer) = tells_tree b mark action
tells_tree_in b e = false

-- At its point a call's reply is settled by the coffers before the entry; a change that comes too late is judged by those after.
abbrev pub settled_by : Base → Replay → Entry → Mark → Answer → Option Seat → Settled → Settled
settled_by b r e mark answer None s = s
settled_by b r e mark answer (Some seat) s =
    settled_after (tells_tree_in b e) (coffers_of (if is_commit mark answer then table_after b e else b.table) r.trees) seat.cred seat.command mark answer s

abbrev pub settled_of : Base → Replay → Entry → ℕ → Settled
settled_of b r (entry.Call thread command) = put r.settled thread (settled_at_call (coffers_of b.table r.trees) (cred_or (cred_of b.machine.bus thread)) command)
settled_of b r (entry.Act thread now mark action answer) = put r.settled thread (settled_by b r (entry.Act thread now mark action answer) mark answer (b.seats thread) (r.settled thread))
settled_of b r e = r.settled

-- whether each caller is barred still, by the coffers after the entry
abbrev pub barred_by : List Coffer → Option Seat → Settled → Settled
barred_by coffers None s = s
barred_by coffers (Some seat) s = still_barred coffers seat.cred seat.command s

abbrev pub replay_after : Bool → Base → Entry → Replay → Replay
replay_after drop b e r = record {
  trees = trees_of drop b r e;
  settled = λ thread. barred_by (coffers_of (table_after b e) (trees_of drop b r e)) (seats_after b e thread) (settled_of b r e thread);
}

-- a crash takes back what it drops, for good; no call has anything settled then
abbrev pub or_dropped : (ℕ → ℕ) → List Commit → (ℕ → Bool) → ℕ → Bool
or_dropped places commits drop position = drop position || dropped places commits position

abbrev pub crashed_replay : Replay → Replay
crashed_replay r = record { trees = r.trees; settled = λ _. idle }

abbrev pub replays_after : World → Entry → (ℕ → Bool) → Replay
replays_after w (entry.Crash choice) drop = crashed_replay (w.replays (or_dropped (places_of choice w.base) w.base.commits drop))
replays_after w e drop = replay_after (drop w.base.count) w.base e (w.replays drop)

-- the world after an entry
abbrev pub stepped : World → Entry → World
stepped w e = record { base = base_after w.base e; replays = replays_after w e }

-- the world after the entries of a trace, over the words of an image
abbrev pub world_after : List ℕ → List Entry → World
world_after opening trace = state_after stepped (world_of opening) trace

-- the coffers as users see them, had these changes not come about
abbrev pub coffers_by : (ℕ → Bool) → World → List Coffer
coffers_by drop w = coffers_of w.base.table (w.replays drop).trees

abbrev pub coffers_at : World → List Coffer
coffers_at w = coffers_by never w
