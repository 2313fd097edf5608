-- What a call knows between two of its actions, stage by stage, and what it gives with each.
use Rattle.std.specs.Prelude.{◌≡◌, ℕ, ◌+◌, ◌<◌, ◌≤◌, ◌^◌, List, [], ◌∷◌, length, drop, codes, Contains, true, false, Some, if◌then◌else◌, ◌==◌}
use Rattle.zo_layout.specs.Layout.{page_at, page_kind, file_map}
use Rattle.tr_types.specs.declared.action.Action.TheVariants.{Store}
use Rattle.tr_types.specs.declared.action.Answer.{Answer}
use Rattle.tr_types.specs.declared.action.Answer.TheVariants.{Word as WordIs, Done, Kern}
use Rattle.tr_types.specs.declared.command.Command.{Command}
use Rattle.tr_types.specs.declared.command.Command.TheVariants.{Create, Stat}
use Rattle.tr_types.specs.declared.command.Reply.TheVariants.{Made, Exists, NoSpace}
use Rattle.tr_types.specs.declared.entry.Mark.{Mark}
use Rattle.tr_types.specs.declared.entry.Mark.TheVariants.{Plain, Commit}
use Rattle.tr_types.specs.declared.kernel_call.KernAnswer.{KernAnswer}
use Rattle.tr_types.specs.declared.kernel_call.KernAnswer.TheVariants.{Pages, NoPages}
use Rattle.tr_types.specs.declared.kernel_call.Mapped.{Mapped}
use Rattle.zo_model.specs.Alone.{IsAlone, root_cred}
use Rattle.zo_model.specs.Answers.{path_of, answer, told as answered_so}
use Rattle.zo_model.specs.CofferWords.{Rests, wanted}
use Rattle.zo_model.specs.Commands.{IsCommand}
use Rattle.zo_model.specs.Legal.{NoPoint, Fixed, MayCommit, moved_to, verdict_after}
use Rattle.zo_model.specs.Seats.{NotAsked, Given, Refused, seat_after, is_commit}
use Rattle.zo_model.specs.Steps.{Scene, IsCofferWord, AreGiven, HasDrawn, IsDenoted, ActGives, OverGives, MayStore, put, pool_of}
use Rattle.zo_model.specs.Tree.{Member, FileOf, node_at}
use Rattle.zo_plan.specs.declared.place.Place.{Place}
use Rattle.zo_plan.specs.StoreRuns.{Due}
use Rattle.zo_hash_dir.specs.declared.list.ListRun.{ListRun}
use Rattle.zo_hash_dir.specs.declared.lookup.Lookup.{Lookup}
use Rattle.zo_hash_dir.specs.declared.lookup.Purpose.{Purpose}
use Rattle.zo_hash_dir.specs.declared.lookup.Purpose.TheVariants.{Reading, Making}
use Rattle.zo_hash_dir.specs.Counting.{ListKnows}
use Rattle.zo_hash_dir.specs.Looking.{Knows as LookKnows, IsMissingAt}
use Rattle.zo_hash_dir.specs.Scene.{Scene as Seen}
use Rattle.zo_ops.specs.declared.op.OpRun.{OpRun}
use Rattle.zo_ops.specs.declared.op.OpStep.{OpStep}
use Rattle.zo_ops.specs.declared.op.OpStep.TheVariants as step
use Rattle.zo_ops.specs.declared.op.Stage.{Stage}
use Rattle.zo_ops.specs.declared.op.Stage.TheVariants as stage

-- the name that a command's path has in the root directory; none for `/`
abbrev pub name_of : Command → List ℕ
name_of command = drop 1 (path_of command)

abbrev pub IsCreate : Command → Type 0
IsCreate (Create path mode) = Unit {0}
IsCreate (Stat path) = ⊥

abbrev pub IsStat : Command → Type 0
IsStat (Create path mode) = ⊥
IsStat (Stat path) = Unit {0}

-- The coffer is the one that the kernel has mapped so. It has at most so many pages, none of them page 0, and its control
-- page is one of them.
pub record IsMapped (mapped : Mapped) (s : Scene) : Type 0 where
  pub id : s.id ≡ mapped.id
  pub control : s.coffer.control ≡ mapped.control
  pub root : s.coffer.root ≡ mapped.root
  pub few : length s.coffer.pages ≤ mapped.pages
  pub control_among : Contains s.coffer.pages s.coffer.control
  pub each : (page : ℕ) → Contains s.coffer.pages page → (0 < page) × (page_at page < 2 ^ 60)

-- the call is this command's, of a caller with uid 0 and gid 0
pub record IsCallOf (command : Command) (s : Scene) : Type 0 where
  pub command_is : s.seat.command ≡ command
  pub can_be : IsCommand command
  pub cred : s.seat.cred ≡ root_cred

-- how a call finds the coffer, and how it leaves it
pub record Stands (s : Scene) : Type 0 where
  pub tree : List Member
  pub alone : IsAlone s.coffers s.coffer tree
  pub rests : Rests s.at s.coffer tree

-- The ground of a call that has changed nothing yet.
pub record Ground (mapped : Mapped) (command : Command) (s : Scene) : Type 0 where
  pub stands : Stands s
  pub call : IsCallOf command s
  pub coffer : IsMapped mapped s
  pub uncommitted : s.seat.committed ≡ false

-- the call has asked for no pages, and its reply is not settled
abbrev pub IsUnasked : Scene → Type 0
IsUnasked s = (s.seat.told ≡ NotAsked) × (s.verdict ≡ NoPoint)

-- what a call knows that begins
abbrev pub BeginKnows : Mapped → Command → Scene → Type 0
BeginKnows mapped command s = Ground mapped command s × IsUnasked s

-- the root directory's words, and the targets that it is to show
abbrev pub seen : (s : Scene) → Stands s → Seen
seen s k = record { at = s.at; pages = s.coffer.pages; want = wanted k.rests.denotes.page_of s.coffer k.tree [] }

abbrev pub purpose_of : Command → Purpose
purpose_of (Create path mode) = Making
purpose_of (Stat path) = Reading

-- the look-up is for the command's name in the root directory
pub record IsLookFor (mapped : Mapped) (command : Command) (look : Lookup) : Type 0 where
  pub dir : look.dir.at ≡ page_at mapped.root
  pub name : look.name ≡ name_of command
  pub some : 0 < length (name_of command)
  pub purpose : look.purpose ≡ purpose_of command

pub record LookingKnows (mapped : Mapped) (command : Command) (look : Lookup) (answer : Answer) (s : Scene) : Type 0 where
  pub ground : Ground mapped command s
  pub unasked : IsUnasked s
  pub aim : IsLookFor mapped command look
  pub knows : LookKnows look answer (seen s ground.stands)

-- the names of the root directory are counted, for a look at it
pub record CountingKnows (mapped : Mapped) (command : Command) (count : ListRun) (answer : Answer) (s : Scene) : Type 0 where
  pub ground : Ground mapped command s
  pub unasked : IsUnasked s
  pub stat : IsStat command
  pub root : path_of command ≡ codes "/"
  pub dir : count.dir.at ≡ page_at mapped.root
  pub knows : ListKnows count answer (seen s ground.stands)

-- a file of the name was found, and this is the address of its page
pub record Finds (mapped : Mapped) (command : Command) (file : ℕ) (s : Scene) : Type 0 where
  pub ground : Ground mapped command s
  pub unasked : IsUnasked s
  pub stat : IsStat command
  pub some : 0 < length (name_of command)
  pub bytes : List ℕ
  pub stands : node_at ground.stands.tree (name_of command ∷ []) ≡ Some (FileOf bytes)
  pub file_is : file ≡ page_at (ground.stands.rests.denotes.page_of (name_of command ∷ []))

-- a new name is to be linked in the root directory, at this place
pub record Lacks (mapped : Mapped) (command : Command) (place : Place) (s : Scene) : Type 0 where
  pub ground : Ground mapped command s
  pub create : IsCreate command
  pub missing : IsMissingAt (seen s ground.stands) (page_at mapped.root) (name_of command) Making place

-- how many pages a new file takes, whose name is linked at this place
abbrev pub pages_for : Place → ℕ
pages_for place = (if place.free == 0 then 1 else 0) + 1

-- The pages are drawn: `base` is the scene before.
pub record Drew (mapped : Mapped) (command : Command) (place : Place) (pages : List ℕ) (s : Scene) : Type 0 where
  pub base : Scene
  pub lacks : Lacks mapped command place base
  pub given : AreGiven base.coffer (pages_for place) pages
  pub drawn : HasDrawn pages base s
  pub call : IsCallOf command s
  pub coffers : s.coffers ≡ base.coffers
  pub uncommitted : s.seat.committed ≡ false
  pub told : s.seat.told ≡ Given

-- no page is: the kernel has refused as many as were asked for
pub record IsShort (mapped : Mapped) (command : Command) (place : Place) (asked free : ℕ) (s : Scene) : Type 0 where
  pub lacks : Lacks mapped command place s
  pub asked_is : asked ≡ pages_for place
  pub told : s.seat.told ≡ Refused asked free true
  pub verdict : s.verdict ≡ Fixed (NoSpace asked free)

-- what is known with the kernel's answer
abbrev pub DrawnKnows : Mapped → Command → Place → KernAnswer → Scene → Type 0
DrawnKnows mapped command place (Pages pages) s = Drew mapped command place pages s
DrawnKnows mapped command place (NoPages asked free) s = IsShort mapped command place asked free s
DrawnKnows mapped command place answer s = ⊥

abbrev pub DrawingKnows : Mapped → Command → Place → Answer → Scene → Type 0
DrawingKnows mapped command place (Kern answer) s = DrawnKnows mapped command place answer s
DrawingKnows mapped command place answer s = ⊥

-- the mark of a store, and the scene that it leaves

abbrev pub mark_of : Due → Mark
mark_of d = if d.commits then Commit else Plain

abbrev pub stored : Due → Scene → Scene
stored d s = record {
  at = put s.at d.addr d.word;
  id = s.id;
  coffer = s.coffer;
  coffers = if is_commit (mark_of d) Done then moved_to (answer s.coffers s.seat.cred s.seat.command) s.coffers else s.coffers;
  seat = seat_after (pool_of s.coffer) (mark_of d) (Store d.addr d.word) Done s.seat;
  verdict = verdict_after (mark_of d) Done s.coffers s.seat s.verdict;
}

-- the file is made, and would not be made again
pub record IsMade (s : Scene) : Type 0 where
  pub stands : Stands s
  pub committed : s.seat.committed ≡ true
  pub told : s.seat.told ≡ Given
  pub stays : answer s.coffers s.seat.cred s.seat.command ≡ Some (answered_so s.coffers Exists)
  pub verdict : s.verdict ≡ Fixed Made

-- a store that may be made: it goes to the coffer, a commit is right, and the words denote the tree then
pub record MayPut (d : Due) (s : Scene) : Type 0 where
  pub create : MayStore s.seat.command
  pub reached : IsCofferWord s.coffer d.addr
  pub legal : d.commits ≡ true → MayCommit s.coffers s.seat (Store d.addr d.word)
  pub denoted : IsDenoted (stored d s)

-- the stores may be made one after the other, and then the file is made
abbrev pub MayPutAll : List Due → Scene → Type 0
MayPutAll [] s = IsMade s
MayPutAll (d ∷ left) s = MayPut d s × MayPutAll left (stored d s)

-- the name is looked for
abbrev pub IsLooking : Stage → Type 0
IsLooking (stage.Looking look) = Unit {0}
IsLooking s = ⊥

-- what a call knows that is at this stage, with the answer that it gets next
abbrev pub StageKnows : Mapped → Command → Stage → Answer → Scene → Type 0
StageKnows mapped command (stage.Looking look) given s = LookingKnows mapped command look given s
StageKnows mapped command (stage.Counting count) given s = CountingKnows mapped command count given s
StageKnows mapped command (stage.Kind file) given s = Finds mapped command file.at s × (given ≡ WordIs (s.at (page_kind file.at)))
StageKnows mapped command (stage.Map file) given s = Finds mapped command file.at s × (given ≡ WordIs (s.at (file_map file.at)))
StageKnows mapped command (stage.Pool place) given s =
    Lacks mapped command place s × IsUnasked s × (s.seat.drained ≡ true) × (given ≡ WordIs 0)
StageKnows mapped command (stage.Drawing place) given s = DrawingKnows mapped command place given s
StageKnows mapped command (stage.Storing run) given s = (given ≡ Done) × MayPutAll run.left s
StageKnows mapped command stage.Over given s = ⊥

-- where a call begins at this stage, all is known that this stage needs
abbrev pub BeginsAt : Mapped → Command → Stage → Type 0
BeginsAt mapped command stage = (first : Answer) (s : Scene) → BeginKnows mapped command s → StageKnows mapped command stage first s

-- what a call of this command knows with the answer that it gets next
abbrev pub OpKnows : OpRun → Command → Answer → Scene → Type 0
OpKnows op command given s = StageKnows op.mapped command op.stage given s

-- What a call gives with an action, after which it is at this stage, and with its reply.
abbrev pub Gives : Mapped → Command → Stage → OpStep → Scene → Type 0
Gives mapped command later (step.Act action mark) s = ActGives (StageKnows mapped command later) mark action s
Gives mapped command later (step.Over reply) s = OverGives reply s × Stands s

-- what it gives where it knew what its stage asked for with the answer
abbrev pub StepsFrom : OpRun → Command → Answer → OpRun → OpStep → Type 0
StepsFrom old command given new step = (s : Scene) → OpKnows old command given s → Gives new.mapped command new.stage step s

-- the same within a step, where this was known of the scene
abbrev pub After : OpRun → Command → (Mapped → Command → Scene → Type 0) → OpRun → OpStep → Type 0
After old command Known new step = (s : Scene) → Known old.mapped command s → Gives old.mapped command new.stage step s

-- What is known where a name was found, with its target, and where none was, with the place for it; and where the pool has
-- shown no page.
pub record FoundKnows (target : ℕ) (mapped : Mapped) (command : Command) (s : Scene) : Type 0 where
  pub ground : Ground mapped command s
  pub unasked : IsUnasked s
  pub some : 0 < length (name_of command)
  pub wanted : (seen s ground.stands).want (name_of command) ≡ Some target

pub record MissingKnows (place : Place) (mapped : Mapped) (command : Command) (s : Scene) : Type 0 where
  pub ground : Ground mapped command s
  pub unasked : IsUnasked s
  pub some : 0 < length (name_of command)
  pub missing : IsMissingAt (seen s ground.stands) (page_at mapped.root) (name_of command) (purpose_of command) place

abbrev pub PoolKnows : Place → Mapped → Command → Scene → Type 0
PoolKnows place mapped command s = Lacks mapped command place s × IsUnasked s × (s.seat.drained ≡ true)
