-- What a command is answered, and the coffers after it: by the coffers as they stand and the caller's credentials, for
-- one caller at a time. `answer` is none where a coffer that counts is lost, since nothing is promised of it.
use Rattle.std.specs.Prelude.{◌≡◌, ℕ, ◌+◌, List, [], ◌∷◌, ◌++◌, length, map, filter, Contains, Bool, Option, Some, None, is_some, if◌then◌else◌, ◌==◌, ◌&&◌, ◌||◌, nat_lt}
use Rattle.std.specs.List.{list_any}
use Rattle.tr_types.specs.Paths.{names_of}
use Rattle.tr_types.specs.Permission.{refuses}
use Rattle.tr_types.specs.declared.command.Command.{Command}
use Rattle.tr_types.specs.declared.command.Command.TheVariants.{Create, Stat}
use Rattle.tr_types.specs.declared.command.Kind.TheVariants.{File, Dir}
use Rattle.tr_types.specs.declared.command.Reply.{Reply}
use Rattle.tr_types.specs.declared.command.Reply.TheVariants as reply
use Rattle.tr_types.specs.declared.permission.Cred.{Cred}
use Rattle.tr_types.specs.declared.permission.Perm.{Perm}
use Rattle.tr_types.specs.declared.permission.Right.{Right}
use Rattle.zo_model.specs.Tree.{Member, Node, Directory, FileOf, node_at, is_child}
use Rattle.zo_model.specs.Coffers.{Content, Ready, Lost, Quarantined, Coffer, path_text, parent, coffer_of, within, is_coffer, coffers_under, with_tree}

-- the rights to read and to write
abbrev pub read_right : Right
read_right = record { 0 = 1 }

abbrev pub write_right : Right
write_right = record { 0 = 2 }

abbrev pub path_of : Command → List ℕ
path_of (Create path mode) = path
path_of (Stat path) = path

-- a name over 255 bytes, or a path over 1,024 bytes or 32 names
abbrev pub is_too_long : List ℕ → Bool
is_too_long path = nat_lt 1024 (length path) || nat_lt 32 (length (names_of path)) || list_any (λ name. nat_lt 255 (length name)) (names_of path)

-- a right that a command needs on a coffer
pub record Need : Type 0 where
  pub right : Right
  pub coffer : Coffer

abbrev pub need_of : Right → Option Coffer → List Need
need_of right None = []
need_of right (Some coffer) = record { right = right; coffer = coffer } ∷ []

-- what a command needs, in the order in which it is asked for; it depends on no tree
abbrev pub needs : List Coffer → Command → List Need
needs coffers (Create path mode) = need_of write_right (coffer_of coffers (parent (names_of path)))
needs coffers (Stat path) = need_of read_right (coffer_of coffers (names_of path))

-- the coffer that a command consults
abbrev pub consulted : List Coffer → Command → Option Coffer
consulted coffers (Create path mode) = coffer_of coffers (parent (names_of path))
consulted coffers (Stat path) = coffer_of coffers (names_of path)

-- the caller is refused this right of this coffer's
abbrev pub is_denied : Cred → Need → Bool
is_denied cred need = refuses need.coffer.perm cred need.right

-- The caller is refused a right that the command needs, on the coffer of this path.
abbrev pub IsDeniedHere : List Coffer → Cred → Command → Right → List ℕ → Type 0
IsDeniedHere coffers cred command right path =
    (need : Need) × Contains (needs coffers command) need × (need.right ≡ right) × (path_text need.coffer.path ≡ path) × (is_denied cred need ≡ Bool.true)

-- how a walk ends: at a node, at a name that isn't there, or at a file that stands before the last name
pub data Walk : Type 0 where
  Reaches : (node : Node) → Walk
  MissesName : Walk
  MeetsFile : Walk

abbrev pub arrived : Option Node → Walk
arrived None = MissesName
arrived (Some node) = Reaches node

abbrev pub entered : Option Node → Walk → Walk
entered None rest = MissesName
entered (Some Directory) rest = rest
entered (Some (FileOf bytes)) rest = MeetsFile

-- the walk from the node of the names `done` on through `names`
abbrev pub walk : List Member → List (List ℕ) → List (List ℕ) → Walk
walk tree done [] = arrived (node_at tree done)
walk tree done (name ∷ names) = entered (node_at tree done) (walk tree (done ++ name ∷ []) names)

pub record Answered : Type 0 where
  pub reply : Reply
  pub coffers : List Coffer

-- a reply that leaves the coffers as they are
abbrev pub told : List Coffer → Reply → Answered
told coffers reply = record { reply = reply; coffers = coffers }

-- how many names a directory has: members, and coffers directly under it
abbrev pub names_in : List Coffer → Coffer → List Member → List (List ℕ) → ℕ
names_in coffers coffer tree names = length (filter (is_child names) tree) + coffers_under coffers (coffer.path ++ names)

abbrev pub state_of : List Coffer → Coffer → List Member → List (List ℕ) → Walk → Reply
state_of coffers coffer tree names (Reaches Directory) = reply.Info Dir (names_in coffers coffer tree names) coffer.perm.uid coffer.perm.gid coffer.perm.mode
state_of coffers coffer tree names (Reaches (FileOf bytes)) = reply.Info File (length bytes) coffer.perm.uid coffer.perm.gid coffer.perm.mode
state_of coffers coffer tree names MissesName = reply.NotFound
state_of coffers coffer tree names MeetsFile = reply.NotDir

-- the permission of what a caller makes
abbrev pub perm_of : Cred → ℕ → Perm
perm_of cred mode = record { uid = cred.uid; gid = cred.gid; mode = mode }

abbrev pub same_perm : Perm → Perm → Bool
same_perm perm other = (perm.uid == other.uid) && (perm.gid == other.gid) && (perm.mode == other.mode)

-- a new node in its parent's coffer
abbrev pub grown : List Coffer → Coffer → List Member → List (List ℕ) → Node → List Coffer
grown coffers coffer tree names node = map (with_tree coffer.path (tree ++ record { names = within coffer names; node = node } ∷ [])) coffers

-- a new node as the root of a coffer of its own
abbrev pub founded : List Coffer → List (List ℕ) → Perm → Node → List Coffer
founded coffers names perm node = coffers ++ record { path = names; perm = perm; content = Ready (record { names = []; node = node } ∷ []) } ∷ []

-- It lies in its parent's coffer just where it has that coffer's permission. The path of a coffer has at most 440 bytes.
abbrev pub made : List Coffer → Coffer → List Member → List (List ℕ) → Perm → Node → Answered
made coffers coffer tree names perm node =
    if same_perm perm coffer.perm then record { reply = reply.Made; coffers = grown coffers coffer tree names node }
    else (if nat_lt 440 (length (path_text names)) then told coffers reply.TooLong
    else record { reply = reply.Made; coffers = founded coffers names perm node })

-- something stands at the path
abbrev pub stands : List Coffer → Coffer → List Member → List (List ℕ) → Bool
stands coffers coffer tree names = is_some (node_at tree (within coffer names)) || is_coffer coffers names

-- what is made at a path whose directory was walked to
abbrev pub make : List Coffer → Coffer → List Member → List (List ℕ) → Perm → Node → Walk → Answered
make coffers coffer tree names perm node (Reaches Directory) = if stands coffers coffer tree names then told coffers reply.Exists else made coffers coffer tree names perm node
make coffers coffer tree names perm node (Reaches (FileOf bytes)) = told coffers reply.NotDir
make coffers coffer tree names perm node MissesName = told coffers reply.NotFound
make coffers coffer tree names perm node MeetsFile = told coffers reply.NotDir

-- what a command is answered in the coffer that it consults, by that coffer's tree
abbrev pub answer_by : List Coffer → Cred → Command → Coffer → List Member → Answered
answer_by coffers cred (Create path mode) coffer tree =
    make coffers coffer tree (names_of path) (perm_of cred mode) (FileOf []) (walk tree [] (within coffer (parent (names_of path))))
answer_by coffers cred (Stat path) coffer tree =
    told coffers (state_of coffers coffer tree (within coffer (names_of path)) (walk tree [] (within coffer (names_of path))))

abbrev pub answer_in : List Coffer → Cred → Command → Coffer → Content → Option Answered
answer_in coffers cred command coffer (Ready tree) = Some (answer_by coffers cred command coffer tree)
answer_in coffers cred command coffer Lost = None
answer_in coffers cred command coffer Quarantined = Some (told coffers reply.Quarantined)

-- Denied, for the first right that isn't given; else what the coffer's content says
abbrev pub answer_at : List Coffer → Cred → Command → List Need → Option Answered
answer_at coffers cred command [] = None
answer_at coffers cred command (need ∷ needs) =
    if is_denied cred need then Some (told coffers (reply.Denied need.right (path_text need.coffer.path)))
    else answer_in coffers cred command need.coffer need.coffer.content

abbrev pub answer : List Coffer → Cred → Command → Option Answered
answer coffers cred command = if is_too_long (path_of command) then Some (told coffers reply.TooLong) else answer_at coffers cred command (needs coffers command)

-- the command is answered so, and changes nothing
abbrev pub IsTold : List Coffer → Cred → Command → Reply → Type 0
IsTold coffers cred command reply = answer coffers cred command ≡ Some (told coffers reply)

-- a reply to a change that came about
abbrev pub is_success : Reply → Bool
is_success reply.Made = Bool.true
is_success reply = Bool.false

-- the command changes something here, is answered so, and leaves these coffers
abbrev pub Changes : List Coffer → Cred → Command → Answered → Type 0
Changes coffers cred command answered = (answer coffers cred command ≡ Some answered) × (is_success answered.reply ≡ Bool.true)
