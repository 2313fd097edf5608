-- What a call sees between two of its actions, and what an action leaves: by the words of its coffer and by what users
-- see, over no machine. An action that the rights permit is answered by the words alone.
use Rattle.std.specs.Prelude.{◌≡◌, ◌⊎◌, ℕ, ◌/◌, ◌%◌, ◌≤◌, ◌<◌, List, length, Contains, true, Some, if◌then◌else◌, ◌==◌, nat_eq}
use Rattle.std.specs.List.{IsDistinct}
use Rattle.zo_layout.specs.Layout.{page_at, word_of, pool_head}
use Rattle.tr_types.specs.declared.action.Action.{Action}
use Rattle.tr_types.specs.declared.action.Action.TheVariants.{Load, Store, Kernel}
use Rattle.tr_types.specs.declared.action.Answer.{Answer}
use Rattle.tr_types.specs.declared.action.Answer.TheVariants.{Word as WordIs, Done, Kern}
use Rattle.tr_types.specs.declared.command.Command.{Command}
use Rattle.tr_types.specs.declared.command.Command.TheVariants.{Create, Stat}
use Rattle.tr_types.specs.declared.command.Reply.{Reply}
use Rattle.tr_types.specs.declared.entry.Mark.{Mark}
use Rattle.tr_types.specs.declared.entry.Mark.TheVariants.{Plain, Commit}
use Rattle.tr_types.specs.declared.kernel_call.Kcall.TheVariants.{Enlarge}
use Rattle.tr_types.specs.declared.kernel_call.KernAnswer.{KernAnswer}
use Rattle.tr_types.specs.declared.kernel_call.KernAnswer.TheVariants.{Pages, NoPages}
use Rattle.zo_model.specs.Tree.{Member}
use Rattle.zo_model.specs.CofferWords.{CofferAt, Denotes, Rests}
use Rattle.zo_model.specs.Coffers.{Ready, Coffer, paths_of, names_below}
use Rattle.zo_model.specs.Answers.{answer, consulted}
use Rattle.zo_model.specs.Seats.{Seat, seat_after, is_commit}
use Rattle.zo_model.specs.Legal.{Verdict, MayCommit, MayReply, moved_to, verdict_after}
use Rattle.zo_model.specs.Discipline.{MayEnlarge}

-- The words, the coffer that the call has mapped with its number, the coffers that users see, and the call's seat.
pub record Scene : Type 0 where
  pub at : ℕ → ℕ
  pub id : ℕ
  pub coffer : CofferAt
  pub coffers : List Coffer
  pub seat : Seat
  -- what is settled of its reply
  pub verdict : Verdict

-- The command consults the coffer `mine` of those that users see. It has the path of the mapped one and holds this tree,
-- and the mapped coffer has below it the coffers that stand directly below this path, and no others.
pub record Consults (s : Scene) (mine : Coffer) (tree : List Member) : Type 0 where
  pub consulted_is : consulted s.coffers s.seat.command ≡ Some mine
  pub path_is : mine.path ≡ s.coffer.path
  pub content_is : mine.content ≡ Ready tree
  pub below_is : s.coffer.below ≡ names_below (paths_of s.coffers) mine.path

-- the address of a word of the coffer
pub record IsCofferWord (coffer : CofferAt) (addr : ℕ) : Type 0 where
  pub aligned : addr % 8 ≡ 0
  pub coffers : Contains coffer.pages (addr / 4096)

-- the command changes something
abbrev pub MayStore : Command → Type 0
MayStore (Create path mode) = Unit {0}
MayStore (Stat path) = ⊥

-- The action loads or stores a word of the coffer, or asks for pages for it. A command that only reads stores nothing and
-- asks for none.
abbrev pub IsReachable : Scene → Action → Type 0
IsReachable s (Load addr) = IsCofferWord s.coffer addr
IsReachable s (Store addr word) = MayStore s.seat.command × IsCofferWord s.coffer addr
IsReachable s (Kernel (Enlarge id count)) = MayStore s.seat.command × (id ≡ s.id) × (1 ≤ count) × (count ≤ 1024) × MayEnlarge s.coffers s.seat count
IsReachable s action = ⊥

-- the mark of such an action
abbrev pub MayMark : Mark → Action → Type 0
MayMark Plain action = Unit {0}
MayMark Commit (Store addr word) = Unit {0}
MayMark mark action = ⊥

-- these pages were nobody's, each once
pub record AreGiven (coffer : CofferAt) (count : ℕ) (pages : List ℕ) : Type 0 where
  pub count_is : length pages ≡ count
  pub apart : (page : ℕ) → Contains pages page → Contains coffer.pages page → ⊥
  pub once : IsDistinct nat_eq pages

-- how an action may be answered, where the rights permit it
abbrev pub AnswersCall : Scene → ℕ → KernAnswer → Type 0
AnswersCall s count (Pages pages) = AreGiven s.coffer count pages
AnswersCall s count (NoPages asked free) = (asked ≡ count) × (free < count)
AnswersCall s count answer = ⊥

abbrev pub Answers : Scene → Action → Answer → Type 0
Answers s (Load addr) answer = answer ≡ WordIs (s.at addr)
Answers s (Store addr word) answer = answer ≡ Done
Answers s (Kernel (Enlarge id count)) (Kern answer) = AnswersCall s count answer
Answers s action answer = ⊥

-- the words with another one at an address: each address in the eight bytes of a word reads the same word
abbrev pub put : (ℕ → ℕ) → ℕ → ℕ → ℕ → ℕ
put at addr word a = if a / 8 == addr / 8 then word else at a

-- Pages given to the coffer are its own then, and all zeros; its other words stay.
pub record HasDrawn (pages : List ℕ) (s after : Scene) : Type 0 where
  pub kept : (page : ℕ) → Contains s.coffer.pages page → Contains after.coffer.pages page
  pub given : (page : ℕ) → Contains pages page → Contains after.coffer.pages page
  pub only : (page : ℕ) → Contains after.coffer.pages page → Contains s.coffer.pages page ⊎ Contains pages page
  pub control : after.coffer.control ≡ s.coffer.control
  pub root : after.coffer.root ≡ s.coffer.root
  pub path : after.coffer.path ≡ s.coffer.path
  pub below : after.coffer.below ≡ s.coffer.below
  pub same : (addr : ℕ) → Contains s.coffer.pages (addr / 4096) → after.at addr ≡ s.at addr
  pub zeros : (page i : ℕ) → Contains pages page → i < 512 → after.at (word_of (page_at page) i) ≡ 0

-- what an action leaves of the words and the coffer
abbrev pub LeavesWords : Action → Answer → Scene → Scene → Type 0
LeavesWords (Store addr word) Done s after = (after.at ≡ put s.at addr word) × (after.coffer ≡ s.coffer)
LeavesWords (Kernel (Enlarge id count)) (Kern (Pages pages)) s after = HasDrawn pages s after
LeavesWords action answer s after = (after.at ≡ s.at) × (after.coffer ≡ s.coffer)

-- the head of the call's pool
abbrev pub pool_of : CofferAt → ℕ
pool_of coffer = pool_head (page_at coffer.control) 0

-- what an action with this mark, so answered, leaves
pub record Leaves (mark : Mark) (action : Action) (given : Answer) (s after : Scene) : Type 0 where
  pub words : LeavesWords action given s after
  pub id : after.id ≡ s.id
  pub seat : after.seat ≡ seat_after (pool_of s.coffer) mark action given s.seat
  pub coffers : after.coffers ≡ (if is_commit mark given then moved_to (answer s.coffers s.seat.cred s.seat.command) s.coffers else s.coffers)
  pub verdict : after.verdict ≡ verdict_after mark given s.coffers s.seat s.verdict

-- the words denote the tree of the coffer that is mapped
abbrev pub IsDenoted : Scene → Type 0
IsDenoted s = (mine : Coffer) × (tree : List Member) × Consults s mine tree × Denotes s.at s.coffer tree

-- the same, and no free entry or pool is out of order: so a call begins, and so it leaves all
abbrev pub IsAtRest : Scene → Type 0
IsAtRest s = (mine : Coffer) × (tree : List Member) × Consults s mine tree × Rests s.at s.coffer tree

-- An action that was answered so and left this: a commit is right and done, the words denote the tree then, and this is known.
pub record Goes (Known : Answer → Scene → Type 0) (mark : Mark) (action : Action) (given : Answer) (s after : Scene) : Type 0 where
  pub legal : is_commit mark given ≡ true → MayCommit s.coffers s.seat action
  pub done : mark ≡ Commit → is_commit mark given ≡ true
  pub denoted : IsDenoted after
  pub knows : Known given after

-- an action that a call gives: it stays in the coffer, and however it is answered, the call goes on
pub record ActGives (Known : Answer → Scene → Type 0) (mark : Mark) (action : Action) (s : Scene) : Type 0 where
  pub reachable : IsReachable s action
  pub marked : MayMark mark action
  pub goes : (given : Answer) (after : Scene) → Answers s action given → Leaves mark action given s after → Goes Known mark action given s after

-- a reply that a call gives: it is right, and all is at rest
pub record OverGives (reply : Reply) (s : Scene) : Type 0 where
  pub legal : MayReply s.coffers s.seat s.verdict reply
  pub rests : IsAtRest s
