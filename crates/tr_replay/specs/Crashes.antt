-- What words denote, as they stand and as any crash would leave them, after any entry of a trace.
use Rattle.std.specs.Prelude.{◌≡◌, ◌≢◌, ◌⊎◌, ℕ, ◌-◌, ◌/◌, ◌<◌, ◌≤◌, List, slice_index_or, Contains, Bool, true, Some}
use Rattle.pm_words.specs.Word.{Word, crash_list}
use Rattle.pm_words.specs.Memory.{word_at}
use Rattle.zo_layout.specs.Layout.{kernel_pages}
use Rattle.kern_model.specs.KernelView.{value, pages_of}
use Rattle.kern_model.specs.Kernel.{coffers}
use Rattle.kern_model.specs.KernelTables.{Coffer as KernelCoffer}
use Rattle.tr_types.specs.Fold.{Each}
use Rattle.tr_types.specs.Paths.{names_of}
use Rattle.tr_types.specs.declared.entry.Entry.{Entry}
use Rattle.zo_model.specs.Tree.{Member}
use Rattle.zo_model.specs.CofferWords.{Denotes}
use Rattle.zo_model.specs.Seats.{Lease}
use Rattle.tr_model.specs.Worlds.{IsReady, Row, IsTabled, coffer_at}
use Rattle.tr_replay.specs.Legal.{IsLegalBy}
use Rattle.tr_replay.specs.Seats.{Seat}
use Rattle.tr_replay.specs.Worlds.{Base, Commit, World, dropped, floor, never, path_at, stepped, world_of, world_after}

-- A crash may leave these words: of each word, its value at a place of its history from the durable one on.
pub record IsLeft (b : Base) (places image : ℕ → ℕ) : Type 0 where
  pub low : (addr : ℕ) → floor b addr ≤ places addr
  pub high : (addr : ℕ) → places addr ≤ b.tops addr
  pub alike : (addr other : ℕ) → addr / 8 ≡ other / 8 → places addr ≡ places other
  pub value_is : (addr : ℕ) → image addr ≡ slice_index_or (crash_list (word_at b.machine.bus.words addr)) (places addr - floor b addr) 0

-- the words `at` denote the tree of a coffer that is ready; the kernel's tables are those of `words`
pub record HasWords (at : ℕ → ℕ) (words : List Word) (table : List Row) (row : Row) (tree : List Member) : Type 0 where
  pub coffer : KernelCoffer
  pub among : Contains (coffers words) coffer
  pub path_is : names_of coffer.path ≡ row.path
  pub perm_is : coffer.perm ≡ row.perm
  pub denotes : Denotes at (coffer_at words table row coffer) tree

abbrev pub AllDenoted : (ℕ → ℕ) → (ℕ → Bool) → World → Type 0
AllDenoted at drop w = (row : Row) → Contains w.base.table row → row.standing ≡ IsReady → HasWords at w.base.machine.bus.words w.base.table row ((w.replays drop).trees row.birth)

-- the table is the kernel's, and the words of each coffer that is ready denote its tree
pub record IsDenoted (w : World) : Type 0 where
  pub tabled : IsTabled w.base.machine.bus.words w.base.table
  pub ready : AllDenoted (value w.base.machine.bus.words) never w

-- the page of this address is of a coffer that is ready
pub record IsReadyAt (b : Base) (addr : ℕ) : Type 0 where
  pub row : Row
  pub among : Contains b.table row
  pub path_is : path_at b.machine.bus.words addr ≡ Some row.path
  pub ready : row.standing ≡ IsReady

-- the call that made this change has no reply yet
pub record IsUnanswered (b : Base) (c : Commit) : Type 0 where
  pub seat : Seat
  pub runs : b.seats c.thread ≡ Some seat
  pub committed : seat.committed ≡ Some c.position

-- no change came about later under a lease that the call held then
abbrev pub IsLastUnder : Base → Commit → Type 0
IsLastUnder b c =
    (later : Commit) (lease other : Lease) → Contains b.commits later → c.position < later.position → Contains c.held lease → Contains later.held other → lease.addr ≢ other.addr

-- What a crash that leaves these words drops: all before it is legal without that too, the words denote what users see then, and of
-- a coffer that is ready only changes are dropped that have no reply and on which no later one rests.
pub record Survives (opening : List ℕ) (trace : List Entry) (w : World) (places image : ℕ → ℕ) : Type 0 where
  pub kernel : (addr : ℕ) → addr / 4096 < kernel_pages (pages_of w.base.machine.bus.words) → image addr ≡ value w.base.machine.bus.words addr
  pub legal : Each stepped (IsLegalBy (dropped places w.base.commits)) (world_of opening) trace
  pub denotes : AllDenoted image (dropped places w.base.commits) w
  pub unanswered : (c : Commit) → Contains w.base.commits c → dropped places w.base.commits c.position ≡ true → IsReadyAt w.base c.addr → IsUnanswered w.base c
  pub last : (c : Commit) → Contains w.base.commits c → dropped places w.base.commits c.position ≡ true → IsReadyAt w.base c.addr → IsLastUnder w.base c

-- Whatever a crash would leave behind the last entry of a trace, the trace survives it.
abbrev pub IsCrashSafe : List ℕ → List Entry → Type 0
IsCrashSafe opening trace = (places image : ℕ → ℕ) → IsLeft (world_after opening trace).base places image → Survives opening trace (world_after opening trace) places image

-- each commit whose call has its reply is durable
abbrev pub IsAnsweredDurable : Base → Type 0
IsAnsweredDurable b = (c : Commit) → Contains b.commits c → IsReadyAt b c.addr → c.place ≤ floor b c.addr ⊎ IsUnanswered b c
