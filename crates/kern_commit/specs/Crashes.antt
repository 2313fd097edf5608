-- What a crash inside of a commit leaves, once the committed pairs are finished.
use Rattle.std.specs.Prelude.{◌≡◌, ◌⊎◌, ℕ, ◌/◌, ◌≤◌, List, ◌++◌, length, take, All, Contains}
use Rattle.zo_layout.specs.Layout.{committed_word}
use Rattle.pm_words.specs.Word.{Word, crash_list}
use Rattle.pm_words.specs.Memory.{word_at}
use Rattle.pm_words.specs.Crash.{MayLeave}
use Rattle.kern_model.specs.Journal.{IsHome, IsReadable, laid_over}
use Rattle.kern_model.specs.Inner.{made_all, redo_events}
use Rattle.kern_model.specs.JournalLaws.{IsDurable, IsUnnamed, Keeps, MayCome, steps_to_stored, IsThrough}
use Rattle.kern_model.specs.KernelCalls.{in_order, zero_events, stored_events}
use Rattle.kern_model.specs.Commits.{MayCommit, present_at}

-- The whole is there: each pair is durable, and the pages are zeroed, but for what a pair stores in them.
pub record IsThere (granted : List ℕ) (pairs : List (ℕ × ℕ)) (new : List Word) : Type 0 where
  pub stored : All (λ p. IsDurable new p.0 (laid_over pairs p.0 p.1)) pairs
  pub zeroed : (addr : ℕ) → IsHome (length new) addr → Contains granted (addr / 4096) → present_at new addr ≡ laid_over pairs addr 0

-- A word has a value that a crash might have left in it before; or it is 0 already, in one of the pages, which were nobody's.
abbrev pub IsAsBefore : List ℕ → List Word → List Word → ℕ → Type 0
IsAsBefore granted old new addr = Contains (crash_list (word_at old addr)) (present_at new addr) ⊎ (Contains granted (addr / 4096) × (present_at new addr ≡ 0))

-- The crash came too late to undo the commit, of whose steps `count` were made: it leaves word 0 of the journal other than 0, or all steps
-- but those that store 0 there again were made.
abbrev pub IsTaken : List ℕ → List (ℕ × ℕ) → ℕ → List Word → Type 0
IsTaken granted pairs count left = IsThrough (zero_events granted ++ steps_to_stored (in_order pairs)) count left

-- The whole is there where the crash came too late, else each word that a pair names is as before. Every other word outside the journal is as
-- before, and nothing is committed.
pub record IsWholeOrNone (granted : List ℕ) (pairs : List (ℕ × ℕ)) (count : ℕ) (left old new : List Word) : Type 0 where
  pub len : length new ≡ length old
  pub idle : IsDurable new committed_word 0
  pub whole : IsTaken granted pairs count left → IsThere granted pairs new
  pub none : (IsTaken granted pairs count left → ⊥) → All (λ p. IsAsBefore granted old new p.0) pairs
  pub others : (addr : ℕ) → IsHome (length old) addr → IsUnnamed pairs addr → IsAsBefore granted old new addr

-- A crash when some number of a commit's events are made, then any number of crashes inside of `redo`: what is left can be finished, and
-- a whole `redo` gives the whole or none, as the first crash left word 0 of the journal; and the whole, where all events were made.
pub record Survives (granted : List ℕ) (pairs : List (ℕ × ℕ)) (old : List Word) (count : ℕ) (left after : List Word) : Type 0 where
  pub readable : IsReadable after
  pub whole_or_none : IsWholeOrNone granted pairs count left old (made_all (redo_events after) after)
  pub at_end : length (zero_events granted ++ stored_events pairs) ≤ count → IsThere granted pairs (made_all (redo_events after) after)

abbrev pub CommitCrashLaw : Type 0
CommitCrashLaw =
    (words : List Word) (granted : List ℕ) (pairs : List (ℕ × ℕ)) (count : ℕ) (cuts : List ℕ) (left after : List Word) → MayCommit words granted pairs
    → MayLeave (made_all (take count (zero_events granted ++ stored_events pairs)) words) left → MayCome cuts left after → Survives granted pairs words count left after

-- A whole commit leaves every other word outside the journal its value, and a crash leaves nothing there that it mightn't have left before.
abbrev pub OthersLaw : Type 0
OthersLaw =
    (words : List Word) (granted : List ℕ) (pairs : List (ℕ × ℕ)) (addr : ℕ) → MayCommit words granted pairs → IsHome (length words) addr → (Contains granted (addr / 4096) → ⊥) → IsUnnamed pairs addr
    → Keeps (word_at words addr) (word_at (made_all (zero_events granted ++ stored_events pairs) words) addr)
