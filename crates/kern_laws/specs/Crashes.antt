-- What a crash inside of a kernel call leaves, once the committed pairs are finished.
use Rattle.std.specs.Prelude.{◌≡◌, ◌⊎◌, ℕ, ◌/◌, ◌<◌, List, [], length, take, None, Contains}
use Rattle.zo_layout.specs.Layout.{kernel_pages}
use Rattle.pm_words.specs.Word.{Word, crash_list}
use Rattle.pm_words.specs.Memory.{word_at}
use Rattle.pm_words.specs.Crash.{MayLeave}
use Rattle.kern_model.specs.KernelView.{pages_of}
use Rattle.kern_model.specs.Journal.{IsHome, kernel_word}
use Rattle.kern_model.specs.Kernel.{read_after}
use Rattle.kern_model.specs.Inner.{made_all, redo_events}
use Rattle.kern_model.specs.JournalLaws.{MayCome}
use Rattle.kern_model.specs.KernelCalls.{Callers, Row, row_of, first_due, row_events, IsCall}
use Rattle.kern_model.specs.Commits.{IsWorking, IsCaller, HasSteadyTables}
use Rattle.tr_types.specs.declared.kernel_call.Kcall.{Kcall}
use Rattle.tr_types.specs.declared.kernel_call.Holder.{Holder}
use Rattle.kern_commit.specs.Crashes.{IsTaken, Survives}

-- A call that isn't refused survives a crash when some number of its events are made, and any number of crashes inside of finishing
-- what is committed: all of it is there then, or none, as the first crash left word 0 of the journal; and all, where the call had made all its
-- events.
abbrev pub CallCrashLaw : Type 0
CallCrashLaw =
    (callers : Callers) (words : List Word) (holders : List Holder) (thread now : ℕ) (kcall : Kcall) → IsWorking words holders → IsCaller callers thread kcall → IsCall kcall
    → first_due (row_of callers words holders thread now kcall).refusals ≡ None
    → (count : ℕ) (cuts : List ℕ) (left after : List Word) → MayLeave (made_all (take count (row_events (row_of callers words holders thread now kcall))) words) left → MayCome cuts left after
    → Survives (row_of callers words holders thread now kcall).granted (row_of callers words holders thread now kcall).pairs words count left after

-- the kernel reads this in its pages, but for the journal
abbrev pub ReadsTables : List Word → (ℕ → ℕ) → Type 0
ReadsTables words at = (addr : ℕ) → IsHome (length words) addr → addr / 4096 < kernel_pages (pages_of words) → kernel_word words addr ≡ at addr

-- After such crashes, and a whole `redo`: the kernel reads what it reads after the call where the first crash came too late to undo it, else
-- what it read before; no rule of its pages fails, and a crash changes no word of them.
pub record KernelSurvives (row : Row) (words : List Word) (count : ℕ) (left new : List Word) : Type 0 where
  pub whole : IsTaken row.granted row.pairs count left → ReadsTables new (read_after row.pairs (kernel_word words))
  pub none : (IsTaken row.granted row.pairs count left → ⊥) → ReadsTables new (kernel_word words)
  pub works : IsWorking new []
  pub steady : HasSteadyTables new

abbrev pub KernelCrashLaw : Type 0
KernelCrashLaw =
    (callers : Callers) (words : List Word) (holders : List Holder) (thread now : ℕ) (kcall : Kcall) → IsWorking words holders → IsCaller callers thread kcall → IsCall kcall
    → first_due (row_of callers words holders thread now kcall).refusals ≡ None → HasSteadyTables words
    → (count : ℕ) (cuts : List ℕ) (left after : List Word) → MayLeave (made_all (take count (row_events (row_of callers words holders thread now kcall))) words) left → MayCome cuts left after
    → KernelSurvives (row_of callers words holders thread now kcall) words count left (made_all (redo_events after) after)

-- a whole call leaves the kernel's pages such that a crash changes no word of them
abbrev pub SteadyLaw : Type 0
SteadyLaw =
    (callers : Callers) (words : List Word) (holders : List Holder) (thread now : ℕ) (kcall : Kcall) → IsWorking words holders → IsCaller callers thread kcall → IsCall kcall
    → first_due (row_of callers words holders thread now kcall).refusals ≡ None → HasSteadyTables words → HasSteadyTables (made_all (row_events (row_of callers words holders thread now kcall)) words)
