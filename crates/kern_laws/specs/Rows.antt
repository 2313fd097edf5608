-- What a row leaves of the kernel's tables, before it is committed.
use Rattle.std.specs.Prelude.{◌≡◌, ◌≢◌, ℕ, List, All, true, None}
use Rattle.zo_layout.specs.Layout.{signature_word, version_word, count_word}
use Rattle.pm_words.specs.Word.{Word}
use Rattle.kern_model.specs.KernelView.{pages_of}
use Rattle.kern_model.specs.Journal.{kernel_word}
use Rattle.kern_model.specs.Kernel.{read_after}
use Rattle.kern_model.specs.KernelTables.{is_id, stands_in}
use Rattle.kern_model.specs.KernelCalls.{Callers, Row, row_of, first_due, IsCall}
use Rattle.kern_model.specs.Commits.{MayCommit, IsWorking, IsCaller}
use Rattle.tr_types.specs.declared.kernel_call.Kcall.{Kcall}
use Rattle.tr_types.specs.declared.kernel_call.Holder.{Holder}
use Rattle.kern_owner.specs.Laws.{SameTables, TablesPass}

-- The row's pages and pairs can be committed, no pair is for what the superblock says, and wherever the tables read as they did
-- with the pairs laid over them, no rule of theirs fails and each coffer that is held then is there.
pub record KeepsTables (words : List Word) (row : Row) : Type 0 where
  pub may : MayCommit words row.granted row.pairs
  pub spares : All (λ p. (p.0 ≢ signature_word) × (p.0 ≢ version_word) × (p.0 ≢ count_word)) row.pairs
  pub tables : (after : ℕ → ℕ) → SameTables (pages_of words) (read_after row.pairs (kernel_word words)) after → TablesPass (pages_of words) after
  pub ids : All (λ h. is_id h.id ≡ true) row.holders
  pub held : (after : ℕ → ℕ) → SameTables (pages_of words) (read_after row.pairs (kernel_word words)) after → All (λ h. stands_in (pages_of words) after h.id ≡ true) row.holders

-- the row of a call that isn't refused
abbrev pub TablesLaw : Type 0
TablesLaw =
    (callers : Callers) (words : List Word) (holders : List Holder) (thread now : ℕ) (kcall : Kcall) → IsWorking words holders → IsCaller callers thread kcall → IsCall kcall
    → first_due (row_of callers words holders thread now kcall).refusals ≡ None → KeepsTables words (row_of callers words holders thread now kcall)
