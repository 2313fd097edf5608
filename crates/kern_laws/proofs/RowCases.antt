-- Each row keeps the kernel's rules.
use Rattle.std.proofs.Common.{◌≡◌, ℕ, List, None}
use Rattle.pm_words.specs.Word.{Word}
use Rattle.kern_model.specs.KernelCalls.{Callers, first_due, row_of, IsCall}
use Rattle.kern_model.specs.Commits.{IsWorking, IsCaller, RowLaw}
use Rattle.tr_types.specs.declared.kernel_call.Kcall.{Kcall}
use Rattle.tr_types.specs.declared.kernel_call.Kcall.TheVariants as call
use Rattle.tr_types.specs.declared.kernel_call.Holder.{Holder}
use Rattle.kern_roots.specs.Laws.{PermLaw, StateLaw}
use Rattle.kern_laws.specs.Rows.{KeepsTables, TablesLaw}
use Rattle.kern_laws.proofs.FrameLemmas.{frame}
use Rattle.kern_laws.proofs.MapsKeep.{find_keeps, map_keeps, unmap_keeps}
use Rattle.kern_laws.proofs.EnlargeKeeps.{enlarge_keeps}
use Rattle.kern_laws.proofs.ShrinkKeeps.{shrink_keeps}
use Rattle.kern_laws.proofs.EntriesKeep.{mode_keeps, recover_keeps}

-- the row of a call keeps the tables
abbrev pub CallKeeps : Callers → List Word → List Holder → ℕ → ℕ → Kcall → Type 0
CallKeeps callers words holders thread now kcall =
    IsWorking words holders → IsCaller callers thread kcall → IsCall kcall → first_due (row_of callers words holders thread now kcall).refusals ≡ None
    → KeepsTables words (row_of callers words holders thread now kcall)

-- the rows by which coffers come and go
pub record MovesKeep : Type 0 where
  pub new : (callers : Callers) (words : List Word) (holders : List Holder) (thread now parent : ℕ) (path : List ℕ) (kind mode : ℕ) (link : ℕ × ℕ × ℕ) (guard : ℕ × ℕ)
      → CallKeeps callers words holders thread now (call.New parent path kind mode link guard)
  pub delete : (callers : Callers) (words : List Word) (holders : List Holder) (thread now id parent : ℕ) (link : ℕ × ℕ × ℕ) (guard : ℕ × ℕ)
      → CallKeeps callers words holders thread now (call.Delete id parent link guard)
  pub split : (callers : Callers) (words : List Word) (holders : List Holder) (thread now id : ℕ) (path pages : List ℕ) (mode : ℕ) (link : ℕ × ℕ × ℕ) (guard : ℕ × ℕ)
      → CallKeeps callers words holders thread now (call.Split id path pages mode link guard)
  pub merge : (callers : Callers) (words : List Word) (holders : List Holder) (thread now child parent : ℕ) (pages : List ℕ) (link : ℕ × ℕ × ℕ) (guard : ℕ × ℕ)
      → CallKeeps callers words holders thread now (call.Merge child parent pages link guard)

pub call_keeps : PermLaw → StateLaw → MovesKeep → TablesLaw
call_keeps perm state moves callers words holders thread now (call.Find path also) = λ w caller is due. find_keeps words holders path also w
call_keeps perm state moves callers words holders thread now (call.Map path right exclusive) = λ w caller is due. map_keeps callers words holders thread path right exclusive w
call_keeps perm state moves callers words holders thread now (call.Unmap id) = λ w caller is due. unmap_keeps words holders thread id w
call_keeps perm state moves callers words holders thread now (call.New parent path kind mode link guard) = moves.new callers words holders thread now parent path kind mode link guard
call_keeps perm state moves callers words holders thread now (call.Delete id parent link guard) = moves.delete callers words holders thread now id parent link guard
call_keeps perm state moves callers words holders thread now (call.Enlarge id count) = enlarge_keeps callers words holders thread now id count
call_keeps perm state moves callers words holders thread now (call.Shrink id pages guard) = shrink_keeps callers words holders thread now id pages guard
call_keeps perm state moves callers words holders thread now (call.Split id path pages mode link guard) = moves.split callers words holders thread now id path pages mode link guard
call_keeps perm state moves callers words holders thread now (call.Merge child parent pages link guard) = moves.merge callers words holders thread now child parent pages link guard
call_keeps perm state moves callers words holders thread now (call.Mode id mode) = mode_keeps perm callers words holders thread now id mode
call_keeps perm state moves callers words holders thread now (call.Recover id ready) = recover_keeps state callers words holders thread now id ready

pub rows_keep : TablesLaw → RowLaw
rows_keep tables callers words holders thread now kcall w caller is due =
    frame words holders (row_of callers words holders thread now kcall) w (tables callers words holders thread now kcall w caller is due)
