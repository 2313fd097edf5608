-- What callers see of a kernel, when it stands over a memory, and what its calls answer and leave.
use Rattle.std.specs.Prelude.{◌≡◌, ◌⊎◌, ℕ, List, [], ◌∷◌, ◌++◌, Bool, ◌==◌, IsSome}
use Rattle.std.specs.List.{list_any}
use Rattle.pm_words.specs.Word.{Word}
use Rattle.kern_model.specs.Rights.{process_of}
use Rattle.kern_model.specs.Inner.{IsCut}
use Rattle.kern_model.specs.KernelCalls.{Callers, recovery_number, answer_of, inner_of, words_after, holders_after}
use Rattle.kern_model.specs.Commits.{IsWorking, HasSteadyTables}
use Rattle.tr_types.specs.declared.kernel_call.Kcall.{Kcall}
use Rattle.tr_types.specs.declared.kernel_call.Kcall.TheVariants as call
use Rattle.tr_types.specs.declared.kernel_call.KernAnswer.{KernAnswer}
use Rattle.tr_types.specs.declared.kernel_call.KernAnswer.TheVariants.{NoMemory}
use Rattle.tr_types.specs.declared.kernel_call.Holder.{Holder}
use Rattle.tr_types.specs.declared.permission.Cred.{Cred}
use Rattle.page_rights.specs.Tables.{without_process}
use Rattle.kern_pages.specs.Owners.{owners_of}

-- who was started, who holds which coffer, and whose each page is
pub record KernelView : Type 0 where
  pub callers : Callers
  pub holders : List Holder
  pub owners : List ℕ

-- it knows whose each page of a memory is
abbrev pub KnowsOwners : KernelView → List Word → Type 0
KnowsOwners kernel words = kernel.owners ≡ owners_of words

-- The kernel stands over a memory: it works there, and knows whose each page is.
pub record IsMounted (kernel : KernelView) (words : List Word) : Type 0 where
  pub working : IsWorking words kernel.holders
  pub told : KnowsOwners kernel words

-- The rest of the kernel's invariant: a crash can change nothing of its pages. It comes with durable words and with a new image, and is kept
-- from then on; where it doesn't hold, nothing is said.
abbrev pub StaysSteady : List Word → List Word → Type 0
StaysSteady old new = HasSteadyTables old → HasSteadyTables new

-- a call is that of a thread that was started, or the recovery's own
abbrev pub MayCall : Callers → ℕ → Kcall → Type 0
MayCall callers thread (call.Recover id ready) = (thread ≡ recovery_number) ⊎ IsSome (process_of callers.threads thread)
MayCall callers thread kcall = IsSome (process_of callers.threads thread)

-- A call was done: its answer, the memory and the holders are as its row says, and the kernel's invariant stands over the memory still.
pub record IsDone (old : KernelView) (words : List Word) (thread now : ℕ) (kcall : Kcall) (answer : KernAnswer) (new : KernelView) (after : List Word) : Type 0 where
  pub answers : answer ≡ answer_of old.callers words old.holders thread now kcall
  pub memory : after ≡ words_after old.callers words old.holders thread now kcall
  pub callers : new.callers ≡ old.callers
  pub holders : new.holders ≡ holders_after old.callers words old.holders thread now kcall
  pub mounted : IsMounted new after
  pub steady : StaysSteady words after

-- Where memory runs out, the memory is as after some number of the call's inner steps, and nothing is said of the kernel.
abbrev pub Answered : KernelView → List Word → ℕ → ℕ → Kcall → KernAnswer → KernelView → List Word → Type 0
Answered old words thread now kcall NoMemory new after = IsCut (inner_of old.callers words old.holders thread now kcall) words after
Answered old words thread now kcall answer new after = IsDone old words thread now kcall answer new after

-- Who is started, and whose maps end.

abbrev pub with_process : ℕ → Cred → KernelView → KernelView
with_process process cred kernel = record kernel { callers = record { processes = kernel.callers.processes ++ (process, cred) ∷ []; threads = kernel.callers.threads } }

abbrev pub with_thread : ℕ → ℕ → KernelView → KernelView
with_thread thread process kernel = record kernel { callers = record { processes = kernel.callers.processes; threads = kernel.callers.threads ++ (thread, process) ∷ [] } }

abbrev pub without_maps : ℕ → KernelView → KernelView
without_maps process kernel = record kernel { holders = without_process kernel.callers.threads process kernel.holders }

abbrev pub without_any_maps : KernelView → KernelView
without_any_maps kernel = record kernel { holders = [] }

-- the process was started
abbrev pub has_process : Callers → ℕ → Bool
has_process callers process = list_any (λ p. p.0 == process) callers.processes
