-- What a kernel call of a thread leaves.
use Rattle.std.proofs.Common.{◌≡◌, ℕ, List, Bool, false, refl, inr, ◌∙◌}
use Rattle.std.specs.Prelude.{IsSome}
use Rattle.pm_words.specs.Word.{Word}
use Rattle.kern_model.specs.Rights.{process_of}
use Rattle.kern_model.specs.KernelCalls.{Callers}
use Rattle.tr_types.specs.declared.kernel_call.Kcall.{Kcall}
use Rattle.tr_types.specs.declared.kernel_call.Kcall.TheVariants as call
use Rattle.tr_types.specs.declared.kernel_call.KernAnswer.{KernAnswer}
use Rattle.tr_types.specs.declared.kernel_call.KernAnswer.TheVariants.{NoMemory}
use Rattle.kern_calls.specs.Calls.{KernelView, MayCall, Answered, IsDone}
use Rattle.tr_types.specs.declared.action.Action.TheVariants.{Kernel}
use Rattle.tr_types.specs.declared.action.Answer.TheVariants.{Kern}
use Rattle.bus_machine.specs.Ties.{ended_by}
use Rattle.bus_machine.proofs.Viewed.{view_of}
use Rattle.bus_machine.specs.Steps.{Does}

-- a thread that was started may call
pub may_call : (callers : Callers) (thread : ℕ) (kcall : Kcall) → IsSome (process_of callers.threads thread) → MayCall callers thread kcall
may_call callers thread (call.Recover id ready) some = inr some
may_call callers thread kcall some = some

-- memory hasn't run out
pub done_by : (old : KernelView) (words : List Word) (thread now : ℕ) (kcall : Kcall) (answer : KernAnswer) (new : KernelView) (after : List Word)
    → (answer ≡ NoMemory → ⊥) → Answered old words thread now kcall answer new after → IsDone old words thread now kcall answer new after
done_by old words thread now kcall NoMemory new after some answered = absurd (some refl)
done_by old words thread now kcall answer new after some answered = answered

-- as a step of the bus
pub does_call : (words : List Word) (kernel : KernelView) (pkrus : List ℕ) (down failed : Bool) (thread now : ℕ) (kcall : Kcall) (answer told : KernAnswer) → told ≡ answer → (new : KernelView) (after : List Word)
    → IsDone kernel words thread now kcall answer new after
    → Does (view_of words kernel pkrus down failed) (view_of after new pkrus down failed) thread now (Kernel kcall) (Kern told)
does_call words kernel pkrus down failed thread now kcall answer told same new after done = record {
  answers = same ∙ done.answers;
  after = λ i. record {
    bus = record { words = done.memory i; processes = (done.callers i).processes; threads = (done.callers i).threads; holders = done.holders i; pkrus = pkrus };
    ended = ended_by down (done.callers i).processes;
    down = down;
    failed = failed;
  };
}
