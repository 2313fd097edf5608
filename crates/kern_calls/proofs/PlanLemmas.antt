-- What is planned, for the call as it came.
use Rattle.std.proofs.Common.{◌≡◌, ℕ, List, Result, sym, subst, ap}
use Rattle.std.specs.Prelude.{IsSome}
use Rattle.pm_words.specs.Word.{Word}
use Rattle.kern_model.specs.Rights.{process_of}
use Rattle.kern_model.specs.KernelCalls.{Callers, row_of, cred_of}
use Rattle.kern_model.specs.Commits.{IsCaller, IsFit}
use Rattle.tr_types.specs.declared.kernel_call.Kcall.TheVariants as call
use Rattle.tr_types.specs.declared.kernel_call.Holder.{Holder}
use Rattle.tr_types.specs.declared.kernel_call.Kcall.{Kcall}
use Rattle.tr_types.specs.declared.kernel_call.KernAnswer.{KernAnswer}
use Rattle.tr_types.specs.declared.permission.Cred.{Cred}
use Rattle.kern_plans.specs.Asked.{AskedView, HasCred}
use Rattle.kern_plans.specs.Plans.{Plan, Plans}
use Rattle.kern_calls.specs.Calls.{KernelView, MayCall}
use Rattle.kern_calls.specs.Steps.{IsComing, IsGoing}

module _ (words : List Word) (inside kernel : KernelView) (cred : Cred) (thread now : ℕ) (asked : AskedView) (view : inside ≡ kernel)
    (asks : asked ≡ record { words = words; holders = inside.holders; cred = cred; thread = thread; tick = now }) where
  pub planned : (was is : Kcall) (result : Result Plan KernAnswer) → was ≡ is → Plans (row_of kernel.callers asked.words asked.holders asked.thread asked.tick is) result
      → Plans (row_of kernel.callers words kernel.holders thread now was) result
  planned was is result same plans =
      subst (λ (kcall : Kcall). Plans (row_of kernel.callers words kernel.holders thread now kcall) result) (sym same)
      (subst (λ (holders : List Holder). Plans (row_of kernel.callers words holders thread now is) result) (ap (λ (k : KernelView). k.holders) view)
      (subst (λ (a : AskedView). Plans (row_of kernel.callers a.words a.holders a.thread a.tick is) result) asks plans))

  pub has_cred : IsSome (process_of kernel.callers.threads thread) → (IsSome (process_of kernel.callers.threads thread) → cred ≡ cred_of kernel.callers thread) → HasCred kernel.callers asked
  has_cred started is = subst (λ (a : AskedView). HasCred kernel.callers a) (sym asks) (sym (is started))

-- by whom a call comes

pub coming_started : (callers : Callers) (thread : ℕ) (kcall : Kcall) → IsComing kcall → MayCall callers thread kcall → IsSome (process_of callers.threads thread)
coming_started callers thread (call.Find path also) is may = absurd is
coming_started callers thread (call.Map path right exclusive) is may = absurd is
coming_started callers thread (call.Unmap id) is may = absurd is
coming_started callers thread (call.New parent path kind mode link guard) is may = may
coming_started callers thread (call.Delete id parent link guard) is may = absurd is
coming_started callers thread (call.Enlarge id count) is may = absurd is
coming_started callers thread (call.Shrink id pages guard) is may = absurd is
coming_started callers thread (call.Split id path pages mode link guard) is may = may
coming_started callers thread (call.Merge child parent pages link guard) is may = absurd is
coming_started callers thread (call.Mode id mode) is may = absurd is
coming_started callers thread (call.Recover id ready) is may = absurd is

pub going_started : (callers : Callers) (thread : ℕ) (kcall : Kcall) → IsGoing kcall → MayCall callers thread kcall → IsSome (process_of callers.threads thread)
going_started callers thread (call.Find path also) is may = absurd is
going_started callers thread (call.Map path right exclusive) is may = absurd is
going_started callers thread (call.Unmap id) is may = absurd is
going_started callers thread (call.New parent path kind mode link guard) is may = absurd is
going_started callers thread (call.Delete id parent link guard) is may = may
going_started callers thread (call.Enlarge id count) is may = absurd is
going_started callers thread (call.Shrink id pages guard) is may = absurd is
going_started callers thread (call.Split id path pages mode link guard) is may = absurd is
going_started callers thread (call.Merge child parent pages link guard) is may = may
going_started callers thread (call.Mode id mode) is may = absurd is
going_started callers thread (call.Recover id ready) is may = absurd is

pub caller_is : (callers : Callers) (thread : ℕ) (kcall : Kcall) → MayCall callers thread kcall → (IsSome (process_of callers.threads thread) → IsFit (cred_of callers thread)) → IsCaller callers thread kcall
caller_is callers thread (call.Find path also) may fit = (may, fit may)
caller_is callers thread (call.Map path right exclusive) may fit = (may, fit may)
caller_is callers thread (call.Unmap id) may fit = (may, fit may)
caller_is callers thread (call.New parent path kind mode link guard) may fit = (may, fit may)
caller_is callers thread (call.Delete id parent link guard) may fit = (may, fit may)
caller_is callers thread (call.Enlarge id count) may fit = (may, fit may)
caller_is callers thread (call.Shrink id pages guard) may fit = (may, fit may)
caller_is callers thread (call.Split id path pages mode link guard) may fit = (may, fit may)
caller_is callers thread (call.Merge child parent pages link guard) may fit = (may, fit may)
caller_is callers thread (call.Mode id mode) may fit = (may, fit may)
caller_is callers thread (call.Recover id ready) may fit = may
