-- What is planned for a call: the refusal that its row gives, or what the row does.
use Rattle.std.specs.Prelude.{◌≡◌, ℕ, ◌≤◌, List, length, Some, None, Result, Ok, Err, ⊤}
use Rattle.kern_model.specs.KernelCalls.{Row, first_due}
use Rattle.tr_types.specs.declared.kernel_call.KernAnswer.{KernAnswer}
use Rattle.tr_types.specs.declared.kernel_call.KernAnswer.TheVariants.{NoMemory}

-- what a call does where it isn't refused: its answer, the pages that it gives, and the pairs that it stores
pub record Plan : Type 0 where
  pub answer : KernAnswer
  pub granted : List ℕ
  pub pairs : List (ℕ × ℕ)

-- The plan is the row's, where none of its refusals is due. At most 1,024 pages are given.
pub record IsPlanOf (row : Row) (plan : Plan) : Type 0 where
  pub due : first_due row.refusals ≡ None
  pub answer : plan.answer ≡ row.answer
  pub granted : plan.granted ≡ row.granted
  pub pairs : plan.pairs ≡ row.pairs
  pub few : length plan.granted ≤ 1024

-- a plan, or the first refusal that is due; memory may run out
abbrev pub Plans : Row → Result Plan KernAnswer → Type 0
Plans row (Ok plan) = IsPlanOf row plan
Plans row (Err NoMemory) = ⊤
Plans row (Err refusal) = first_due row.refusals ≡ Some refusal
