-- Refusals of a row, one after another.
use Rattle.std.proofs.Common.{◌≡◌, Bool, true, false, List, ◌∷◌, Option, Some, None, ap}
use Rattle.kern_model.specs.KernelCalls.{first_due, refused_where}
use Rattle.tr_types.specs.declared.kernel_call.KernAnswer.{KernAnswer}

-- one that isn't due tells nothing
pub skips : (x : Option KernAnswer) (xs : List (Option KernAnswer)) → x ≡ None → first_due (x ∷ xs) ≡ first_due xs
skips x xs none = ap (λ (o : Option KernAnswer). first_due (o ∷ xs)) none

-- one that is due is the first
pub stops : (x : Option KernAnswer) (xs : List (Option KernAnswer)) (refusal : KernAnswer) → x ≡ Some refusal → first_due (x ∷ xs) ≡ Some refusal
stops x xs refusal due = ap (λ (o : Option KernAnswer). first_due (o ∷ xs)) due

pub lets_pass : (test : Bool) (refusal : KernAnswer) → test ≡ false → refused_where test refusal ≡ None
lets_pass test refusal is = ap (λ (b : Bool). refused_where b refusal) is

pub refuses_so : (test : Bool) (refusal : KernAnswer) → test ≡ true → refused_where test refusal ≡ Some refusal
refuses_so test refusal is = ap (λ (b : Bool). refused_where b refusal) is
