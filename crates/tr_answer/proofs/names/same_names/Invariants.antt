use Rattle.std.proofs.Common.{◌≡◌, length, drop}
use Rattle.zo_model.specs.Tree as spec
use Rattle.tr_answer.proofs.names.same_names.Given as goal

abbrev pub invariant-loop-i : goal.invariant-loop-i
invariant-loop-i l = (length l.left ≡ length l.right) × (spec.same_names (drop l.i l.left) (drop l.i l.right) ≡ spec.same_names l.left l.right)
