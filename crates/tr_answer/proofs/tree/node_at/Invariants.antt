use Rattle.std.proofs.Common.{◌≡◌, drop}
use Rattle.zo_model.specs.Tree as spec
use Rattle.tr_answer.proofs.tree.node_at.Given as goal

abbrev pub invariant-loop-member : goal.invariant-loop-member
invariant-loop-member l = spec.node_at (drop l.member-index l.members) l.names ≡ spec.node_at l.members l.names
