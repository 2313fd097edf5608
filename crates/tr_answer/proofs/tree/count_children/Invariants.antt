use Rattle.std.proofs.Common.{◌≡◌, ◌+◌, ◌≤◌, length, drop, filter}
use Rattle.zo_model.specs.Tree.{is_child}
use Rattle.tr_answer.proofs.tree.count_children.Given as goal

abbrev pub invariant-loop-member : goal.invariant-loop-member
invariant-loop-member l =
    (l.count ≤ l.member-index)
    × (l.count + length (filter (is_child l.names) (drop l.member-index l.members)) ≡ length (filter (is_child l.names) l.members))
