use Rattle.std.proofs.Common.{◌≡◌, [], take, drop}
use Rattle.zo_model.specs.Answers as answers
use Rattle.tr_answer.proofs.tree.walk.Given as goal

abbrev pub invariant-loop-i : goal.invariant-loop-i
invariant-loop-i l = answers.walk l.members (take l.i l.names) (drop l.i l.names) ≡ answers.walk l.members [] l.names
