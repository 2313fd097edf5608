use Rattle.std.proofs.Common.{◌≡◌, ◌+◌, ◌≤◌, drop}
use Rattle.zo_model.specs.Coffers.{coffers_under}
use Rattle.tr_answer.proofs.coffer.coffers_under.Given as goal

abbrev pub invariant-loop-coffer : goal.invariant-loop-coffer
invariant-loop-coffer l =
    (l.count ≤ l.coffer-index) × (l.count + coffers_under (drop l.coffer-index l.coffers) l.names ≡ coffers_under l.coffers l.names)
