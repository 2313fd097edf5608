use Rattle.std.proofs.Common.{◌≡◌, ◌++◌, map, take, drop}
use Rattle.tr_answer.specs.Contents.{with_content, content_closed}
use Rattle.tr_answer.proofs.coffer.close_all.Given as goal

abbrev pub invariant-loop-coffer : goal.invariant-loop-coffer
invariant-loop-coffer l =
    l.coffers ≡ map (with_content l.names (content_closed l.closed)) (take l.coffer-index l.initial.coffers) ++ drop l.coffer-index l.initial.coffers
