use Rattle.std.proofs.Common.{◌≡◌, take}
use Rattle.tr_answer.proofs.Texts.{slashed}
use Rattle.tr_answer.proofs.names.path_text.Given as goal

abbrev pub invariant-loop-name : goal.invariant-loop-name
invariant-loop-name l = l.text.items ≡ slashed (take l.name-index l.names)
