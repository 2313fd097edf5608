use Rattle.std.proofs.Common.{◌≡◌, ◌++◌, take}
use Rattle.tr_text.specs.Text as spec
use Rattle.tr_text.proofs.words.append_names.Given as goal

abbrev pub invariant-loop-name : goal.invariant-loop-name
invariant-loop-name l = l.text.items ≡ l.initial.text.items ++ spec.then_words (take l.name-index l.names)
