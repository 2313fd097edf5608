use Rattle.std.proofs.Common.{◌≡◌, ◌++◌, map}
use Rattle.std.specs.List.{range_with_len}
use Rattle.kern_roots.proofs.ChangingPairs.{text_word}
use Rattle.kern_roots.proofs.changing.pairs.entry_words.Given as goal

abbrev pub invariant-loop-i : goal.invariant-loop-i
invariant-loop-i l = l.ws.items ≡ l.initial.ws.items ++ map (text_word l.path) (range_with_len 0 l.i)
