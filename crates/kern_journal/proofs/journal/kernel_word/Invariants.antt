use Rattle.std.proofs.Common.{◌≡◌, map}
use Rattle.std.specs.List.{range_with_len}
use Rattle.pm_words.specs.Memory.{word_at}
use Rattle.kern_model.specs.Inner.{pair_at, laid_over}
use Rattle.kern_journal.proofs.journal.kernel_word.Given as goal

abbrev pub invariant-loop-i : goal.invariant-loop-i
invariant-loop-i l = l.word ≡ laid_over (map (pair_at l.words) (range_with_len 0 l.i)) l.addr (word_at l.words l.addr).present
