use Rattle.std.proofs.Common.{◌≡◌, take}
use Rattle.kern_model.specs.Inner.{journal_words}
use Rattle.kern_journal.proofs.events.journal_words.Given as goal

abbrev pub invariant-loop-i : goal.invariant-loop-i
invariant-loop-i l = l.words.items ≡ journal_words 0 (take l.i l.pairs)
