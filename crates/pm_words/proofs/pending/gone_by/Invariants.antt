use Rattle.std.proofs.Common.{◌≡◌, drop}
use Rattle.pm_words.specs.View.{look}
use Rattle.pm_words.proofs.pending.gone_by.Given as goal

abbrev pub invariant-loop-mark : goal.invariant-loop-mark
invariant-loop-mark l = look (drop l.mark-index l.marks) l.thread ≡ look l.marks l.thread
