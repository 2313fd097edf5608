use Rattle.std.proofs.Common.{◌<◌, ℕ}
use Rattle.zo_layout.specs.Layout.{pair_address}
use Rattle.pm_words.specs.Memory.{word_at}
use Rattle.kern_view.specs.RuleParts.{IsTarget}
use Rattle.kern_view.proofs.superblock.is_finishable.Given as goal

abbrev pub invariant-loop-i : goal.invariant-loop-i
invariant-loop-i l = (k : ℕ) → k < l.i → IsTarget l.words (word_at l.words (pair_address k)).present
