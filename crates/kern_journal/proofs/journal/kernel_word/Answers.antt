use Rattle.std.proofs.Common.{◌∙◌}
use Rattle.pm_words.specs.Memory.{word_at}
use Rattle.kern_model.specs.Inner.{pair_at}
use Rattle.kern_model.proofs.EventLemmas.{read_named, read_other}
use Rattle.kern_journal.proofs.journal.kernel_word.Goals as goal
use Rattle.kern_journal.proofs.journal.kernel_word.Goals.{then-at-addr, else-at-addr}

pub loop-i-preserved : goal.loop-i-preserved
loop-i-preserved c = elim c.if-at-addr.branch [
  | then-at-addr w ↦ read_named (pair_at c.args.words.now) c.loop-i.i c.args.addr (word_at c.args.words.now c.args.addr).present c.if-at-addr.word c.pair-at.result c.pair-at.ensures w.if-at-addr.true w.word-is
  | else-at-addr w ↦ read_other (pair_at c.args.words.now) c.loop-i.i c.args.addr (word_at c.args.words.now c.args.addr).present c.if-at-addr.word c.pair-at.result c.pair-at.ensures w.if-at-addr.false (w.word-is ∙ c.loop-i.invariant)
]
