use Rattle.tr_script.specs.Places.{StrayThread}
use Rattle.tr_script.proofs.ReadingLemmas.{passed}
use Rattle.tr_script.proofs.reader.slots.stray_thread.Goals as goal

pub returns-in_err-word-clause-bad : goal.returns-in_err-word-clause-bad
returns-in_err-word-clause-bad c = passed c.from_residual.result c.in_err-word.field-0.0 c.from_residual.ensures.1 (λ place bad. bad c.args.seen.now StrayThread) c.in_err-word.ensures.bad
