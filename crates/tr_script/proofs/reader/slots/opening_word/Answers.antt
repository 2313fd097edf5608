use Rattle.tr_script.proofs.WordLemmas.{no_opening}
use Rattle.tr_script.proofs.reader.slots.opening_word.Goals as goal

pub returns-in_err-first-clause-none : goal.returns-in_err-first-clause-none
returns-in_err-first-clause-none c = rw c.from_residual.ensures (no_opening c.args.seen.now c.args.word.now c.in_err-first.ensures.none)
