use Rattle.tr_text.proofs.TextLemmas.{kept_on}
use Rattle.tr_text.proofs.words.append_more.Goals as goal

pub returns-in_err-append_behind-clause-kept : goal.returns-in_err-append_behind-clause-kept
returns-in_err-append_behind-clause-kept c = kept_on _ _ _ _ c.loop-number.invariant c.append_behind.ensures.kept
