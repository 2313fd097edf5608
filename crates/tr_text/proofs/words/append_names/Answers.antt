use Rattle.tr_text.proofs.TextLemmas.{kept_on}
use Rattle.tr_text.proofs.words.append_names.Goals as goal

pub returns-in_err-append_word-clause-kept : goal.returns-in_err-append_word-clause-kept
returns-in_err-append_word-clause-kept c = kept_on _ _ _ _ c.loop-name.invariant c.append_word.ensures.kept
