use Rattle.tr_text.proofs.LawLemmas.{full_texts_tell}
use Rattle.tr_text.proofs.law.full_texts_law.Goals as goal

pub returns : goal.returns
returns c = full_texts_tell
