use Rattle.tr_text.proofs.LawLemmas.{full_text_tells}
use Rattle.tr_text.proofs.law.full_text_law.Goals as goal

pub returns : goal.returns
returns c = full_text_tells
