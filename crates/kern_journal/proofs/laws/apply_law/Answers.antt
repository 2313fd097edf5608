use Rattle.kern_model.proofs.FinishLemmas.{applied}
use Rattle.kern_journal.proofs.laws.apply_law.Goals as goal

pub returns : goal.returns
returns c = applied
