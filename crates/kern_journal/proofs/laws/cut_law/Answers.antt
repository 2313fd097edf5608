use Rattle.kern_model.proofs.CrashLemmas.{cut_anywhere}
use Rattle.kern_journal.proofs.laws.cut_law.Goals as goal

pub returns : goal.returns
returns c = cut_anywhere
