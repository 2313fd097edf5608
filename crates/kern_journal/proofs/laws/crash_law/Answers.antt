use Rattle.kern_model.proofs.CrashLemmas.{crash_anywhere}
use Rattle.kern_journal.proofs.laws.crash_law.Goals as goal

pub returns : goal.returns
returns c = crash_anywhere
