use Rattle.pm_words.proofs.CrashLemmas.{crash_leaves}
use Rattle.pm_words.proofs.laws.crash_law.Goals as goal

pub returns : goal.returns
returns c = record { left = crash_leaves }
