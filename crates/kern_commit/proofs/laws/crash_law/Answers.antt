use Rattle.kern_commit.proofs.CrashLemmas.{commits_survive, others_kept}
use Rattle.kern_commit.proofs.laws.crash_law.Goals as goal

pub returns-clause-inside : goal.returns-clause-inside
returns-clause-inside c = commits_survive

pub returns-clause-others : goal.returns-clause-others
returns-clause-others c = others_kept
