use Rattle.kern_commit.proofs.CommitLemmas.{committed_is}
use Rattle.kern_commit.proofs.laws.commit_law.Goals as goal

pub returns : goal.returns
returns c = committed_is
