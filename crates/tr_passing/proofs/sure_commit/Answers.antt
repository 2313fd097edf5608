use Rattle.tr_passing.proofs.Replies.{commit_same}
use Rattle.tr_passing.proofs.sure_commit.Goals as goal

pub returns : goal.returns
returns c = commit_same
