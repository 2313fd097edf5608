use Rattle.tr_passing.proofs.Replies.{point_same}
use Rattle.tr_passing.proofs.sure_point.Goals as goal

pub returns : goal.returns
returns c = point_same
