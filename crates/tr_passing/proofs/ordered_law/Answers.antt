use Rattle.tr_passing.proofs.Ordering.{ordered_more}
use Rattle.tr_passing.proofs.ordered_law.Goals as goal

pub returns : goal.returns
returns c = ordered_more
