use Rattle.tr_passing.proofs.Orders.{tidy_more}
use Rattle.tr_passing.proofs.tidy_law.Goals as goal

pub returns : goal.returns
returns c = tidy_more
