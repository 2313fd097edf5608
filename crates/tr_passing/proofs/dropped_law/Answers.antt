use Rattle.tr_passing.proofs.Keeping.{dropped_allowed}
use Rattle.tr_passing.proofs.dropped_law.Goals as goal

pub returns : goal.returns
returns c = dropped_allowed
