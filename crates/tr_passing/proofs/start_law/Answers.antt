use Rattle.tr_passing.proofs.Starting.{start}
use Rattle.tr_passing.proofs.start_law.Goals as goal

pub returns : goal.returns
returns c = start
