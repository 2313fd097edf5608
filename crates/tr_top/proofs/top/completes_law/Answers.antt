use Rattle.tr_top.proofs.Completes.{completes}
use Rattle.tr_top.proofs.top.completes_law.Goals as goal

pub returns : goal.returns
returns c = completes
