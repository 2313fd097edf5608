use Rattle.tr_passing.proofs.Living.{live_more}
use Rattle.tr_passing.proofs.live_law.Goals as goal

pub returns : goal.returns
returns c = live_more
