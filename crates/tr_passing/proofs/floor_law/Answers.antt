use Rattle.tr_passing.proofs.Rising.{floor_rises}
use Rattle.tr_passing.proofs.floor_law.Goals as goal

pub returns : goal.returns
returns c = floor_rises
