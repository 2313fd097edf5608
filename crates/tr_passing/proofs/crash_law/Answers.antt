use Rattle.tr_passing.proofs.Crashing.{crash_before}
use Rattle.tr_passing.proofs.crash_law.Goals as goal

pub returns : goal.returns
returns c = crash_before
