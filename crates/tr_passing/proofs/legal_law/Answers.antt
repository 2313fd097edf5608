use Rattle.tr_passing.proofs.Living.{crash_law}
use Rattle.tr_passing.proofs.legal_law.Goals as goal

pub returns : goal.returns
returns c = crash_law
