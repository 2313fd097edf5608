use Rattle.tr_passing.proofs.Keeping.{allowed_before}
use Rattle.tr_passing.proofs.allowed_law.Goals as goal

pub returns : goal.returns
returns c = allowed_before
