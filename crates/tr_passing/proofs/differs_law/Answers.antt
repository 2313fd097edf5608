use Rattle.tr_passing.proofs.Differing.{differs_more}
use Rattle.tr_passing.proofs.differs_law.Goals as goal

pub returns : goal.returns
returns c = differs_more
