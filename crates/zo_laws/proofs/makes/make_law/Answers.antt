use Rattle.zo_laws.proofs.MakeLemmas.{makes}
use Rattle.zo_laws.proofs.makes.make_law.Goals as goal

pub returns : goal.returns
returns c = makes
