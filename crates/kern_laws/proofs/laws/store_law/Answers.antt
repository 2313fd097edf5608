use Rattle.kern_laws.proofs.FrameLemmas.{store_keeps}
use Rattle.kern_laws.proofs.laws.store_law.Goals as goal

pub returns : goal.returns
returns c = store_keeps
