use Rattle.zo_shared.proofs.AllDeeds.{sounds}
use Rattle.zo_shared.proofs.laws.sound_law.Goals as goal

pub returns : goal.returns
returns c = sounds
