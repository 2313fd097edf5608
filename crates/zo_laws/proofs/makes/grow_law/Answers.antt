use Rattle.zo_laws.proofs.GrowLemmas.{grow_denotes, grow_rests}
use Rattle.zo_laws.proofs.makes.grow_law.Goals as goal

pub returns : goal.returns
returns c = record { denotes = grow_denotes; rests = grow_rests }
