use Rattle.zo_units.proofs.Lists.{memories}
use Rattle.zo_units.proofs.memory.memory_law.Goals as goal

pub returns : goal.returns
returns c = memories
