use Rattle.zo_units.proofs.Lists.{crashes}
use Rattle.zo_units.proofs.memory.crash_law.Goals as goal

pub returns : goal.returns
returns c = crashes
