use Rattle.bus_machine.proofs.Opened.{opens_as_is}
use Rattle.bus_machine.proofs.machine.open_law.Goals as goal

pub returns : goal.returns
returns c = opens_as_is
