use Rattle.kern_view.proofs.FaultLemmas.{one_fault, none_in_sound}
use Rattle.kern_view.proofs.laws.fault_law.Goals as goal

pub returns : goal.returns
returns c = (one_fault, none_in_sound)
