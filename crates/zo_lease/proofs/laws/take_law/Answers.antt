use Rattle.zo_lease.proofs.TakeLemmas.{take_history}
use Rattle.zo_lease.proofs.laws.take_law.Goals as goal

pub returns-clause-history : goal.returns-clause-history
returns-clause-history c = take_history
