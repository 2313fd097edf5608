use Rattle.zo_lease.proofs.PushLemmas.{push_history}
use Rattle.zo_lease.proofs.laws.push_law.Goals as goal

pub returns-clause-history : goal.returns-clause-history
returns-clause-history c = push_history
