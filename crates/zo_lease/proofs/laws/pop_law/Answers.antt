use Rattle.zo_lease.proofs.PopLemmas.{pop_history}
use Rattle.zo_lease.proofs.laws.pop_law.Goals as goal

pub returns-clause-history : goal.returns-clause-history
returns-clause-history c = pop_history
