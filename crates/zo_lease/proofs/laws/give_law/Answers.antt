use Rattle.zo_lease.proofs.GiveLemmas.{give_history}
use Rattle.zo_lease.proofs.laws.give_law.Goals as goal

pub returns-clause-history : goal.returns-clause-history
returns-clause-history c = give_history
