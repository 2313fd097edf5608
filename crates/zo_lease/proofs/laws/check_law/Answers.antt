use Rattle.zo_lease.proofs.CheckLemmas.{check_history}
use Rattle.zo_lease.proofs.laws.check_law.Goals as goal

pub returns-clause-history : goal.returns-clause-history
returns-clause-history c = check_history
