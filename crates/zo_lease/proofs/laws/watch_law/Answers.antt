use Rattle.zo_lease.proofs.WatchLemmas.{watch_history}
use Rattle.zo_lease.proofs.laws.watch_law.Goals as goal

pub returns-clause-history : goal.returns-clause-history
returns-clause-history c = watch_history
