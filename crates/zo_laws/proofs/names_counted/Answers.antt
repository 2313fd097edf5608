use Rattle.zo_laws.proofs.NameCounts.{names_counted}
use Rattle.zo_laws.proofs.names_counted.Goals as goal

pub returns : goal.returns
returns c = names_counted
