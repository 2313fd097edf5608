use Rattle.zo_laws.proofs.DurableLemmas.{durable}
use Rattle.zo_laws.proofs.run_words.durable_law.Goals as goal

pub returns : goal.returns
returns c = durable
