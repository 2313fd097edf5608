use Rattle.zo_laws.proofs.CounterLemmas.{counter_law}
use Rattle.zo_laws.proofs.run_words.counter_law.Goals as goal

pub returns : goal.returns
returns c = counter_law
