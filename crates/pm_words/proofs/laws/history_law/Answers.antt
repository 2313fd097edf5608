use Rattle.pm_words.proofs.HistoryLemmas.{keeps_all}
use Rattle.pm_words.proofs.laws.history_law.Goals as goal

pub returns : goal.returns
returns c = record { kept = keeps_all }
