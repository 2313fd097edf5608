use Rattle.kern_model.proofs.FinishLemmas.{finished, idle_read}
use Rattle.kern_journal.proofs.laws.view_law.Goals as goal

pub returns : goal.returns
returns c = record { finished = finished; idle = idle_read }
