use Rattle.zo_laws.proofs.NoteLemmas.{noted_law}
use Rattle.zo_laws.proofs.run_words.note_law.Goals as goal

pub returns : goal.returns
returns c = noted_law
