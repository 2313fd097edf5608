use Rattle.zo_laws.proofs.WordMarks.{others}
use Rattle.zo_laws.proofs.run_words.others_law.Goals as goal

pub returns : goal.returns
returns c = others
