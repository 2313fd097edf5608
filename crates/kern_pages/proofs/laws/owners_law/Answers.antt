use Rattle.kern_pages.proofs.TellsLemmas.{tells}
use Rattle.kern_pages.proofs.laws.owners_law.Goals as goal

pub returns : goal.returns
returns c = tells
