use Rattle.tr_outside.proofs.ImageWords.{no_read_fault, sized}
use Rattle.tr_outside.proofs.image_read.read_image.Goals as goal

-- the bytes were read
pub returns-in-Ok-clause-fault : goal.returns-in-Ok-clause-fault
returns-in-Ok-clause-fault g c = λ e. absurd (no_read_fault _ _ c.image_of.ensures.answer e)

pub returns-in-Ok-clause-size : goal.returns-in-Ok-clause-size
returns-in-Ok-clause-size g c = sized _ _ c.image_of.ensures.answer
