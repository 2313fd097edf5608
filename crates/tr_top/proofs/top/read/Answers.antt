use Rattle.tr_top.proofs.Endings.{no_script}
use Rattle.tr_top.proofs.top.read.Goals as goal

pub returns-in-Err-BadLine-clause-refused : goal.returns-in-Err-BadLine-clause-refused
returns-in-Err-BadLine-clause-refused g c =
    let bad = c.in-Err-BadLine.ensures in
    no_script _ _ c.in-Ok.text.items c.deref.result.now c.in-Err-BadLine.field-0 _ _ c.deref.ensures.value c.in-Ok.ensures.read c.in-Err-BadLine.field-0-is bad.refused bad.place
