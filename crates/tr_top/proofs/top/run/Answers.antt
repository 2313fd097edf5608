use Rattle.tr_top.proofs.Endings.{ends_saved_image, ends_stopped}
use Rattle.tr_top.proofs.top.run.Goals as goal

pub returns-in-Ok-run-clause-ends : goal.returns-in-Ok-run-clause-ends
returns-in-Ok-run-clause-ends g c =
    let r = c.in-Ok-run.ensures in
    rw (c.into_end-image.ensures.trace, ← c.in-Ok.ensures.lines, ← c.in-Ok.ensures.detail)
    (ends_saved_image c.save.result c.in-Ok.runner _ c.into_end-image.result.0 _ _ _ _ _ _ _ _ c.in-Ok.ensures.fresh c.into_end-image.ensures.run r.ended r.goes c.into_end-image.ensures.image c.save.ensures.saved)

pub returns-in-Err-clause-ends : goal.returns-in-Err-clause-ends
returns-in-Err-clause-ends g c =
    rw (c.into_trace.ensures.trace, c.status_of.ensures, ← c.in-Ok.ensures.lines, ← c.in-Ok.ensures.detail)
    (ends_stopped c.in-Err.stop c.in-Ok.runner _ _ _ _ _ _ _ c.in-Ok.ensures.fresh c.into_trace.ensures.run c.in-Err.ensures.goes)
