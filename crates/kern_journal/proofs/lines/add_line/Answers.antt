use Rattle.std.proofs.Common.{◌∙◌}
use Rattle.kern_model.proofs.LineLemmas.{where_found, where_missing}
use Rattle.kern_journal.proofs.lines.add_line.Goals as goal

pub returns-in-Ok : goal.returns-in-Ok
returns-in-Ok c = where_found c.args.line c.args.lines.now.items c.deref.result.now c.in-Ok._place c.requires c.deref.ensures.value c.in-Ok.ensures.ok

pub returns-in_ok-insert-in-Err : goal.returns-in_ok-insert-in-Err
returns-in_ok-insert-in-Err c =
    c.in_ok-insert-in-Err.ensures.items
    ∙ where_missing c.args.line c.args.lines.now.items c.deref.result.now c.in-Err.place c.requires c.deref.ensures.value c.in-Err.ensures.position
