use Rattle.kern_model.specs.KernelCalls.{row_of}
use Rattle.kern_laws.proofs.CrashTables.{kernel_survives}
use Rattle.kern_laws.proofs.CrashSteady.{steady_mounted, steady_after}
use Rattle.kern_laws.proofs.laws.crash_law.Goals as goal

pub returns-clause-call : goal.returns-clause-call
returns-clause-call c = λ callers words holders thread now kcall working caller is due count cuts left after.
    let row = row_of callers words holders thread now kcall in
    c.crash_law.ensures.inside words row.granted row.pairs count cuts left after (c.tables_law.ensures callers words holders thread now kcall working caller is due).may

pub returns-clause-kernel : goal.returns-clause-kernel
returns-clause-kernel c = λ callers words holders thread now kcall working caller is due steady count cuts left after leave come.
    let row = row_of callers words holders thread now kcall in
    let keeps = c.tables_law.ensures callers words holders thread now kcall working caller is due in
    let survives = c.crash_law.ensures.inside words row.granted row.pairs count cuts left after keeps.may leave come in
    kernel_survives words holders row working keeps steady count left _ survives.whole_or_none (steady_mounted words row.granted row.pairs count cuts _ left after working.size leave come survives)

pub returns-clause-steady : goal.returns-clause-steady
returns-clause-steady c = λ callers words holders thread now kcall working caller is due steady.
    steady_after c.crash_law.ensures.others c.commit_law.ensures words (row_of callers words holders thread now kcall) (c.tables_law.ensures callers words holders thread now kcall working caller is due) steady
