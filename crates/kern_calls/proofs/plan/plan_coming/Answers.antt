use Rattle.std.proofs.Common.{sym, subst}
use Rattle.kern_model.specs.KernelCalls.{row_of}
use Rattle.tr_types.specs.declared.kernel_call.Kcall.{Kcall}
use Rattle.kern_plans.specs.Plans.{Plans}
use Rattle.kern_calls.proofs.plan.plan_coming.Goals as goal

pub returns-in-New : goal.returns-in-New
returns-in-New c = λ callers has.
    let asked = c.args.asked.now in
    subst (λ (kcall : Kcall). Plans (row_of callers asked.words asked.holders asked.thread asked.tick kcall) c.new.result) (sym c.in-New.is) (c.new.ensures callers has)

pub returns-in-Split : goal.returns-in-Split
returns-in-Split c = λ callers has.
    let asked = c.args.asked.now in
    subst (λ (kcall : Kcall). Plans (row_of callers asked.words asked.holders asked.thread asked.tick kcall) c.split.result) (sym c.in-Split.is) (c.split.ensures callers has)
