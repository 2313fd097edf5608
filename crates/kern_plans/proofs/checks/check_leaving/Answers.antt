use Rattle.std.proofs.Common.{[], ◌∷◌, not, refl}
use Rattle.std.proofs.lemmas.Result.{err_from_is_err_and}
use Rattle.kern_model.specs.KernelCalls as calls
use Rattle.tr_types.specs.declared.kernel_call.KernAnswer.TheVariants.{NotHeld, NotEmptyList}
use Rattle.kern_roots.specs.declared.types.Root.{Root}
use Rattle.kern_plans.proofs.CheckLemmas.{stopped}
use Rattle.kern_plans.proofs.checks.check_leaving.Goals as goal

pub returns-in_err-owned : goal.returns-in_err-owned
returns-in_err-owned c = λ callers has.
    let words = c.args.asked.now.words in
    let thread = c.args.asked.now.thread in
    let p = err_from_is_err_and c.from_residual.result c.from_residual.ensures.1 in
    stopped Root (Unit {0}) [] (calls.owner_refused callers words thread c.args.id)
    (calls.refused_where (not (calls.holds_both words c.args.asked.now.holders thread c.args.id c.args.parent)) NotHeld
    ∷ calls.refused_where (calls.has_children words c.args.id) NotEmptyList ∷ []) _ p.0 c.from_residual.result p.1 p.2 refl (c.in_err-owned.ensures.refused callers has)
