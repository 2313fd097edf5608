use Rattle.std.proofs.Common.{[], ◌∷◌, ◌++◌, not, refl}
use Rattle.std.proofs.lemmas.Result.{err_from_is_err_and}
use Rattle.kern_model.specs.KernelCalls as calls
use Rattle.tr_types.specs.declared.kernel_call.KernAnswer.TheVariants.{NotHeld, NotEmptyList}
use Rattle.kern_plans.specs.Refusals.{linking_refusals}
use Rattle.kern_plans.proofs.CheckLemmas.{stopped, refused_later}
use Rattle.kern_plans.proofs.calls.delete.check_delete.Goals as goal

pub returns-in_err-check_leaving : goal.returns-in_err-check_leaving
returns-in_err-check_leaving c = λ callers has.
    let asked = c.args.asked.now in
    let p = err_from_is_err_and c.from_residual.result c.from_residual.ensures.1 in
    stopped (Unit {0}) (Unit {0}) []
    (calls.owner_refused callers asked.words asked.thread c.args.id
    ++ (calls.refused_where (not (calls.holds_both asked.words asked.holders asked.thread c.args.id c.args.parent)) NotHeld ∷ calls.refused_where (calls.has_children asked.words c.args.id) NotEmptyList ∷ []))
    (linking_refusals asked.words asked.tick c.args.parent c.args.linking c.args.parent [] []) _ p.0 c.from_residual.result p.1 p.2 refl
    (c.in_err-check_leaving.ensures callers has)

pub returns : goal.returns
returns c = λ callers has.
    let asked = c.args.asked.now in
    refused_later (Unit {0})
    (calls.owner_refused callers asked.words asked.thread c.args.id
    ++ (calls.refused_where (not (calls.holds_both asked.words asked.holders asked.thread c.args.id c.args.parent)) NotHeld ∷ calls.refused_where (calls.has_children asked.words c.args.id) NotEmptyList ∷ []))
    (linking_refusals asked.words asked.tick c.args.parent c.args.linking c.args.parent [] []) c.check_linking.result
    (c.in_ok-check_leaving.ensures callers has) c.check_linking.ensures
