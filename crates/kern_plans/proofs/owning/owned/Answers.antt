use Rattle.std.proofs.Common.{[], ◌∷◌, Bool, not, Err, ap, subst}
use Rattle.std.proofs.lemmas.Result.{err_from_is_err_and}
use Rattle.kern_model.specs.KernelCalls.{first_due, refused_where, is_there_with, named}
use Rattle.tr_types.specs.declared.kernel_call.KernAnswer.TheVariants.{NoCoffer}
use Rattle.kern_roots.specs.declared.types.Root.{Root}
use Rattle.kern_plans.specs.Refusals.{TellsFirstDue, own_refused}
use Rattle.kern_plans.proofs.CheckLemmas.{stopped}
use Rattle.kern_plans.proofs.NamedLemmas.{entry_named}
use Rattle.kern_plans.proofs.owning.owned.Goals as goal

pub returns-in_err-check_own-clause-refused : goal.returns-in_err-check_own-clause-refused
returns-in_err-check_own-clause-refused c = λ callers has.
    let asked = c.args.asked.now in
    let refusal = c.in_err-check_own.field-0.0 in
    let p = err_from_is_err_and c.from_residual.result c.from_residual.ensures.1 in
    let there = entry_named c.words.result.now asked.words c.args.id c.in-Some.root c.words.ensures.words c.in-Some.ensures in
    stopped (Unit {0}) Root (refused_where (not (is_there_with asked.words c.args.id)) NoCoffer ∷ []) (own_refused callers asked.thread (named asked.words c.args.id).perm ∷ []) []
    refusal p.0 c.from_residual.result p.1 p.2 (ap (λ (b : Bool). first_due (refused_where (not b) NoCoffer ∷ [])) there.0)
    (subst (λ (root : Root). TellsFirstDue {X = Unit {0}} (own_refused callers asked.thread root.perm ∷ []) (Err refusal)) there.1 (c.in_err-check_own.ensures callers has))
