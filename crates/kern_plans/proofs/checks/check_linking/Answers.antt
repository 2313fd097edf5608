use Rattle.std.proofs.Common.{[], ◌∷◌, refl}
use Rattle.std.proofs.lemmas.Result.{err_from_is_err_and}
use Rattle.kern_model.specs.KernelCalls as calls
use Rattle.kern_plans.specs.Links.{link_of, guard_of}
use Rattle.kern_plans.proofs.CheckLemmas.{stopped}
use Rattle.kern_plans.proofs.checks.check_linking.Goals as goal

pub returns-in_err-check_pages : goal.returns-in_err-check_pages
returns-in_err-check_pages c =
    let words = c.args.asked.now.words in
    let p = err_from_is_err_and c.from_residual.result c.from_residual.ensures.1 in
    stopped (Unit {0}) (Unit {0}) [] (calls.pages_refused words c.args.parent (c.args.linking.link.addr ∷ c.args.linking.guard.addr ∷ []) c.args.id c.args.kept.now c.args.pages.now ∷ [])
    (calls.guard_refused words c.args.asked.now.tick (guard_of c.args.linking.guard) ∷ calls.link_refused words (link_of c.args.linking.link) ∷ []) _ p.0 c.from_residual.result p.1 p.2 refl c.in_err-check_pages.ensures
