use Rattle.std.proofs.Common.{ℕ, List, [], ◌∷◌, ◌++◌, not, Option, refl, ap, subst}
use Rattle.std.proofs.lemmas.Result.{err_from_is_err_and}
use Rattle.pm_words.specs.Word.{Word}
use Rattle.kern_model.specs.KernelCalls.{Callers, named, refused_where, owner_refused, holds_both, has_children, guard_refused, link_refused}
use Rattle.tr_types.specs.declared.kernel_call.Holder.{Holder}
use Rattle.tr_types.specs.declared.kernel_call.KernAnswer.{KernAnswer}
use Rattle.tr_types.specs.declared.kernel_call.KernAnswer.TheVariants.{NotHeld, NotEmptyList}
use Rattle.kern_roots.specs.declared.types.Root.{Root}
use Rattle.kern_plans.specs.Links.{link_of, guard_of}
use Rattle.kern_plans.specs.Refusals.{TellsFirstDue, linking_refusals}
use Rattle.kern_plans.proofs.CheckLemmas.{stopped, refused_later}
use Rattle.kern_plans.proofs.MoveLemmas.{checked_inside}
use Rattle.kern_plans.proofs.calls.merge.check_merge.Goals as goal

-- the refusals of a coffer that leaves its parent
abbrev leaving : Callers → List Word → List Holder → ℕ → ℕ → ℕ → List (Option KernAnswer)
leaving callers words holders thread child parent =
    owner_refused callers words thread child
    ++ (refused_where (not (holds_both words holders thread child parent)) NotHeld ∷ refused_where (has_children words child) NotEmptyList ∷ [])

pub returns-in_err-check_leaving-clause-refused : goal.returns-in_err-check_leaving-clause-refused
returns-in_err-check_leaving-clause-refused c = λ callers cred.
    let p = err_from_is_err_and c.from_residual.result c.from_residual.ensures.1 in
    let asked = c.args.asked.now in
    stopped (Unit {0}) (Unit {0}) [] (leaving callers asked.words asked.holders asked.thread c.args.child c.args.parent)
    (linking_refusals asked.words asked.tick c.args.parent c.args.linking c.args.child ((named asked.words c.args.child).control ∷ []) c.args.pages.now)
    c.in_err-check_leaving.field-0.0 p.0 c.from_residual.result p.1 p.2 refl (c.in_err-check_leaving.ensures callers cred)

pub returns-clause-refused : goal.returns-clause-refused
returns-clause-refused c = λ callers cred.
    let asked = c.args.asked.now in
    refused_later (Unit {0}) (leaving callers asked.words asked.holders asked.thread c.args.child c.args.parent)
    (linking_refusals asked.words asked.tick c.args.parent c.args.linking c.args.child ((named asked.words c.args.child).control ∷ []) c.args.pages.now)
    c.check_linking.result (c.in_ok-check_leaving.ensures callers cred)
    (subst (λ (kept : List ℕ). TellsFirstDue (linking_refusals asked.words asked.tick c.args.parent c.args.linking c.args.child kept c.args.pages.now) c.check_linking.result)
    (ap (λ (r : Root). r.control ∷ []) c.named_root.ensures) c.check_linking.ensures)

pub returns-clause-inside : goal.returns-clause-inside
returns-clause-inside c =
    let asked = c.args.asked.now in
    checked_inside asked.words c.args.parent c.args.child (c.args.linking.link.addr ∷ c.args.linking.guard.addr ∷ []) (c.named_root.result.control ∷ []) c.args.pages.now
    (guard_refused asked.words asked.tick (guard_of c.args.linking.guard) ∷ link_refused asked.words (link_of c.args.linking.link) ∷ []) c.check_linking.result c.check_linking.ensures
