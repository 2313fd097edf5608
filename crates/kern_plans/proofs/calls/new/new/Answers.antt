use Rattle.std.proofs.Common.{◌≡◌, ◌∙◌, ℕ, List, [], ◌∷◌, ◌++◌, not, Option, None, Result, Err, refl, sym, ap, subst}
use Rattle.std.specs.Prelude.{IfOk}
use Rattle.std.proofs.lemmas.Result.{err_from_is_err_and}
use Rattle.pm_words.specs.Word.{Word}
use Rattle.kern_model.specs.KernelCalls as calls
use Rattle.kern_model.specs.KernelCalls.{first_due}
use Rattle.tr_types.specs.declared.kernel_call.Holder.{Holder}
use Rattle.tr_types.specs.declared.kernel_call.KernAnswer.{KernAnswer}
use Rattle.tr_types.specs.declared.kernel_call.KernAnswer.TheVariants.{NotHeld, BadPath}
use Rattle.tr_types.specs.declared.permission.Cred.{Cred}
use Rattle.tr_types.specs.declared.permission.Perm.{Perm}
use Rattle.kern_plans.specs.declared.linking.Linking.{Linking}
use Rattle.kern_plans.specs.Plans.{Plan, Plans}
use Rattle.kern_plans.specs.Links.{link_of, linking_of}
use Rattle.kern_plans.specs.Refusals.{TellsFirstDue, entry_refusals, linking_refusals}
use Rattle.kern_plans.specs.Stored.{fresh_plan}
use Rattle.kern_plans.proofs.CheckLemmas.{stopped, refused_later, refused_plan}
use Rattle.kern_plans.proofs.FreshLemmas.{plans_so, at_most_two, new_plan, new_plan_is}
use Rattle.kern_plans.proofs.calls.new.new.Goals as goal

-- what is checked first, and then
before_entry : List Word → List Holder → ℕ → ℕ → ℕ → List ℕ → Linking → List (Option KernAnswer)
before_entry words holders thread now parent path linking =
    calls.refused_where (not (calls.holds_for_writing thread parent holders)) NotHeld
    ∷ calls.refused_where (calls.is_bad_new_path words parent path) BadPath
    ∷ linking_refusals words now parent linking parent [] []

from_entry : List Word → List ℕ → List (Option KernAnswer)
from_entry words path = entry_refusals words path ++ calls.pages_short words 2 ∷ []

pub returns-in_err-check_new : goal.returns-in_err-check_new
unfolding before_entry from_entry
returns-in_err-check_new c = λ callers has.
    let asked = c.args.asked.now in
    let p = err_from_is_err_and c.from_residual.result c.from_residual.ensures.1 in
    let row = calls.new_row callers asked.words asked.holders asked.thread asked.tick c.args.parent c.args.path.now c.args.kind c.args.mode c.args.link c.args.guard in
    subst (λ (result : Result Plan KernAnswer). Plans row result) (sym p.1)
    (refused_plan Plan row p.0
    (stopped (Unit {0}) Plan [] (before_entry asked.words asked.holders asked.thread asked.tick c.args.parent c.args.path.now (linking_of c.args.link c.args.guard)) (from_entry asked.words c.args.path.now)
    c.in_err-check_new.field-0.0 p.0 (Err p.0) refl p.2 refl
    (subst (λ (l : Linking). TellsFirstDue {X = Unit {0}} (before_entry asked.words asked.holders asked.thread asked.tick c.args.parent c.args.path.now l) (Err c.in_err-check_new.field-0.0)) c.new-linking.ensures
    c.in_err-check_new.ensures)))

pub returns : goal.returns
unfolding before_entry from_entry
returns c = λ callers has.
    let asked = c.args.asked.now in
    let row = calls.new_row callers asked.words asked.holders asked.thread asked.tick c.args.parent c.args.path.now c.args.kind c.args.mode c.args.link c.args.guard in
    let perm : Perm = record { uid = c.cred-cred.result.uid; gid = c.cred-cred.result.gid; mode = c.args.mode } in
    plans_so row c.fresh.result
    (refused_later Plan (before_entry asked.words asked.holders asked.thread asked.tick c.args.parent c.args.path.now (linking_of c.args.link c.args.guard)) (from_entry asked.words c.args.path.now) c.fresh.result
    (subst (λ (l : Linking). first_due (before_entry asked.words asked.holders asked.thread asked.tick c.args.parent c.args.path.now l) ≡ None) c.new-linking.ensures c.in_ok-check_new.ensures)
    c.fresh.ensures.refused)
    (subst (λ (whole : Plan). IfOk c.fresh.result (λ plan. plan ≡ whole))
    (ap (λ (l : Linking). fresh_plan asked.words c.args.path.now perm c.args.kind (link_of l.link)) c.new-linking.ensures
    ∙ new_plan_is asked.words c.cred-cred.result c.args.path.now c.args.kind c.args.mode c.args.link
    ∙ ap (λ (cred : Cred). new_plan asked.words cred c.args.path.now c.args.kind c.args.mode c.args.link) (c.cred-cred.ensures ∙ sym has))
    c.fresh.ensures.plan)
    (at_most_two asked.words)
