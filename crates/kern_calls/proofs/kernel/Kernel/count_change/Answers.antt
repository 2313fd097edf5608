use Rattle.std.proofs.Common.{◌∙◌, ap, subst}
use Rattle.kern_model.specs.Commits.{IsFit}
use Rattle.kern_plans.specs.Plans.{Plan}
use Rattle.kern_calls.proofs.PlanLemmas.{caller_is}
use Rattle.kern_calls.proofs.DoneLemmas.{may_commit}
use Rattle.kern_calls.proofs.kernel.Kernel.count_change.Goals as goal

pub count_events-requires-clause-may : goal.count_events-requires-clause-may
count_events-requires-clause-may c =
    let kernel = c.args.self.now in
    let words = c.args.words.now in
    let caller = caller_is kernel.callers c.args.thread c.args.call.now c.requires.caller (λ started. subst IsFit (c.cred_of-cred.ensures.cred started) c.cred_of-cred.ensures.fit) in
    let keeps = c.row_law.ensures kernel.callers words kernel.holders c.args.thread c.args.now c.args.call.now c.requires.mounted.working caller c.requires.call in
    let gives = c.deref.ensures.value ∙ ap (λ (p : Plan). p.granted) c.plan-in-Ok.view_is in
    let stores = c.deref-in-Ok.ensures.value ∙ ap (λ (p : Plan). p.pairs) c.plan-in-Ok.view_is in
    may_commit kernel words c.args.thread c.args.now c.args.call.now c.requires.mounted keeps
    c.in-Ok.plan c.in-Ok.ensures c.deref.result.now gives c.deref-in-Ok.result.now stores
