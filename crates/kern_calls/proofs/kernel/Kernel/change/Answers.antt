use Rattle.std.proofs.Common.{◌∙◌, ap, sym, subst}
use Rattle.kern_model.specs.Commits.{IsFit}
use Rattle.kern_plans.specs.Plans.{Plan}
use Rattle.kern_calls.proofs.PlanLemmas.{caller_is}
use Rattle.kern_calls.proofs.DoneLemmas.{ok_of, err_of, refused, cut_early, may_commit, sound_then, known_then, cut_then, answered_then}
use Rattle.kern_calls.proofs.kernel.Kernel.change.Goals as goal

pub returns-in-Err-clause-answered : goal.returns-in-Err-clause-answered
returns-in-Err-clause-answered c = refused c.args.self.now c.args.words.now c.args.thread c.args.now c.args.call.now c.requires.mounted c.in-Err.refusal c.in-Err.ensures

pub commit-requires : goal.commit-requires
commit-requires c =
    let kernel = c.args.self.now in
    let words = c.args.words.now in
    let caller = caller_is kernel.callers c.args.thread c.args.call.now c.requires.caller (λ started. subst IsFit (c.cred_of-cred.ensures.cred started) c.cred_of-cred.ensures.fit) in
    let keeps = c.row_law.ensures kernel.callers words kernel.holders c.args.thread c.args.now c.args.call.now c.requires.mounted.working caller c.requires.call in
    let gives = c.deref.ensures.value ∙ ap (λ (p : Plan). p.granted) c.plan-2.view_is in
    let stores = c.deref-2.ensures.value ∙ ap (λ (p : Plan). p.pairs) c.plan-2.view_is in
    may_commit kernel words c.args.thread c.args.now c.args.call.now c.requires.mounted keeps
    c.in-Ok.plan c.in-Ok.ensures c.deref.result.now gives c.deref-2.result.now stores

pub follow-requires-clause-sound : goal.follow-requires-clause-sound
follow-requires-clause-sound c =
    let kernel = c.args.self.now in
    let words = c.args.words.now in
    let caller = caller_is kernel.callers c.args.thread c.args.call.now c.requires.caller (λ started. subst IsFit (c.cred_of-cred.ensures.cred started) c.cred_of-cred.ensures.fit) in
    let keeps = c.row_law.ensures kernel.callers words kernel.holders c.args.thread c.args.now c.args.call.now c.requires.mounted.working caller c.requires.call in
    let gives = c.deref.ensures.value ∙ ap (λ (p : Plan). p.granted) c.plan-2.view_is in
    let stores = c.deref-2.ensures.value ∙ ap (λ (p : Plan). p.pairs) c.plan-2.view_is in
    let stored = ok_of c.commit.result (sym c.is_err.ensures.value ∙ c.if-is_err.false) c.commit.ensures.ok in
    sound_then kernel words c.args.thread c.args.now c.args.call.now c.requires.mounted keeps c.commit_law.ensures
    c.in-Ok.plan c.in-Ok.ensures c.deref.result.now gives c.deref-2.result.now stores c.commit.new.words stored

pub follow-requires-clause-known : goal.follow-requires-clause-known
follow-requires-clause-known c =
    let kernel = c.args.self.now in
    let words = c.args.words.now in
    let caller = caller_is kernel.callers c.args.thread c.args.call.now c.requires.caller (λ started. subst IsFit (c.cred_of-cred.ensures.cred started) c.cred_of-cred.ensures.fit) in
    let keeps = c.row_law.ensures kernel.callers words kernel.holders c.args.thread c.args.now c.args.call.now c.requires.mounted.working caller c.requires.call in
    let gives = c.deref.ensures.value ∙ ap (λ (p : Plan). p.granted) c.plan-2.view_is in
    let stores = c.deref-2.ensures.value ∙ ap (λ (p : Plan). p.pairs) c.plan-2.view_is in
    let stored = ok_of c.commit.result (sym c.is_err.ensures.value ∙ c.if-is_err.false) c.commit.ensures.ok in
    known_then kernel words c.args.thread c.args.now c.args.call.now c.requires.mounted keeps c.commit_law.ensures
    c.in-Ok.plan c.in-Ok.ensures c.deref.result.now gives c.deref-2.result.now stores c.commit.new.words stored
    (c.owners_law.ensures words) c.deref-3.result.now (c.deref-3.ensures.value ∙ ap (λ (p : Plan). p.pairs) c.plan-2.view_is)

pub returns-then-is_err-2-clause-answered : goal.returns-then-is_err-2-clause-answered
returns-then-is_err-2-clause-answered c =
    let kernel = c.args.self.now in
    let words = c.args.words.now in
    let caller = caller_is kernel.callers c.args.thread c.args.call.now c.requires.caller (λ started. subst IsFit (c.cred_of-cred.ensures.cred started) c.cred_of-cred.ensures.fit) in
    let keeps = c.row_law.ensures kernel.callers words kernel.holders c.args.thread c.args.now c.args.call.now c.requires.mounted.working caller c.requires.call in
    let gives = c.deref.ensures.value ∙ ap (λ (p : Plan). p.granted) c.plan-2.view_is in
    let stores = c.deref-2.ensures.value ∙ ap (λ (p : Plan). p.pairs) c.plan-2.view_is in
    let stored = ok_of c.commit.result (sym c.is_err.ensures.value ∙ c.if-is_err.false) c.commit.ensures.ok in
    cut_then kernel words c.args.thread c.args.now c.args.call.now c.requires.mounted keeps c.commit_law.ensures
    c.in-Ok.plan c.in-Ok.ensures c.deref.result.now gives c.deref-2.result.now stores c.commit.new.words stored

pub returns-clause-answered : goal.returns-clause-answered
returns-clause-answered c =
    let kernel = c.args.self.now in
    let words = c.args.words.now in
    let caller = caller_is kernel.callers c.args.thread c.args.call.now c.requires.caller (λ started. subst IsFit (c.cred_of-cred.ensures.cred started) c.cred_of-cred.ensures.fit) in
    let keeps = c.row_law.ensures kernel.callers words kernel.holders c.args.thread c.args.now c.args.call.now c.requires.mounted.working caller c.requires.call in
    let gives = c.deref.ensures.value ∙ ap (λ (p : Plan). p.granted) c.plan-2.view_is in
    let stores = c.deref-2.ensures.value ∙ ap (λ (p : Plan). p.pairs) c.plan-2.view_is in
    let stored = ok_of c.commit.result (sym c.is_err.ensures.value ∙ c.if-is_err.false) c.commit.ensures.ok in
    let followed = ok_of c.follow.result (sym c.is_err-2.ensures.value ∙ c.if-is_err-2.false) c.follow.ensures in
    answered_then kernel words c.args.thread c.args.now c.args.call.now c.requires.mounted keeps c.commit_law.ensures
    c.in-Ok.plan c.in-Ok.ensures c.deref.result.now gives c.deref-2.result.now stores c.commit.new.words stored
    (λ due. c.crash_law.ensures.steady kernel.callers words kernel.holders c.args.thread c.args.now c.args.call.now c.requires.mounted.working caller c.requires.call due)
    c.plan-2.inside.answer c.follow.new.self c.end_maps.new.self c.requires.change (ap (λ (p : Plan). p.answer) c.plan-2.view_is) followed c.end_maps.ensures

pub returns-then-is_err-clause-answered : goal.returns-then-is_err-clause-answered
returns-then-is_err-clause-answered c =
    let kernel = c.args.self.now in
    let words = c.args.words.now in
    let gives = c.deref.ensures.value ∙ ap (λ (p : Plan). p.granted) c.plan-2.view_is in
    let stores = c.deref-2.ensures.value ∙ ap (λ (p : Plan). p.pairs) c.plan-2.view_is in
    cut_early kernel words c.args.thread c.args.now c.args.call.now c.requires.mounted
    c.in-Ok.plan c.in-Ok.ensures c.deref.result.now gives c.deref-2.result.now stores c.commit.new.words (err_of c.commit.result (sym c.is_err.ensures.value ∙ c.if-is_err.true) c.commit.ensures.err)
