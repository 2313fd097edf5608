use Rattle.std.proofs.Common.{inl, inr, refl, sym, subst}
use Rattle.tr_types.specs.declared.kernel_call.Kcall.{Kcall}
use Rattle.kern_calls.specs.Calls.{MayCall}
use Rattle.kern_calls.specs.Steps.{IsComing, IsGoing}
use Rattle.kern_calls.proofs.PlanLemmas.{planned, has_cred, coming_started, going_started}
use Rattle.kern_calls.proofs.kernel.Kernel.plan.Goals as goal

pub returns-in-Enlarge : goal.returns-in-Enlarge
returns-in-Enlarge c = planned c.args.words.now _ c.args.self.now c.args.cred c.args.thread c.args.now c.new-asked.result c.self.view_is c.new-asked.ensures _ _ _ c.in-Enlarge.is c.enlarge.ensures

pub returns-in-Shrink : goal.returns-in-Shrink
returns-in-Shrink c = planned c.args.words.now _ c.args.self.now c.args.cred c.args.thread c.args.now c.new-asked.result c.self.view_is c.new-asked.ensures _ _ _ c.in-Shrink.is c.shrink.ensures

pub returns-in-Mode : goal.returns-in-Mode
returns-in-Mode c =
    let started = subst (λ (kcall : Kcall). MayCall c.args.self.now.callers c.args.thread kcall) c.in-Mode.is c.requires.caller in
    let has = has_cred c.args.words.now _ c.args.self.now c.args.cred c.args.thread c.args.now c.new-asked.result c.self.view_is c.new-asked.ensures started c.requires.cred in
    planned c.args.words.now _ c.args.self.now c.args.cred c.args.thread c.args.now c.new-asked.result c.self.view_is c.new-asked.ensures _ _ _ c.in-Mode.is (c.mode.ensures c.args.self.now.callers has)

pub returns-in-Recover : goal.returns-in-Recover
returns-in-Recover c = planned c.args.words.now _ c.args.self.now c.args.cred c.args.thread c.args.now c.new-asked.result c.self.view_is c.new-asked.ensures _ _ _ c.in-Recover.is c.recover.ensures

pub returns-in-Delete : goal.returns-in-Delete
returns-in-Delete c =
    let going : IsGoing c.args.call.now =
    elim c.in-Delete.is [
      | inl d ↦ subst IsGoing (sym d.4) tt
      | inr m ↦ subst IsGoing (sym m.5) tt
    ] in
    let started = going_started c.args.self.now.callers c.args.thread c.args.call.now going c.requires.caller in
    let has = has_cred c.args.words.now _ c.args.self.now c.args.cred c.args.thread c.args.now c.new-asked.result c.self.view_is c.new-asked.ensures started c.requires.cred in
    planned c.args.words.now _ c.args.self.now c.args.cred c.args.thread c.args.now c.new-asked.result c.self.view_is c.new-asked.ensures c.args.call.now c.args.call.now c.plan_going.result refl (c.plan_going.ensures c.args.self.now.callers has)

pub returns-in-New : goal.returns-in-New
returns-in-New c =
    let coming : IsComing c.args.call.now =
    elim c.in-New.is [
      | inl n ↦ subst IsComing (sym n.6) tt
      | inr s ↦ subst IsComing (sym s.6) tt
    ] in
    let started = coming_started c.args.self.now.callers c.args.thread c.args.call.now coming c.requires.caller in
    let has = has_cred c.args.words.now _ c.args.self.now c.args.cred c.args.thread c.args.now c.new-asked.result c.self.view_is c.new-asked.ensures started c.requires.cred in
    planned c.args.words.now _ c.args.self.now c.args.cred c.args.thread c.args.now c.new-asked.result c.self.view_is c.new-asked.ensures c.args.call.now c.args.call.now c.plan_coming.result refl (c.plan_coming.ensures c.args.self.now.callers has)
