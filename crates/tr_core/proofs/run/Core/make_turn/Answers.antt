use Rattle.std.proofs.Common.{◌≡◌, Bool, true, false, not, Option, Some, None, is_some, is_none, sym, ap, ◌∙◌, refl}
use Rattle.tr_core.specs.declared.calls.Waiting.{Waiting}
use Rattle.tr_core.specs.Places.{place_in}
use Rattle.tr_core.proofs.Puts.{put_twice}
use Rattle.tr_core.proofs.Keeps.{turn_all, small_now, has_call, nobody_ended}
use Rattle.tr_core.proofs.run.Core.make_turn.Goals as goal

ended_is : (o : Option Waiting) (b : Bool) → is_some o ≡ not b → b ≡ is_none o
ended_is None true is = refl
ended_is None false is = cc
ended_is (Some waiting) true is = cc
ended_is (Some waiting) false is = refl

pub take-requires : goal.take-requires
take-requires c = small_now c.self.inside.opening c.self.inside.trace c.self.inside.machine c.self.inside.calls c.self.inside.failed c.args.self.now c.self.view_is c.self.invariant c.requires.works c.args.thread c.requires.started

pub unreachable-requires : goal.unreachable-requires
unreachable-requires c =
    has_call c.self.inside.opening c.self.inside.trace c.self.inside.machine c.self.inside.calls c.self.inside.failed c.args.self.now c.self.view_is c.self.invariant c.requires.works c.args.thread c.requires.call
    (sym c.take.ensures.taken ∙ c.in_default.is)

pub invariant_of-self : goal.invariant_of-self
invariant_of-self c =
    let all = turn_all c.self.inside.opening c.self.inside.trace c.self.inside.machine c.self.inside.calls c.self.inside.failed c.args.self.now c.self.view_is c.self.invariant c.requires.works c.args.thread c.args.now c.requires.started c.requires.room c.requires.due
    c.in-Some.waiting (sym c.in-Some.ensures.taken) c.step.new.machine c.step.new.trace c.in-Ok.after c.in-Ok.ensures.steps c.set.new.self
    (λ t. c.set.ensures t ∙ put_twice (place_in c.self.inside.calls) (place_in c.take.new.self) c.args.thread None c.in-Ok.after c.in-Some.ensures.left t)
    (record { position = c.len.result; ended = c.is_none-ended.result }) c.len.ensures (ended_is c.in-Ok.after c.is_none-ended.result c.is_none-ended.ensures) in
    (all.0.0, λ works. all.0.1)

pub returns-in-Ok : goal.returns-in-Ok
returns-in-Ok c =
    let all = turn_all c.self.inside.opening c.self.inside.trace c.self.inside.machine c.self.inside.calls c.self.inside.failed c.args.self.now c.self.view_is c.self.invariant c.requires.works c.args.thread c.args.now c.requires.started c.requires.room c.requires.due
    c.in-Some.waiting (sym c.in-Some.ensures.taken) c.step.new.machine c.step.new.trace c.in-Ok.after c.in-Ok.ensures.steps c.set.new.self
    (λ t. c.set.ensures t ∙ put_twice (place_in c.self.inside.calls) (place_in c.take.new.self) c.args.thread None c.in-Ok.after c.in-Some.ensures.left t)
    (record { position = c.len.result; ended = c.is_none-ended.result }) c.len.ensures (ended_is c.in-Ok.after c.is_none-ended.result c.is_none-ended.ensures) in
    all.1

pub step-requires-clause-up : goal.step-requires-clause-up
step-requires-clause-up c = nobody_ended c.self.inside.opening c.self.inside.trace c.self.inside.machine c.self.inside.calls c.self.inside.failed c.args.self.now c.self.view_is c.self.invariant c.requires.works
