use Rattle.tr_core.proofs.Keeps.{given_all, small_now}
use Rattle.tr_core.proofs.run.Core.begin_call.Goals as goal

pub set-requires : goal.set-requires
set-requires c = small_now c.self.inside.opening c.self.inside.trace c.self.inside.machine c.self.inside.calls c.self.inside.failed c.args.self.now c.self.view_is c.self.invariant c.requires.works c.args.thread c.requires.started

pub invariant_of-self : goal.invariant_of-self
invariant_of-self c =
    let all = given_all c.self.inside.opening c.self.inside.trace c.self.inside.machine c.self.inside.calls c.self.inside.failed c.args.self.now c.self.view_is c.self.invariant c.requires.works c.args.thread c.args.command c.requires.started c.requires.room
    c.requires.command c.requires.quiet c.begin.new.trace c.in-Ok.ensures.trace c.in-Ok.waiting c.in-Ok.ensures.begins c.set.new.self c.set.ensures in
    (all.0.0, λ works. all.0.1)

pub returns-in-Ok : goal.returns-in-Ok
returns-in-Ok c =
    let all = given_all c.self.inside.opening c.self.inside.trace c.self.inside.machine c.self.inside.calls c.self.inside.failed c.args.self.now c.self.view_is c.self.invariant c.requires.works c.args.thread c.args.command c.requires.started c.requires.room
    c.requires.command c.requires.quiet c.begin.new.trace c.in-Ok.ensures.trace c.in-Ok.waiting c.in-Ok.ensures.begins c.set.new.self c.set.ensures in
    all.1
