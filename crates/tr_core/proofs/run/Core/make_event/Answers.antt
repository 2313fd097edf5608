use Rattle.tr_core.proofs.Keeps.{event_all, nobody_ended}
use Rattle.tr_core.proofs.run.Core.make_event.Goals as goal

pub invariant_of-self : goal.invariant_of-self
invariant_of-self c =
    let all = event_all c.self.inside.opening c.self.inside.trace c.self.inside.machine c.self.inside.calls c.self.inside.failed c.args.self.now c.self.view_is c.self.invariant c.requires.works c.args.event.now c.requires.named c.requires.room c.requires.may
    c.happen.new.machine c.happen.new.trace c.in-Ok.ensures in
    (all.0.0, λ works. all.0.1)

pub happen-requires-clause-up : goal.happen-requires-clause-up
happen-requires-clause-up c = nobody_ended c.self.inside.opening c.self.inside.trace c.self.inside.machine c.self.inside.calls c.self.inside.failed c.args.self.now c.self.view_is c.self.invariant c.requires.works
