use Rattle.std.proofs.Common.{◌≡◌, refl, subst, sym}
use Rattle.std.specs.Prelude.{MatchResult}
use Rattle.bus_model.specs.Machine.{Bus, ProcessWasStarted}
use Rattle.tr_core.specs.declared.event.FaultEvent.{FaultEvent}
use Rattle.tr_core.specs.declared.fault.CoreFault.TheVariants.{NoThread}
use Rattle.tr_core.specs.Core.{IsNamed}
use Rattle.tr_core.proofs.Keeps.{process_named}
use Rattle.tr_core.proofs.run.Core.check_named.Goals as goal

pub returns-then-has_process : goal.returns-then-has_process
returns-then-has_process c =
    subst (IsNamed c.args.self.now) (sym c.in-Thread.is)
    (process_named c.self.inside.opening c.self.inside.trace c.self.inside.machine c.self.inside.calls c.self.inside.failed c.args.self.now c.self.view_is c.self.invariant c.requires.works c.in-Thread.process (c.if-has_process.ensures.0 refl))

pub returns-in-Stray : goal.returns-in-Stray
returns-in-Stray c =
    subst (λ (e : FaultEvent). MatchResult c.check_thread.result (λ x. IsNamed c.args.self.now e) (λ fault. (fault ≡ NoThread) × (IsNamed c.args.self.now e → ⊥))) (sym c.in-Stray.is) c.check_thread.ensures
