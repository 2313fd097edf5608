use Rattle.std.proofs.Common.{List, sym, subst}
use Rattle.pm_words.specs.Word.{Word}
use Rattle.bus_machine.specs.Ties.{AreTied}
use Rattle.bus_machine.proofs.Stores.{tied_fenced, whole}
use Rattle.bus_machine.proofs.bus.Bus.fence.Goals as goal

pub invariant_of-self : goal.invariant_of-self
invariant_of-self c =
    let self = c.self.inside in
    whole c.self.invariant.count (λ works.
    subst (λ (ws : List Word). AreTied ws self.kernel self.pkrus.items) (sym c.fence.ensures.words) (tied_fenced self.words self.kernel self.pkrus.items (c.self.invariant.tied works) c.args.thread))
