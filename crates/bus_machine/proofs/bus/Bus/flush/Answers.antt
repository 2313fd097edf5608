use Rattle.std.proofs.Common.{List, sym, ap, subst, ◌∙◌}
use Rattle.pm_words.specs.Word.{Word}
use Rattle.bus_model.specs.Machine.{load_refusal}
use Rattle.bus_machine.specs.View.{MachineView}
use Rattle.bus_machine.specs.Ties.{bus_of, AreTied}
use Rattle.bus_machine.proofs.Accesses.{load_address}
use Rattle.bus_machine.proofs.Stores.{tied_flushed, whole}
use Rattle.bus_machine.proofs.bus.Bus.flush.Goals as goal

pub flush-requires : goal.flush-requires
flush-requires c =
    let self = c.self.inside in
    load_address (bus_of self.words self.kernel self.pkrus.items) c.args.thread c.args.addr
    (ap (λ (v : MachineView). load_refusal v.bus c.args.thread c.args.addr) c.self.view_is ∙ sym c.load_refusal.ensures ∙ c.in-None.is)

pub invariant_of-self-in-None : goal.invariant_of-self-in-None
invariant_of-self-in-None c =
    let self = c.self.inside in
    whole c.self.invariant.count (λ works.
    subst (λ (ws : List Word). AreTied ws self.kernel self.pkrus.items) (sym c.in_ok-flush-in-None.ensures.ok)
    (tied_flushed self.words self.kernel self.pkrus.items (c.self.invariant.tied works) c.args.thread c.args.addr))
