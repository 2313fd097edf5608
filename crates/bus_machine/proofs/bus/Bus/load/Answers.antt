use Rattle.std.proofs.Common.{List, length, sym, subst, ◌∙◌}
use Rattle.pm_words.specs.Memory.{IsAddress}
use Rattle.bus_machine.specs.View.{MachineView}
use Rattle.bus_machine.proofs.Accesses.{load_address}
use Rattle.bus_machine.proofs.bus.Bus.load.Goals as goal

pub load-requires : goal.load-requires
load-requires c =
    subst (λ (v : MachineView). IsAddress (length v.bus.words) c.args.addr) (sym c.self.view_is)
    (load_address c.args.self.now.bus c.args.thread c.args.addr (sym c.load_refusal.ensures ∙ c.in-None.is))
