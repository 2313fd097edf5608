use Rattle.kern_calls.proofs.PartLemmas.{tied_with_process}
use Rattle.kern_calls.proofs.kernel.Kernel.start_process.Goals as goal

pub invariant_of-self-2 : goal.invariant_of-self-2
invariant_of-self-2 c = tied_with_process c.self.inside.processes.items c.push.new.self.items _ _ _ c.args.process c.args.cred c.self.invariant c.in_ok-push.ensures.items
