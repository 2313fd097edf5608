use Rattle.kern_calls.proofs.kernel.Kernel.process_of.Goals as goal

pub returns-clause-started : goal.returns-clause-started
returns-clause-started c = rw (← c.self.view_is) (λ process is. c.self.invariant.started c.args.thread process is)
