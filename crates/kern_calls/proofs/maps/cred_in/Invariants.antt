use Rattle.std.proofs.Common.{◌≡◌, drop, map, Contains, Some}
use Rattle.kern_model.specs.KernelCalls.{cred_in}
use Rattle.kern_calls.proofs.maps.cred_in.Given as goal

abbrev pub invariant-loop-started : goal.invariant-loop-started
invariant-loop-started l = record {
  reads : cred_in (drop l.started-index l.processes) (Some l.process) ≡ cred_in l.processes (Some l.process);
  there : Contains (map (λ p. p.0) (drop l.started-index l.processes)) l.process;
}
