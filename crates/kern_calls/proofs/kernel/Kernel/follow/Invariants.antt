use Rattle.std.proofs.Common.{◌≡◌, drop}
use Rattle.kern_calls.specs.Steps.{KnowsUpTo}
use Rattle.kern_calls.proofs.kernel.Kernel.follow.Given as goal

abbrev pub invariant-loop-addr : goal.invariant-loop-addr
invariant-loop-addr l = record {
  callers : l.self.callers ≡ l.initial.self.callers;
  holders : l.self.holders ≡ l.initial.self.holders;
  known : KnowsUpTo l.words (drop l.addr-index l.pairs) l.self.owners;
}
