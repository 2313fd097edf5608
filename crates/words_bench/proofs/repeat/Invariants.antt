use Rattle.std.proofs.Common.{◌≡◌, length}
use Rattle.words_bench.proofs.repeat.Given as goal

abbrev pub invariant-loop-time : goal.invariant-loop-time
invariant-loop-time l = length l.memory ≡ 524288
