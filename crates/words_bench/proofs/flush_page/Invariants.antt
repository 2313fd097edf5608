use Rattle.std.proofs.Common.{◌≡◌, length}
use Rattle.words_bench.proofs.flush_page.Given as goal

abbrev pub invariant-loop-line : goal.invariant-loop-line
invariant-loop-line l = length l.memory ≡ 524288
