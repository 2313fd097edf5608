use Rattle.std.proofs.Common.{◌≡◌, length}
use Rattle.words_bench.proofs.store_page.Given as goal

abbrev pub invariant-loop-place : goal.invariant-loop-place
invariant-loop-place l = length l.memory ≡ 524288
