use Rattle.std.proofs.Common.{◌≡◌, ◌+◌, length}
use Rattle.words_bench.proofs.make_pending.Given as goal

abbrev pub invariant-loop-place : goal.invariant-loop-place
invariant-loop-place l = (length l.memory ≡ 524288) × (l.place-end ≡ 8 + l.count)
