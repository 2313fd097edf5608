use Rattle.std.proofs.Common.{◌≡◌, length}
use Rattle.kern_stand.proofs.image.put.Given as goal

abbrev pub invariant-loop-addr : goal.invariant-loop-addr
invariant-loop-addr l = length l.words ≡ length l.fn.words
