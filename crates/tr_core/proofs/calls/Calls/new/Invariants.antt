use Rattle.std.proofs.Common.{◌≡◌, None, replicate}
use Rattle.tr_core.proofs.calls.Calls.new.Given as goal

abbrev pub invariant-loop : goal.invariant-loop
invariant-loop l = l.places.items ≡ replicate l.counter None
