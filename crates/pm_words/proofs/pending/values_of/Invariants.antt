use Rattle.std.proofs.Common.{◌≡◌, ◌++◌, drop}
use Rattle.pm_words.specs.View.{values_at}
use Rattle.pm_words.proofs.pending.values_of.Given as goal

abbrev pub invariant-loop-entry : goal.invariant-loop-entry
invariant-loop-entry l = l.values.items ++ values_at l.place (drop l.entry-index l.older) ≡ values_at l.place l.older
