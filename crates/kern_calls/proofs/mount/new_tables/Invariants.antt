use Rattle.std.proofs.Common.{◌≡◌, []}
use Rattle.kern_calls.proofs.PartLemmas.{StandUpTo}
use Rattle.kern_calls.proofs.mount.new_tables.Given as goal

abbrev pub invariant-loop-page : goal.invariant-loop-page
invariant-loop-page l = record {
  threads : l.tables.threads ≡ [];
  holders : l.tables.holders ≡ [];
  stand : StandUpTo l.tables.owners l.owners l.page;
}
