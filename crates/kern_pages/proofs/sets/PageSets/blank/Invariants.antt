use Rattle.std.proofs.Common.{◌≡◌, ℕ, [], length, map}
use Rattle.std.specs.BTreeSet.{keys}
use Rattle.kern_pages.specs.Sets.{set_of}
use Rattle.kern_pages.proofs.sets.PageSets.blank.Given as goal

abbrev pub invariant-loop : goal.invariant-loop
invariant-loop l = record {
  count : length l.sets.items ≡ l.counter;
  empty : (owner : ℕ) → set_of (map keys l.sets.items) owner ≡ [];
}
