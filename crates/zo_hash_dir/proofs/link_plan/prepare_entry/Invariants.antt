use Rattle.std.proofs.Common.{◌≡◌, ◌+◌, ◌*◌, ◌<◌, ◌++◌, length, map}
use Rattle.std.specs.List.{range_with_len}
use Rattle.zo_hash_dir.specs.Links.{letters_put}
use Rattle.zo_hash_dir.proofs.link_plan.prepare_entry.Given as goal

abbrev pub invariant-loop-i : goal.invariant-loop-i
invariant-loop-i l = record {
  words : l.prepares.items ≡ l.initial.prepares.items ++ map (letters_put l.entry l.name) (range_with_len 0 l.i);
  begun : 8 * l.i < length l.name + 8;
}
