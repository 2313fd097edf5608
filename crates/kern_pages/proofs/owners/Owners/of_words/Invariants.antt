use Rattle.std.proofs.Common.{◌≡◌, map}
use Rattle.std.specs.List.{range_with_len}
use Rattle.kern_model.specs.Kernel.{kernel_owner}
use Rattle.kern_pages.specs.Sets.{AreSetsOf}
use Rattle.kern_pages.proofs.owners.Owners.of_words.Given as goal

abbrev pub invariant-loop-page : goal.invariant-loop-page
invariant-loop-page l = record {
  owners : l.owners.items ≡ map (kernel_owner l.words) (range_with_len 0 l.page);
  sets : AreSetsOf l.owners.items l.sets;
}
