use Rattle.std.proofs.Common.{◌≡◌, ◌-◌, ◌≤◌, map}
use Rattle.std.specs.List.{range_with_len}
use Rattle.kern_model.specs.KernelView.{pages_of}
use Rattle.kern_model.specs.Journal.{kernel_word}
use Rattle.kern_view.specs.Reads.{path_there}
use Rattle.kern_view.proofs.tables.read_paths.Given as goal

abbrev pub invariant-loop-id : goal.invariant-loop-id
invariant-loop-id l = record {
  least : 1 ≤ l.id;
  paths : l.paths.items ≡ map (path_there (pages_of l.view) (kernel_word l.view)) (range_with_len 1 (l.id - 1));
}
