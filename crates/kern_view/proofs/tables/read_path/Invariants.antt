use Rattle.std.proofs.Common.{◌≡◌}
use Rattle.std.specs.List.{range_with_len, flat_map}
use Rattle.std.specs.Int.{w64, to_le_bytes}
use Rattle.zo_layout.specs.Layout.{coffer_entry, coffer_path_word}
use Rattle.kern_model.specs.KernelView.{pages_of}
use Rattle.kern_model.specs.Journal.{kernel_word}
use Rattle.kern_view.proofs.tables.read_path.Given as goal

abbrev pub invariant-loop-i : goal.invariant-loop-i
invariant-loop-i l =
    l.bytes.items ≡ flat_map (λ i. to_le_bytes w64 (kernel_word l.view (coffer_path_word (coffer_entry (pages_of l.view) l.id) i))) (range_with_len 0 l.i)
