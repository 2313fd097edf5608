use Rattle.std.proofs.Common.{◌≡◌, ◌-◌, filter}
use Rattle.std.specs.List.{range_with_len}
use Rattle.kern_roots.specs.Fronts.{is_child_of}
use Rattle.kern_roots.proofs.reading.list_children.Given as goal

abbrev pub invariant-loop-other : goal.invariant-loop-other
invariant-loop-other l = l.ids.items ≡ filter (λ k. is_child_of l.words k l.id) (range_with_len 1 (l.other - 1))
