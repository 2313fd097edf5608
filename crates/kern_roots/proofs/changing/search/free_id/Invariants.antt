use Rattle.std.proofs.Common.{◌≡◌, find, not}
use Rattle.kern_model.specs.KernelView.{pages_of}
use Rattle.kern_model.specs.Journal.{kernel_word}
use Rattle.kern_model.specs.KernelTables.{stands_in}
use Rattle.kern_model.specs.PathMap as map
use Rattle.kern_roots.proofs.ChangingSearch.{ids_from}
use Rattle.kern_roots.proofs.changing.search.free_id.Given as goal

abbrev pub invariant-loop-id : goal.invariant-loop-id
invariant-loop-id l =
    find (λ id. not (stands_in (pages_of l.words) (kernel_word l.words) id)) (ids_from l.id) ≡ map.free_id (pages_of l.words) (kernel_word l.words)
