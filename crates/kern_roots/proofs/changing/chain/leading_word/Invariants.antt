use Rattle.std.proofs.Common.{◌≡◌, true}
use Rattle.std.specs.List.{list_all}
use Rattle.zo_layout.specs.Layout.{path_bucket}
use Rattle.kern_model.specs.KernelView.{pages_of}
use Rattle.kern_model.specs.Journal.{kernel_word}
use Rattle.kern_model.specs.KernelTables.{is_id, chain_in}
use Rattle.kern_model.specs.PathMap as map
use Rattle.kern_roots.proofs.ChangingChain.{chain_after}
use Rattle.kern_roots.proofs.changing.chain.leading_word.Given as goal

abbrev pub invariant-loop-step : goal.invariant-loop-step
invariant-loop-step l = record {
  ids : list_all is_id (chain_after (pages_of l.words) (kernel_word l.words) l._step l.coffer) ≡ true;
  leads : map.leads_to (pages_of l.words) l.place (chain_after (pages_of l.words) (kernel_word l.words) l._step l.coffer) l.id
      ≡ map.leads_to (pages_of l.words) (path_bucket (pages_of l.words) l.bucket) (chain_in (pages_of l.words) (kernel_word l.words) l.bucket) l.id;
}
