use Rattle.std.proofs.Common.{◌-◌}
use Rattle.zo_layout.specs.Layout.{coffer_entry, coffer_next}
use Rattle.kern_model.specs.KernelView.{pages_of}
use Rattle.kern_model.specs.Journal.{kernel_word}
use Rattle.kern_model.specs.KernelTables.{belongs, chain_in, longest_chain}
use Rattle.kern_view.proofs.ChainLemmas.{IsFollowed}
use Rattle.kern_view.proofs.tables.Tables.mark_chain.Given as goal

abbrev pub invariant-loop : goal.invariant-loop
invariant-loop l =
    IsFollowed (belongs (pages_of l.self) (kernel_word l.self) l.bucket) (λ id. kernel_word l.self (coffer_next (coffer_entry (pages_of l.self) id)))
    (chain_in (pages_of l.self) (kernel_word l.self) l.bucket) (longest_chain - l.counter) l.id l.seen
