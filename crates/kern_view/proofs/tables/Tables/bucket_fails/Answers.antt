use Rattle.std.proofs.Common.{ℕ, Bool, not, ◌&&◌, ap, sym, ◌∙◌, slice_index_or, false}
use Rattle.std.specs.List.{list_all, filter}
use Rattle.kern_model.specs.KernelView.{pages_of}
use Rattle.kern_model.specs.Journal.{kernel_word}
use Rattle.kern_model.specs.KernelTables.{all_ids, belongs, chain_in, is_in_chain}
use Rattle.kern_view.proofs.ChainLemmas.{none_marked}
use Rattle.kern_view.proofs.RangeLemmas.{same_of_all}
use Rattle.kern_view.proofs.tables.Tables.bucket_fails.Goals as goal

pub mark_chain-requires-clause-blank : goal.mark_chain-requires-clause-blank
mark_chain-requires-clause-blank c = λ id. none_marked 257 id

pub returns-else-not-mark_chain : goal.returns-else-not-mark_chain
returns-else-not-mark_chain c =
    let words = c.args.self.now in
    let good : ℕ → Bool = belongs (pages_of words) (kernel_word words) c.args.bucket in
    let chain = chain_in (pages_of words) (kernel_word words) c.args.bucket in
    let in_chain : ℕ → Bool = λ id. is_in_chain id chain in
    let seen : ℕ → Bool = λ id. slice_index_or c.mark_chain.new.seen id false in
    c.lacks_one.ensures
    ∙ ap not (same_of_all good seen in_chain (λ k le. c.mark_chain.ensures.marked c.if-not-mark_chain.false k le))
    ∙ ap (λ (b : Bool). not (b && list_all in_chain (filter good all_ids))) (sym c.if-not-mark_chain.false ∙ c.mark_chain.ensures.good)
