use Rattle.std.proofs.Common.{◌≡◌, ◌∙◌, ℕ, ap}
use Rattle.zo_layout.specs.Layout.{bucket_of, path_bucket}
use Rattle.kern_model.specs.KernelView.{pages_of}
use Rattle.kern_model.specs.Journal.{kernel_word}
use Rattle.kern_model.specs.KernelTables.{path_in, chain_in}
use Rattle.kern_model.specs.PathMap.{leads_to, leading_word}
use Rattle.kern_roots.proofs.ChangingPairs.{dropped_are}
use Rattle.kern_roots.proofs.changing.dropped_pairs.Goals as goal

pub returns : goal.returns
returns c =
    let words = c.args.words.now in
    let pages = pages_of words in
    let at = kernel_word words in
    let bucket : c.bucket_of.result ≡ bucket_of (path_in pages at c.args.id) = c.bucket_of.ensures ∙ ap bucket_of (c.deref.ensures.value ∙ c.in_ok-path.ensures) in
    let lead : c.leading_word-lead.result ≡ leading_word pages at c.args.id =
    c.leading_word-lead.ensures ∙ ap (λ (b : ℕ). leads_to pages (path_bucket pages b) (chain_in pages at b) c.args.id) bucket in
    c.from_vec.ensures
    ∙ dropped_are pages at c.args.id c.entry_at.result c.leading_word-lead.result c.next_of.result c.in_ok-pairs.pairs.items c.put_pair.new.pairs.items
    c.entry_at.ensures.at lead c.next_of.ensures c.in_ok-pairs.ensures c.in_ok-put_pair.ensures
