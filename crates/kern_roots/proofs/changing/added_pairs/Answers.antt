use Rattle.std.proofs.Common.{◌∙◌, ap}
use Rattle.kern_model.specs.PathMap as map
use Rattle.kern_model.specs.KernelView.{pages_of}
use Rattle.kern_model.specs.Journal.{kernel_word}
use Rattle.zo_layout.specs.Layout.{path_bucket}
use Rattle.kern_roots.specs.Changes.{new_coffer}
use Rattle.kern_roots.proofs.ChangingPairs.{added_are}
use Rattle.kern_roots.proofs.changing.added_pairs.Goals as goal

pub returns : goal.returns
returns c =
    let words = c.args.words.now in
    let pages = pages_of words in
    let ws = c.in_ok-ws.ensures.words c.args.id ∙ ap (map.entry_words (new_coffer c.args.id c.args.path.now c.args.root.now)) c.read.ensures in
    c.from_vec.ensures
    ∙ added_are pages (kernel_word words) c.args.id c.args.path.now c.args.root.now c.entry_at.result c.bucket_at-bucket.result c.from.result c.in_ok-ws.ws.items
    c.in_ok-pairs.pairs.items c.push.new.self.items c.entry_at.ensures.at (c.bucket_at-bucket.ensures.at ∙ ap (path_bucket pages) c.bucket_of.ensures) c.from.ensures ws
    (c.in_ok-pairs.ensures ∙ ap (map.from_address c.entry_at.result) c.deref.ensures.value) c.in_ok-push.ensures.items
