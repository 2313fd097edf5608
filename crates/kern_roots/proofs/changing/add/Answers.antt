use Rattle.std.proofs.Common.{◌∙◌, ℕ, List, ap, sym}
use Rattle.kern_model.specs.PathMap as map
use Rattle.kern_model.specs.KernelView.{pages_of}
use Rattle.kern_model.specs.Journal.{kernel_word}
use Rattle.kern_roots.specs.Changes.{new_coffer, is_taken}
use Rattle.kern_roots.proofs.changing.add.Goals as goal

pub returns : goal.returns
returns c =
    let words = c.args.words.now in (
      ap (is_taken (pages_of words) (kernel_word words)) (sym c.as_bytes.ensures) ∙ sym c.if-is_taken.ensures,
      sym c.in-Some.ensures.least_free,
      c.in_ok-pairs.ensures ∙ ap (λ (text : List ℕ). map.added_pairs (pages_of words) (kernel_word words) (new_coffer c.in-Some.id text c.args.root.now)) c.as_bytes-2.ensures,
    )
