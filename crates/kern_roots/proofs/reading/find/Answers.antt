use Rattle.std.proofs.Common.{ℕ, List, ap, ◌∙◌, sym}
use Rattle.std.specs.Prelude.{option_map}
use Rattle.kern_model.specs.Kernel.{coffers}
use Rattle.kern_model.specs.PathMap.{coffer_of_path}
use Rattle.tr_types.specs.Paths.{is_path_text}
use Rattle.kern_roots.specs.Reading.{found_of}
use Rattle.kern_roots.proofs.ReadingChildren.{found_is}
use Rattle.kern_roots.proofs.reading.find.Goals as goal

pub returns : goal.returns
returns c =
    let words = c.args.words.now in
    let front = c.longest_front-front.ensures in
    let bytes = c.as_bytes-bytes.ensures in
    let found = found_is words c.as_bytes-bytes.result.now c.longest_front-front.result.id c.longest_front-front.result.end (ap is_path_text bytes ∙ c.requires.path) front.coffer front.front front.end in
    ap (λ (path : List ℕ). option_map (found_of path) (coffer_of_path (coffers words) path)) (sym bytes) ∙ found
