use Rattle.std.proofs.Common.{ap, ◌∙◌, arith}
use Rattle.zo_layout.specs.Layout.{coffer_path_length}
use Rattle.kern_model.specs.Journal.{kernel_word}
use Rattle.kern_roots.proofs.ReadingSound.{sound_entry}
use Rattle.kern_roots.proofs.reading.entry.path_len.Goals as goal

pub returns-clause-most : goal.returns-clause-most
returns-clause-most c =
    let entry = sound_entry c.args.words.now c.args.id c.requires.sound c.requires.there in
    let most = entry.path_length in
    let is = c.read.ensures ∙ ap (kernel_word c.args.words.now) (c.coffer_path_length.ensures ∙ ap coffer_path_length c.entry_at.ensures.at) in
    omega arith
