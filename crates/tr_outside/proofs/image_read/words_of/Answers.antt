use Rattle.std.proofs.Common.{◌∙◌}
use Rattle.std.proofs.lemmas.List.{with_items_is}
use Rattle.tr_outside.proofs.ImageWords.{words_read}
use Rattle.tr_outside.proofs.image_read.words_of.Goals as goal

pub returns : goal.returns
returns c =
    let same = c.read_u64_into.auto.dst in
    let held = c.deref_mut.ensures.len in
    let made = c.in_ok-words.ensures.len in
    record { words = with_items_is c.in_ok-words.words c.read_u64_into.new.dst (same ∙ held) ∙ words_read c.args.bytes.now c.read_u64_into.new.dst (same ∙ held ∙ made) c.read_u64_into.ensures }
