use Rattle.std.proofs.Common.{◌≡◌, ◌++◌, List, ℕ, length, drop, replicate, ap, ◌∙◌}
use Rattle.byteorder.specs.Endian.{little_number}
use Rattle.zo_hash_dir.proofs.LettersLemmas.{word_read}
use Rattle.zo_hash_dir.proofs.letters.word_of_letters.Goals as goal

pub returns : goal.returns
returns c =
    let behind = drop (length c.args.letters.now) (replicate 8 0) in
    let read : c.read_u64.result ≡ little_number 8 (c.copy_from_slice.new.self ++ behind) = c.read_u64.ensures in
    read
    ∙ ap (λ (letters : List ℕ). little_number 8 (letters ++ behind)) c.copy_from_slice.ensures.after
    ∙ word_read c.args.letters.now c.requires
