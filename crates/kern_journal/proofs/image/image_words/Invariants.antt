use Rattle.std.proofs.Common.{◌≡◌, ◌+◌, ◌*◌, map}
use Rattle.std.specs.List.{range_with_len}
use Rattle.kern_model.specs.NewImage.{new_word}
use Rattle.kern_journal.proofs.image.image_words.Given as goal

abbrev pub invariant-loop-i : goal.invariant-loop-i
invariant-loop-i l = l.words.items ≡ map (new_word l.pages) (range_with_len 0 (512 * l.page + l.i))

abbrev pub invariant-loop-page : goal.invariant-loop-page
invariant-loop-page l = l.words.items ≡ map (new_word l.pages) (range_with_len 0 (512 * l.page))
