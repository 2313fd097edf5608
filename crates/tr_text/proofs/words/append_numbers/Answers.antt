use Rattle.tr_text.proofs.TextLemmas.{kept_on}
use Rattle.tr_text.proofs.words.append_numbers.Goals as goal

pub returns-in_err-append_number-clause-kept : goal.returns-in_err-append_number-clause-kept
returns-in_err-append_number-clause-kept c =
    let behind_word = kept_on _ _ _ _ c.loop-number.invariant c.append_number.ensures.kept in
    kept_on _ _ _ _ c.in_ok-extend_from_slice.ensures.items behind_word
