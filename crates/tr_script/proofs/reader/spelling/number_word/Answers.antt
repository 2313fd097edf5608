use Rattle.std.proofs.Common.{sym, subst, ◌∙◌}
use Rattle.std.proofs.lemmas.Bool.{iff_false}
use Rattle.tr_script.proofs.SpellingLemmas.{IsPlain, decimal_is_plain, number_found, number_missed, text_is_word, no_text_no_number}
use Rattle.tr_script.proofs.reader.spelling.number_word.Goals as goal

pub returns-then-not-begins_plain-clause-none : goal.returns-then-not-begins_plain-clause-none
returns-then-not-begins_plain-clause-none c = λ n small is.
    iff_false c.begins_plain.ensures c.if-not-begins_plain.true (subst IsPlain (sym is) (decimal_is_plain n small))

pub returns-in_err-text-clause-none : goal.returns-in_err-text-clause-none
returns-in_err-text-clause-none c =
    rw c.from_residual.ensures (no_text_no_number _ _ _ c.from_utf8.ensures.cases (sym c.ok.ensures.value ∙ c.in_err-text.was))

pub returns-clause-some : goal.returns-clause-some
returns-clause-some c =
    let same = text_is_word _ _ _ _ c.from_utf8.ensures.cases (sym c.ok.ensures.value ∙ c.in_ok-text.was) in
    rw c.ok-2.ensures.value (number_found _ _ _ same (c.begins_plain.ensures.0 c.if-not-begins_plain.false) c.parse.ensures.value.0)

pub returns-clause-none : goal.returns-clause-none
returns-clause-none c =
    let same = text_is_word _ _ _ _ c.from_utf8.ensures.cases (sym c.ok.ensures.value ∙ c.in_ok-text.was) in
    rw c.ok-2.ensures.value (number_missed _ _ _ same c.parse.ensures.value.0)
