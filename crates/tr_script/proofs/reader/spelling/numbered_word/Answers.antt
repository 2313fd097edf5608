use Rattle.std.proofs.Common.{arith}
use Rattle.tr_script.proofs.SpellingLemmas.{number_is}
use Rattle.tr_script.proofs.reader.spelling.numbered_word.Goals as goal

pub returns-else-number-most-clause-none : goal.returns-else-number-most-clause-none
returns-else-number-most-clause-none c = λ n below same.
    let is = number_is _ _ c.in_ok-number.number n _ _ c.in_ok-first.ensures.cases.0 c.in_ok-number.ensures.some (omega arith) (omega arith) same in
    omega arith

pub returns-else-number-ge1-clause-none : goal.returns-else-number-ge1-clause-none
returns-else-number-ge1-clause-none c = λ n below same.
    let is = number_is _ _ c.in_ok-number.number n _ _ c.in_ok-first.ensures.cases.0 c.in_ok-number.ensures.some (omega arith) (omega arith) same in
    omega arith
