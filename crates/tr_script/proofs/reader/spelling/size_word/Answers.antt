use Rattle.std.proofs.Common.{arith}
use Rattle.tr_script.proofs.WordLemmas.{one_number}
use Rattle.tr_script.proofs.reader.spelling.size_word.Goals as goal

pub returns-else-pages-le-MOST_PAGES-clause-none : goal.returns-else-pages-le-MOST_PAGES-clause-none
returns-else-pages-le-MOST_PAGES-clause-none c = λ pages low high spelled.
    let same = one_number c.in_ok-pages.pages pages c.args.word.now (omega arith) (omega arith) c.in_ok-pages.ensures.some spelled in
    let no = c.if-pages-le-MOST_PAGES.false in
    omega arith

pub returns-else-pages-ge-LEAST_PAGES-clause-none : goal.returns-else-pages-ge-LEAST_PAGES-clause-none
returns-else-pages-ge-LEAST_PAGES-clause-none c = λ pages low high spelled.
    let same = one_number c.in_ok-pages.pages pages c.args.word.now (omega arith) (omega arith) c.in_ok-pages.ensures.some spelled in
    let no = c.if-pages-ge-LEAST_PAGES.false in
    omega arith
