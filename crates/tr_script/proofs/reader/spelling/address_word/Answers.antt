use Rattle.std.proofs.Common.{arith}
use Rattle.tr_script.proofs.WordLemmas.{one_number}
use Rattle.tr_script.proofs.reader.spelling.address_word.Goals as goal

pub returns-else-addr-le-LAST_ADDRESS-clause-none : goal.returns-else-addr-le-LAST_ADDRESS-clause-none
returns-else-addr-le-LAST_ADDRESS-clause-none c = λ addr is spelled.
    let whole = is.0 in
    let high = is.1 in
    let same = one_number c.in_ok-addr.addr addr c.args.word.now (omega arith) (omega arith) c.in_ok-addr.ensures.some spelled in
    let no = c.if-addr-le-LAST_ADDRESS.false in
    omega arith

pub returns-else-addr-eq0-clause-none : goal.returns-else-addr-eq0-clause-none
returns-else-addr-eq0-clause-none c = λ addr is spelled.
    let whole = is.0 in
    let high = is.1 in
    let same = one_number c.in_ok-addr.addr addr c.args.word.now (omega arith) (omega arith) c.in_ok-addr.ensures.some spelled in
    let no = c.if-addr-eq0.false in
    omega arith
