use Rattle.std.proofs.Common.{Contains, arith, subst}
use Rattle.std.proofs.lemmas.Bool.{iff_false}
use Rattle.tr_script.proofs.WordLemmas.{one_name}
use Rattle.tr_script.proofs.reader.seen.Seen.known_process.Goals as goal

pub returns-else-has_process-clause-none : goal.returns-else-has_process-clause-none
returns-else-has_process-clause-none c = λ found.
    let some = c.in_ok-process.ensures.some in
    let low = some.1 in
    let found_low = found.2 in
    let same = one_name 112 found.0 c.in_ok-process.process c.args.word.now (omega arith) (omega arith) found.1 some.0 in
    iff_false c.has_process.ensures c.if-has_process.false (subst (Contains c.args.self.now.processes) same found.3)
