use Rattle.std.proofs.Common.{Contains, arith, subst, sym}
use Rattle.tr_script.proofs.WordLemmas.{one_name}
use Rattle.tr_script.proofs.reader.seen.Seen.new_process.Goals as goal

pub returns-else-not-has_process-clause-none : goal.returns-else-not-has_process-clause-none
returns-else-not-has_process-clause-none c = λ found.
    let some = c.in_ok-process.ensures.some in
    let low = some.1 in
    let found_low = found.2 in
    let same = one_name 112 found.0 c.in_ok-process.process c.args.word.now (omega arith) (omega arith) found.1 some.0 in
    let there = c.has_process.ensures.0 c.if-not-has_process.false in
    found.3 (subst (Contains c.args.self.now.processes) (sym same) there)
