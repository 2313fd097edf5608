use Rattle.std.proofs.Common.{arith, subst, sym}
use Rattle.tr_script.specs.Grammar.{IsThreadOf}
use Rattle.tr_script.proofs.WordLemmas.{one_name}
use Rattle.tr_script.proofs.reader.seen.Seen.new_thread.Goals as goal

pub returns-else-not-has_thread-clause-none : goal.returns-else-not-has_thread-clause-none
returns-else-not-has_thread-clause-none c = λ found.
    let some = c.in_ok-thread.ensures.some in
    let low = some.1 in
    let found_low = found.2 in
    let same = one_name 116 found.0 c.in_ok-thread.thread c.args.word.now (omega arith) (omega arith) found.1 some.0 in
    let there = c.has_thread.ensures.0 c.if-not-has_thread.false in
    found.3 (subst (IsThreadOf c.args.self.now) (sym same) there)
