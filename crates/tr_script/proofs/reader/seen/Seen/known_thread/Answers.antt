use Rattle.std.proofs.Common.{arith, subst}
use Rattle.std.proofs.lemmas.Bool.{iff_false}
use Rattle.tr_script.specs.Grammar.{IsThreadOf}
use Rattle.tr_script.proofs.WordLemmas.{one_name}
use Rattle.tr_script.proofs.reader.seen.Seen.known_thread.Goals as goal

pub returns-else-has_thread-clause-none : goal.returns-else-has_thread-clause-none
returns-else-has_thread-clause-none c = λ found.
    let some = c.in_ok-thread.ensures.some in
    let low = some.1 in
    let found_low = found.2 in
    let same = one_name 116 found.0 c.in_ok-thread.thread c.args.word.now (omega arith) (omega arith) found.1 some.0 in
    iff_false c.has_thread.ensures c.if-has_thread.false (subst (IsThreadOf c.args.self.now) same found.3)
