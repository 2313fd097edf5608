use Rattle.std.proofs.Common.{arith, sym, ap, Some, ◌∙◌}
use Rattle.tr_script.proofs.WordLemmas.{one_name, same_caller}
use Rattle.tr_script.proofs.reader.seen.Seen.stray_thread.Goals as goal

pub returns-else-ne-clause-none : goal.returns-else-ne-clause-none
returns-else-ne-clause-none c = λ found.
    let some = c.in_ok-thread.ensures.some in
    let low = some.1 in
    let found_low = found.2 in
    let same = one_name 116 found.0 c.in_ok-thread.thread c.args.word.now (omega arith) (omega arith) found.1 some.0 in
    let calls = same_caller c.self.inside.calling c.in_ok-thread.thread (sym c.ne.ensures ∙ c.if-ne.false) in
    found.4 (sym (λ i. (c.self.view_is i).calling) ∙ calls ∙ ap Some (sym same))
