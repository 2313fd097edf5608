use Rattle.std.proofs.Common.{[], refl}
use Rattle.tr_script.specs.Places.{KnownThread}
use Rattle.tr_script.proofs.ReadingLemmas.{passed}
use Rattle.tr_script.proofs.WordLemmas.{behind}
use Rattle.tr_script.proofs.reader.line.only_thread.Goals as goal

pub returns-in_err-end-clause-bad : goal.returns-in_err-end-clause-bad
returns-in_err-end-clause-bad c =
    let taken-1 = c.in_ok-thread.ensures.ok in
    passed c.from_residual-in_err-end.result c.in_err-end.field-0.0 c.from_residual-in_err-end.ensures.1
    (λ place bad. behind place c.args.seen.now KnownThread [] c.args.words.now c.known_thread.new.words taken-1.0 (c.in_ok-thread.thread, refl, taken-1.1, taken-1.2)
    (bad c.args.seen.now)) c.in_err-end.ensures.bad
