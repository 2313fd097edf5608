use Rattle.std.proofs.Common.{[], ◌∷◌, refl}
use Rattle.tr_script.specs.Places.{KnownProcess, NewThread}
use Rattle.tr_script.proofs.ReadingLemmas.{passed}
use Rattle.tr_script.proofs.WordLemmas.{behind}
use Rattle.tr_script.proofs.reader.line.thread_line.Goals as goal

pub returns-in_err-process-clause-bad : goal.returns-in_err-process-clause-bad
returns-in_err-process-clause-bad c =
    let taken-1 = c.in_ok-thread.ensures.ok in
    passed c.from_residual-in_err-process.result c.in_err-process.field-0.0 c.from_residual-in_err-process.ensures.1
    (λ place bad. behind place c.args.seen.now NewThread (KnownProcess ∷ []) c.args.words.now c.new_thread.new.words taken-1.0 (c.in_ok-thread.thread, refl, taken-1.1, taken-1.2)
    (bad [])) c.in_err-process.ensures.bad

pub returns-in_err-end-clause-bad : goal.returns-in_err-end-clause-bad
returns-in_err-end-clause-bad c =
    let taken-1 = c.in_ok-thread.ensures.ok in
    let taken-2 = c.in_ok-process.ensures.ok in
    passed c.from_residual-in_err-end.result c.in_err-end.field-0.0 c.from_residual-in_err-end.ensures.1
    (λ place bad. behind place c.args.seen.now NewThread (KnownProcess ∷ []) c.args.words.now c.new_thread.new.words taken-1.0 (c.in_ok-thread.thread, refl, taken-1.1, taken-1.2)
    (behind place c.args.seen.now KnownProcess [] c.new_thread.new.words c.known_process.new.words taken-2.0 (c.in_ok-process.process, refl, taken-2.1, taken-2.2)
    (bad c.args.seen.now))) c.in_err-end.ensures.bad
