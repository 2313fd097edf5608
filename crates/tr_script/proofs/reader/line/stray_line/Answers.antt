use Rattle.std.proofs.Common.{[], ◌∷◌, refl}
use Rattle.tr_script.specs.Places.{Address, Number, StrayThread}
use Rattle.tr_script.proofs.ReadingLemmas.{passed}
use Rattle.tr_script.proofs.WordLemmas.{behind}
use Rattle.tr_script.proofs.reader.line.stray_line.Goals as goal

pub returns-in_err-addr-clause-bad : goal.returns-in_err-addr-clause-bad
returns-in_err-addr-clause-bad c =
    let taken-1 = c.in_ok-thread.ensures.ok in
    passed c.from_residual-in_err-addr.result c.in_err-addr.field-0.0 c.from_residual-in_err-addr.ensures.1
    (λ place bad. behind place c.args.seen.now StrayThread (Address ∷ Number ∷ []) c.args.words.now c.stray_thread.new.words taken-1.0 (c.in_ok-thread.thread, refl, taken-1.1, taken-1.2, taken-1.3)
    (bad c.args.seen.now (Number ∷ []))) c.in_err-addr.ensures.bad

pub returns-in_err-word-clause-bad : goal.returns-in_err-word-clause-bad
returns-in_err-word-clause-bad c =
    let taken-1 = c.in_ok-thread.ensures.ok in
    let taken-2 = c.in_ok-addr.ensures.ok in
    passed c.from_residual-in_err-word.result c.in_err-word.field-0.0 c.from_residual-in_err-word.ensures.1
    (λ place bad. behind place c.args.seen.now StrayThread (Address ∷ Number ∷ []) c.args.words.now c.stray_thread.new.words taken-1.0 (c.in_ok-thread.thread, refl, taken-1.1, taken-1.2, taken-1.3)
    (behind place c.args.seen.now Address (Number ∷ []) c.stray_thread.new.words c.address.new.words taken-2.0 (c.in_ok-addr.addr, refl, taken-2.1)
    (bad c.args.seen.now []))) c.in_err-word.ensures.bad

pub returns-in_err-end-clause-bad : goal.returns-in_err-end-clause-bad
returns-in_err-end-clause-bad c =
    let taken-1 = c.in_ok-thread.ensures.ok in
    let taken-2 = c.in_ok-addr.ensures.ok in
    let taken-3 = c.in_ok-word.ensures.ok in
    passed c.from_residual-in_err-end.result c.in_err-end.field-0.0 c.from_residual-in_err-end.ensures.1
    (λ place bad. behind place c.args.seen.now StrayThread (Address ∷ Number ∷ []) c.args.words.now c.stray_thread.new.words taken-1.0 (c.in_ok-thread.thread, refl, taken-1.1, taken-1.2, taken-1.3)
    (behind place c.args.seen.now Address (Number ∷ []) c.stray_thread.new.words c.address.new.words taken-2.0 (c.in_ok-addr.addr, refl, taken-2.1)
    (behind place c.args.seen.now Number [] c.address.new.words c.number.new.words taken-3.0 (c.in_ok-word.word, refl, taken-3.1)
    (bad c.args.seen.now)))) c.in_err-end.ensures.bad
