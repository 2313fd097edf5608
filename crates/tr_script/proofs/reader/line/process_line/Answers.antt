use Rattle.std.proofs.Common.{[], ◌∷◌, refl}
use Rattle.tr_script.specs.Places.{NewProcess, Zero}
use Rattle.tr_script.proofs.ReadingLemmas.{passed}
use Rattle.tr_script.proofs.WordLemmas.{behind}
use Rattle.tr_script.proofs.reader.line.process_line.Goals as goal

pub returns-in_err-zero-clause-bad : goal.returns-in_err-zero-clause-bad
returns-in_err-zero-clause-bad c =
    let taken-1 = c.in_ok-process.ensures.ok in
    passed c.from_residual-in_err-zero.result c.in_err-zero.field-0.0 c.from_residual-in_err-zero.ensures.1
    (λ place bad. behind place c.args.seen.now NewProcess (Zero ∷ Zero ∷ []) c.args.words.now c.new_process.new.words taken-1.0 (c.in_ok-process.process, refl, taken-1.1, taken-1.2)
    (bad c.args.seen.now (Zero ∷ []))) c.in_err-zero.ensures.bad

pub returns-in_err-zero-2-clause-bad : goal.returns-in_err-zero-2-clause-bad
returns-in_err-zero-2-clause-bad c =
    let taken-1 = c.in_ok-process.ensures.ok in
    let taken-2 = c.in_ok-zero.ensures.ok in
    passed c.from_residual-in_err-zero-2.result c.in_err-zero-2.field-0.0 c.from_residual-in_err-zero-2.ensures.1
    (λ place bad. behind place c.args.seen.now NewProcess (Zero ∷ Zero ∷ []) c.args.words.now c.new_process.new.words taken-1.0 (c.in_ok-process.process, refl, taken-1.1, taken-1.2)
    (behind place c.args.seen.now Zero (Zero ∷ []) c.new_process.new.words c.zero.new.words taken-2 refl
    (bad c.args.seen.now []))) c.in_err-zero-2.ensures.bad

pub returns-in_err-end-clause-bad : goal.returns-in_err-end-clause-bad
returns-in_err-end-clause-bad c =
    let taken-1 = c.in_ok-process.ensures.ok in
    let taken-2 = c.in_ok-zero.ensures.ok in
    let taken-3 = c.in_ok-zero-2.ensures.ok in
    passed c.from_residual-in_err-end.result c.in_err-end.field-0.0 c.from_residual-in_err-end.ensures.1
    (λ place bad. behind place c.args.seen.now NewProcess (Zero ∷ Zero ∷ []) c.args.words.now c.new_process.new.words taken-1.0 (c.in_ok-process.process, refl, taken-1.1, taken-1.2)
    (behind place c.args.seen.now Zero (Zero ∷ []) c.new_process.new.words c.zero.new.words taken-2 refl
    (behind place c.args.seen.now Zero [] c.zero.new.words c.zero-2.new.words taken-3 refl
    (bad c.args.seen.now)))) c.in_err-end.ensures.bad
