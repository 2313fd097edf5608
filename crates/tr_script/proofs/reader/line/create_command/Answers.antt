use Rattle.std.proofs.Common.{[], ◌∷◌, refl}
use Rattle.tr_script.specs.Places.{FileMode, FilePath}
use Rattle.tr_script.proofs.ReadingLemmas.{passed}
use Rattle.tr_script.proofs.WordLemmas.{behind}
use Rattle.tr_script.proofs.reader.line.create_command.Goals as goal

pub returns-in_err-path-clause-bad : goal.returns-in_err-path-clause-bad
returns-in_err-path-clause-bad c =
    passed c.from_residual.result c.in_err-path.field-0.0 c.from_residual.ensures.1
    (λ place bad d. bad d (FileMode ∷ [])) c.in_err-path.ensures.bad

pub returns-in_err-mode-clause-bad : goal.returns-in_err-mode-clause-bad
returns-in_err-mode-clause-bad c =
    let taken-1 = c.in_ok-path.ensures.ok in
    passed c.from_residual-in_err-mode.result c.in_err-mode.field-0.0 c.from_residual-in_err-mode.ensures.1
    (λ place bad d. behind place d FilePath (FileMode ∷ []) c.args.words.now c.file_path.new.words taken-1.0 taken-1.1
    (bad d [])) c.in_err-mode.ensures.bad

pub returns-in_err-end-clause-bad : goal.returns-in_err-end-clause-bad
returns-in_err-end-clause-bad c =
    let taken-1 = c.in_ok-path.ensures.ok in
    let taken-2 = c.in_ok-mode.ensures.ok in
    passed c.from_residual-in_err-end.result c.in_err-end.field-0.0 c.from_residual-in_err-end.ensures.1
    (λ place bad d. behind place d FilePath (FileMode ∷ []) c.args.words.now c.file_path.new.words taken-1.0 taken-1.1
    (behind place d FileMode [] c.file_path.new.words c.file_mode.new.words taken-2.0 refl
    (bad d))) c.in_err-end.ensures.bad
