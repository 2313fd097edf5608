use Rattle.std.proofs.Common.{[]}
use Rattle.tr_script.specs.Places.{AnyPath}
use Rattle.tr_script.proofs.ReadingLemmas.{passed}
use Rattle.tr_script.proofs.WordLemmas.{behind}
use Rattle.tr_script.proofs.reader.line.stat_command.Goals as goal

pub returns-in_err-path-clause-bad : goal.returns-in_err-path-clause-bad
returns-in_err-path-clause-bad c =
    passed c.from_residual.result c.in_err-path.field-0.0 c.from_residual.ensures.1
    (λ place bad d. bad d []) c.in_err-path.ensures.bad

pub returns-in_err-end-clause-bad : goal.returns-in_err-end-clause-bad
returns-in_err-end-clause-bad c =
    let taken-1 = c.in_ok-path.ensures.ok in
    passed c.from_residual-in_err-end.result c.in_err-end.field-0.0 c.from_residual-in_err-end.ensures.1
    (λ place bad d. behind place d AnyPath [] c.args.words.now c.any_path.new.words taken-1.0 taken-1.1
    (bad d)) c.in_err-end.ensures.bad
