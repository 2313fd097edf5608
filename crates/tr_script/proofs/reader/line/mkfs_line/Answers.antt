use Rattle.std.proofs.Common.{[], refl}
use Rattle.tr_script.specs.Places.{Size}
use Rattle.tr_script.proofs.ReadingLemmas.{passed}
use Rattle.tr_script.proofs.WordLemmas.{behind}
use Rattle.tr_script.proofs.reader.line.mkfs_line.Goals as goal

pub returns-in_err-pages-clause-bad : goal.returns-in_err-pages-clause-bad
returns-in_err-pages-clause-bad c =
    passed c.from_residual.result c.in_err-pages.field-0.0 c.from_residual.ensures.1
    (λ place bad d. bad d []) c.in_err-pages.ensures.bad

pub returns-in_err-end-clause-bad : goal.returns-in_err-end-clause-bad
returns-in_err-end-clause-bad c =
    let taken-1 = c.in_ok-pages.ensures.ok in
    passed c.from_residual-in_err-end.result c.in_err-end.field-0.0 c.from_residual-in_err-end.ensures.1
    (λ place bad d. behind place d Size [] c.args.words.now c.size.new.words taken-1.0 (c.in_ok-pages.pages, refl, taken-1.1, taken-1.2)
    (bad d)) c.in_err-end.ensures.bad
