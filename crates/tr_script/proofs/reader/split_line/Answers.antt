use Rattle.std.proofs.Common.{◌∷◌, take, sym, ◌∙◌, ap, List, ℕ}
use Rattle.tr_script.specs.Grammar.{lines_of}
use Rattle.tr_script.proofs.PieceLemmas.{lines_of_first, lines_of_last, after_is}
use Rattle.tr_script.proofs.reader.split_line.Goals as goal

pub returns-in-Some-clause-lines : goal.returns-in-Some-clause-lines
returns-in-Some-clause-lines c =
    let found = c.in-Some.ensures in
    let text = c.args.text.now in
    lines_of_first text c.in-Some.end found.0.high found.0.before found.1
    ∙ ap (λ (after : List ℕ). take c.in-Some.end text ∷ lines_of after) (sym (after_is text c.in-Some.end))

pub returns-in-None-clause-lines : goal.returns-in-None-clause-lines
returns-in-None-clause-lines c = lines_of_last c.args.text.now c.requires c.in-None.ensures
