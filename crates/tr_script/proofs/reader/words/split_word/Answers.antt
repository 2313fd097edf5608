use Rattle.std.proofs.Common.{◌∷◌, take, sym, ◌∙◌, ap, List, ℕ}
use Rattle.tr_script.specs.Grammar.{words_of}
use Rattle.tr_script.proofs.PieceLemmas.{words_of_first, words_of_last, after_is}
use Rattle.tr_script.proofs.reader.words.split_word.Goals as goal

pub returns-in-Some-clause-words : goal.returns-in-Some-clause-words
returns-in-Some-clause-words c =
    let found = c.in-Some.ensures in
    let text = c.args.rest.now in
    words_of_first text c.in-Some.end found.0.high found.0.before found.1
    ∙ ap (λ (after : List ℕ). take c.in-Some.end text ∷ words_of after) (sym (after_is text c.in-Some.end))

pub returns-in-None-clause-words : goal.returns-in-None-clause-words
returns-in-None-clause-words c = words_of_last c.args.rest.now c.in-None.ensures
