use Rattle.std.proofs.Common.{◌∙◌, ℕ, List, ◌++◌, ap, take, drop, length, replicate, min}
use Rattle.std.proofs.lemmas.List.{take_rest}
use Rattle.kern_roots.proofs.ChangingPairs.{padded}
use Rattle.kern_roots.proofs.changing.pairs.eight_bytes.Goals as goal

pub returns : goal.returns
returns c =
    let rest = drop c.args.start c.args.text.now in
    let whole = take_rest c.args.text.now c.args.start in
    ap (λ (xs : List ℕ). xs ++ drop c.min-count.result (replicate 8 0)) (c.copy_from_slice.ensures.after ∙ ap (take c.min-count.result) whole)
    ∙ padded rest c.min-count.result (c.min-count.ensures ∙ ap (λ (xs : List ℕ). min (length xs) 8) whole)
