use Rattle.std.proofs.Common.{◌∙◌, ℕ, [], ◌∷◌, ◌++◌, get_or, ap}
use Rattle.std.proofs.lemmas.List.{get_or_default}
use Rattle.kern_roots.proofs.ChangingPairs.{from_address_more}
use Rattle.kern_roots.proofs.changing.pairs.from_address.Goals as goal

pub loop-i-preserved : goal.loop-i-preserved
loop-i-preserved c =
    let ws = c.args.ws.now in
    let w = get_or ws c.loop-i.i 0 in
    c.in_ok-push.ensures.items
    ∙ ap (λ (a : ℕ). c.loop-i.pairs.items ++ (a, w) ∷ []) c.word_of.ensures
    ∙ from_address_more c.args.start c.loop-i.i ws w c.loop-i.pairs.items c.loop-i-test.true (get_or_default ws c.loop-i.i w 0 c.loop-i-test.true) c.loop-i.invariant
