use Rattle.std.proofs.Common.{◌∙◌, ℕ, List, ap, arith, length}
use Rattle.kern_roots.proofs.ChangingPairs.{entry_words_more, entry_words_are, length_entry_words}
use Rattle.kern_roots.proofs.changing.pairs.entry_words.Goals as goal

pub loop-i-preserved : goal.loop-i-preserved
loop-i-preserved c =
    c.in_ok-push.ensures.items
    ∙ entry_words_more c.args.path.now c.loop-i.ws.items c.in_ok-ws.ws.items c.loop-i.i c.text_word.result c.loop-i.invariant c.text_word.ensures

pub returns-clause-words : goal.returns-clause-words
returns-clause-words c = λ id.
    entry_words_are id c.args.next c.loop-i.i c.args.path.now c.args.root.now c.loop-i.ws.items c.in_ok-ws.ws.items (omega arith) (c.in_ok-ws.ensures.items ∙ c.fields.ensures) c.loop-i.invariant

pub returns-clause-length : goal.returns-clause-length
returns-clause-length c =
    length_entry_words c.loop-i.i c.args.path.now c.loop-i.ws.items c.in_ok-ws.ws.items (omega arith) (ap (λ (xs : List ℕ). length xs) (c.in_ok-ws.ensures.items ∙ c.fields.ensures)) c.loop-i.invariant
