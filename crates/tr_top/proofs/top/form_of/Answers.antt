use Rattle.std.proofs.Common.{[], ◌∷◌, map, sym, ap, ◌∙◌, arith}
use Rattle.std.specs.String.{string_bytes}
use Rattle.tr_top.proofs.Endings.{one_item, is_the_word}
use Rattle.tr_top.proofs.top.form_of.Goals as goal

pub returns-then-eq : goal.returns-then-eq
returns-then-eq c =
    let one = one_item c.args.words.now c.word-item.result (omega arith) c.word-item.is in
    (is_the_word (map string_bytes c.args.words.now) c.as_str.result.now _ c.eq.result (ap (map string_bytes) one ∙ ap (λ w. w ∷ []) (sym c.as_str.ensures.value)) c.eq.ensures).0 c.if-eq.true

pub returns-then-eq-2 : goal.returns-then-eq-2
returns-then-eq-2 c =
    let one = one_item c.args.words.now c.word-item.result (omega arith) c.word-item.is in
    (is_the_word (map string_bytes c.args.words.now) c.as_str-else-eq.result.now _ c.eq-else-eq.result (ap (map string_bytes) one ∙ ap (λ w. w ∷ []) (sym c.as_str-else-eq.ensures.value)) c.eq-else-eq.ensures).0 c.if-eq-2.true
