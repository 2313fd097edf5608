use Rattle.std.proofs.Common.{◌+◌, ℕ, take, arith, sym, ◌∙◌, ap, add-one}
use Rattle.tr_script.specs.Places.{line_behind, column_behind}
use Rattle.tr_script.proofs.PlaceLemmas.{line_at_feed, line_at_other, column_at_feed, column_at_other}
use Rattle.tr_script.proofs.reader.place_after.Goals.{then-byte-eq10, else-byte-eq10}
use Rattle.tr_script.proofs.reader.place_after.Goals as goal

pub loop-byte-preserved : goal.loop-byte-preserved
loop-byte-preserved c =
    let text = c.args.text.now in
    let i = c.loop-byte.byte-index in
    let inv = c.loop-byte.invariant in
    let from_1 = inv.line_from_1 in
    let line_fits = inv.line_fits in
    let column_fits = inv.column_fits in
    let inside = c.loop-byte-test.true in
    let line_next = ap (λ (n : ℕ). line_behind 1 (take n text)) (add-one i) in
    let column_next = ap (λ (n : ℕ). column_behind 1 (take n text)) (add-one i) in
    elim c.if-byte-eq10.branch [
      | then-byte-eq10 w ↦
          let line_is = w.line-is in
          let column_is = w.column-is in
          record {
            line_from_1 = omega arith;
            column_from_1 = omega arith;
            line_fits = omega arith;
            column_fits = omega arith;
            line = w.line-is ∙ ap (λ (n : ℕ). n + 1) inv.line ∙ sym (line_at_feed text i 1 inside w.if-byte-eq10.true) ∙ sym line_next;
            column = w.column-is ∙ sym (column_at_feed text i 1 inside w.if-byte-eq10.true) ∙ sym column_next;
          }
      | else-byte-eq10 w ↦
          let line_is = w.line-is in
          let column_is = w.column-is in
          record {
            line_from_1 = omega arith;
            column_from_1 = omega arith;
            line_fits = omega arith;
            column_fits = omega arith;
            line = w.line-is ∙ inv.line ∙ sym (line_at_other text i 1 inside w.if-byte-eq10.false) ∙ sym line_next;
            column = w.column-is ∙ ap (λ (n : ℕ). n + 1) inv.column ∙ sym (column_at_other text i 1 inside w.if-byte-eq10.false) ∙ sym column_next;
          }
    ]
