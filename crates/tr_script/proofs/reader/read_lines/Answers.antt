use Rattle.std.proofs.Common.{◌+◌, arith, sym, ◌∙◌, ap}
use Rattle.tr_script.proofs.ReadingLemmas.{has_read_passed, has_read_kept, has_read_all, has_read_same}
use Rattle.tr_script.proofs.reader.read_lines.Goals.{then-is_kept+in_ok-line+in_ok-add+in_ok-push, else-is_kept}
use Rattle.tr_script.proofs.reader.read_lines.Goals as goal

pub loop-rest-preserved : goal.loop-rest-preserved
loop-rest-preserved c =
    let text = c.args.text.now in
    let rest = c.loop-rest.rest.now in
    let line = c.split_line.result.0.now in
    let after = c.split_line.result.1.now in
    let lines = c.loop-rest.lines.items in
    let number = c.loop-rest.number in
    record {
      from_1 = omega arith;
      counted = let counted = c.loop-rest.invariant.counted in let shorter = c.split_line.ensures.shorter in omega arith;
      read = elim c.if-is_kept.branch [
        | then-is_kept+in_ok-line+in_ok-add+in_ok-push w ↦
            let may = w.in_ok-line.ensures.ok in
            has_read_same text after _ _ _ _ (number + 1) (w.seen-is ∙ w.in_ok-add.ensures) (ap (λ v. v.items) w.lines-is ∙ w.in_ok-push.ensures.items)
            (has_read_kept text rest line after c.loop-rest.seen lines w.in_ok-line.line number c.split_line.ensures.lines (sym c.is_kept.ensures ∙ w.if-is_kept.true)
            (sym w.of.ensures.words ∙ may.0) may.1 c.loop-rest.invariant.read)
        | else-is_kept w ↦
            has_read_same text after _ _ _ _ (number + 1) w.seen-is (ap (λ v. v.items) w.lines-is)
            (has_read_passed text rest line after c.loop-rest.seen lines number c.split_line.ensures.lines (sym c.is_kept.ensures ∙ w.if-is_kept.false) c.loop-rest.invariant.read)
      ];
    }

pub returns-clause-ok : goal.returns-clause-ok
returns-clause-ok c = has_read_all _ _ _ _ _ c.loop-rest.invariant.read (sym c.is_empty.ensures ∙ c.loop-rest-test.false)
