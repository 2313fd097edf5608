use Rattle.std.proofs.Common.{ℕ, ◌<◌, length, slice_index_or, slice_set, ap, ◌∙◌, arith}
use Rattle.std.proofs.lemmas.List.{get_or_default}
use Rattle.std.proofs.lemmas.List.Edits.{map_over_more}
use Rattle.pm_words.specs.declared.pending.Mark.{Mark}
use Rattle.pm_words.specs.View.{lowered}
use Rattle.pm_words.proofs.pending.lower.Goals as goal

pub loop-mark-preserved : goal.loop-mark-preserved
loop-mark-preserved c =
    let items = c.loop-mark.mark-items in
    let i = c.loop-mark.mark-index in
    let none : Mark = record { thread = 0; gone = 0 } in
    let x : Mark = slice_index_or items i none in
    let len = c.loop-mark.auto.mark-items in
    let lt = c.loop-mark-test.true in
    let inside : i < length items = omega (arith, len, lt) in
    ap (λ (n : ℕ). slice_set items i (record { thread = x.thread; gone = n })) c.saturating_sub-mark.ensures
    ∙ map_over_more (lowered c.args.gone) c.args.marks.now items i x lt c.loop-mark.invariant (get_or_default items i none x inside)
