use Rattle.std.proofs.Common.{◌<◌, ◌++◌, List, length, slice_index_or, sym, ap, ◌∙◌, arith}
use Rattle.std.proofs.lemmas.List.{get_or_default}
use Rattle.pm_words.specs.declared.pending.Mark.{Mark}
use Rattle.pm_words.specs.View.{look}
use Rattle.pm_words.proofs.HeldLemmas.{look_behind, look_replaced, look_kept}
use Rattle.pm_words.proofs.pending.replace.Goals as goal

pub returns-then-mark-thread-clause-own : goal.returns-then-mark-thread-clause-own
returns-then-mark-thread-clause-own c = λ done.
    let len = c.loop-mark.auto.mark-items in
    let lt = c.loop-mark-test.true in
    let inside : c.loop-mark.mark-index < length c.loop-mark.mark-items = omega (arith, len, lt) in
    look_replaced c.loop-mark.mark-items c.loop-mark.mark-index _ c.args.thread inside c.if-mark-thread.true c.loop-mark.invariant.1

pub returns-then-mark-thread-clause-others : goal.returns-then-mark-thread-clause-others
returns-then-mark-thread-clause-others c = λ t ne ms.
    let items = c.loop-mark.mark-items in
    let i = c.loop-mark.mark-index in
    let none : Mark = record { thread = 0; gone = 0 } in
    let len = c.loop-mark.auto.mark-items in
    let lt = c.loop-mark-test.true in
    let inside : i < length items = omega (arith, len, lt) in
    let own = c.if-mark-thread.true in
    let mark : Mark = record { thread = (slice_index_or items i none).thread; gone = c.args.gone } in
    look_kept items ms i mark t inside (λ e. ne (sym e ∙ own)) (λ e. ne (sym e ∙ ap (λ (m : Mark). m.thread) (get_or_default items i mark none inside) ∙ own))
    ∙ ap (λ (l : List Mark). look (l ++ ms) t) c.loop-mark.invariant.0

pub returns-clause-none : goal.returns-clause-none
returns-clause-none c = λ done ms.
    look_behind c.loop-mark.mark-items ms c.args.thread (λ k d lt.
    let len = c.loop-mark.auto.mark-items in
    let end = c.loop-mark-test.false in
    c.loop-mark.invariant.1 k d (omega (arith, len, end, lt)))
