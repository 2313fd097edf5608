use Rattle.std.proofs.Common.{ℕ, false, Some, sym, ap, ◌∙◌}
use Rattle.tr_types.specs.declared.kernel_call.Holder.{Holder}
use Rattle.page_rights.proofs.ThreadLemmas.{one_more, no_more}
use Rattle.page_rights.proofs.rows.least_against.Goals as goal
use Rattle.page_rights.proofs.rows.least_against.Goals.{then-stands_against, else-stands_against}

pub loop-holder-preserved : goal.loop-holder-preserved
loop-holder-preserved c =
    let none : Holder = record { thread = 0; id = 0; key = 0; right = record { 0 = 0 }; exclusive = false } in
    elim c.if-stands_against.branch [
      | then-stands_against w ↦
          one_more c.args.thread c.args.id c.args.exclusive c.args.holders.now c.loop-holder.holder-index none c.loop-holder-test.true c.loop-holder.least c.loop-holder.invariant c.if-stands_against.least
          (sym c.stands_against.ensures ∙ w.if-stands_against.true) (w.least-is ∙ ap (λ (t : ℕ). Some t) w.lesser.ensures)
      | else-stands_against w ↦
          no_more c.args.thread c.args.id c.args.exclusive c.args.holders.now c.loop-holder.holder-index none c.loop-holder-test.true c.loop-holder.least c.loop-holder.invariant c.if-stands_against.least
          (sym c.stands_against.ensures ∙ w.if-stands_against.false) w.least-is
    ]
