use Rattle.std.proofs.Common.{◌∙◌, sym, subst}
use Rattle.kern_model.specs.Rights.{without_row}
use Rattle.kern_model.specs.KernelCalls.{unmap_row}
use Rattle.tr_types.specs.declared.kernel_call.KernAnswer.{KernAnswer}
use Rattle.page_rights.specs.Tables.{View}
use Rattle.kern_calls.specs.Calls.{KernelView}
use Rattle.kern_calls.specs.Steps.{FollowsRow, with_holders}
use Rattle.kern_calls.proofs.MapLemmas.{unmapped_one, unmapped_none}
use Rattle.kern_calls.proofs.kernel.Kernel.unmap.Goals as goal
use Rattle.kern_calls.proofs.kernel.Kernel.unmap.Goals.{then-unmap, else-unmap}

-- the kernel with these tables of rights
pub with_tables : KernelView → View → KernelView
with_tables kernel tables = record { callers = record { processes = kernel.callers.processes; threads = tables.threads }; holders = tables.holders; owners = kernel.owners }

pub returns : goal.returns
unfolding with_tables
returns c =
    let kernel = c.self.inside in
    let here : KernelView = record { callers = record { processes = kernel.processes.items; threads = kernel.tables.threads }; holders = kernel.tables.holders; owners = kernel.owners } in
    let so : FollowsRow (unmap_row here.holders c.args.thread c.args.id) here c.if-unmap.result (with_tables here c.unmap.new.self) =
    subst (λ (tables : View). FollowsRow (unmap_row here.holders c.args.thread c.args.id) here c.if-unmap.result (with_tables here tables)) (sym c.unmap.ensures.after)
    (elim c.if-unmap.branch [
      | then-unmap w ↦ subst (λ (r : KernAnswer). FollowsRow (unmap_row here.holders c.args.thread c.args.id) here r (with_holders (without_row c.args.thread c.args.id here.holders) here)) (sym w.result-is) (unmapped_one here c.args.thread c.args.id (sym c.unmap.ensures.held ∙ w.if-unmap.true))
      | else-unmap w ↦ subst (λ (r : KernAnswer). FollowsRow (unmap_row here.holders c.args.thread c.args.id) here r (with_holders (without_row c.args.thread c.args.id here.holders) here)) (sym w.result-is) (unmapped_none here c.args.thread c.args.id (sym c.unmap.ensures.held ∙ w.if-unmap.false))
    ]) in
    subst (λ (k : KernelView). FollowsRow (unmap_row k.holders c.args.thread c.args.id) k c.if-unmap.result (with_tables here c.unmap.new.self)) c.self.view_is so
