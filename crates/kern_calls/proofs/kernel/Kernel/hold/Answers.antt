use Rattle.std.proofs.Common.{◌∙◌, ℕ, Err, ap, sym, subst}
use Rattle.tr_types.specs.declared.kernel_call.KernAnswer.{KernAnswer}
use Rattle.tr_types.specs.declared.kernel_call.KernAnswer.TheVariants as answer
use Rattle.tr_types.specs.declared.kernel_call.Mapped.{Mapped}
use Rattle.page_rights.specs.Tables.{View}
use Rattle.page_rights.specs.declared.tables.MapFault.{MapFault}
use Rattle.kern_calls.specs.Calls.{KernelView}
use Rattle.kern_calls.specs.Steps.{FollowsRow, hold_row, mapped_under, with_key}
use Rattle.kern_calls.proofs.MapLemmas.{held_now, held_by_another, no_key_left}
use Rattle.kern_calls.proofs.kernel.Kernel.hold.Goals as goal
use Rattle.kern_calls.proofs.kernel.Kernel.hold.Goals.{in-Ok, in-Err-InUse, in-Err-NoKey, in-Err-NoMemory}

-- the kernel with these tables of rights
pub with_tables : KernelView → View → KernelView
with_tables kernel tables = record { callers = record { processes = kernel.callers.processes; threads = tables.threads }; holders = tables.holders; owners = kernel.owners }

pub returns : goal.returns
unfolding with_tables
returns c =
    let kernel = c.self.inside in
    let here : KernelView = record { callers = record { processes = kernel.processes.items; threads = kernel.tables.threads }; holders = kernel.tables.holders; owners = kernel.owners } in
    let m : Mapped = mapped_under 0 c.args.target in
    let so : FollowsRow (hold_row here.callers here.holders c.args.thread c.args.right c.args.exclusive m) here c.match-map.result (with_tables here c.map.new.self) =
    elim c.match-map.branch [
      | in-Ok w ↦
          subst (λ (r : KernAnswer). FollowsRow (hold_row here.callers here.holders c.args.thread c.args.right c.args.exclusive m) here r (with_tables here c.map.new.self)) (sym (w.result-is ∙ ap (λ (n : Mapped). answer.Mapped n) w.mapped.ensures))
          (subst (λ (tables : View). FollowsRow (hold_row here.callers here.holders c.args.thread c.args.right c.args.exclusive m) here (answer.Mapped (with_key w.in-Ok.key m)) (with_tables here tables)) (sym w.in-Ok.ensures.ok)
          (held_now here c.args.thread c.args.right c.args.exclusive m w.in-Ok.key w.in-Ok.ensures.free w.in-Ok.ensures.key))
      | in-Err-InUse w ↦
          subst (λ (r : KernAnswer). FollowsRow (hold_row here.callers here.holders c.args.thread c.args.right c.args.exclusive m) here r (with_tables here c.map.new.self))
          (sym (w.result-is ∙ ap (λ (t : ℕ). answer.InUse t m.id m.path_len) w.in-Err-InUse.thread-is))
          (subst (λ (tables : View). FollowsRow (hold_row here.callers here.holders c.args.thread c.args.right c.args.exclusive m) here (answer.InUse w.in-Err-InUse.thread m.id m.path_len) (with_tables here tables)) (sym w.in-Err-InUse.ensures.err)
          (held_by_another here c.args.thread c.args.right c.args.exclusive m w.in-Err-InUse.thread ((w.in-Err-InUse.ensures.in_use w.in-Err-InUse.thread).0 (ap (λ (f : MapFault). Err f) w.in-Err-InUse.field-0-is))))
      | in-Err-NoKey w ↦
          let none = w.in-Err-NoKey.ensures.no_key.0 (ap (λ (f : MapFault). Err f) w.in-Err-NoKey.field-0-is) in
          subst (λ (r : KernAnswer). FollowsRow (hold_row here.callers here.holders c.args.thread c.args.right c.args.exclusive m) here r (with_tables here c.map.new.self)) (sym w.result-is)
          (subst (λ (tables : View). FollowsRow (hold_row here.callers here.holders c.args.thread c.args.right c.args.exclusive m) here (answer.NoKey m.id m.path_len) (with_tables here tables)) (sym w.in-Err-NoKey.ensures.err)
          (no_key_left here c.args.thread c.args.right c.args.exclusive m none.0 none.1))
      | in-Err-NoMemory w ↦
          subst (λ (r : KernAnswer). FollowsRow (hold_row here.callers here.holders c.args.thread c.args.right c.args.exclusive m) here r (with_tables here c.map.new.self)) (sym w.result-is) tt
    ] in
    subst (λ (k : KernelView). FollowsRow (hold_row k.callers k.holders c.args.thread c.args.right c.args.exclusive m) k c.match-map.result (with_tables here c.map.new.self)) c.self.view_is so
