use Rattle.std.proofs.Common.{Contains, map, sym, subst}
use Rattle.page_rights.specs.Tables.{View}
use Rattle.kern_calls.specs.Calls.{KernelView}
use Rattle.kern_calls.specs.Standing.{StandInTables}
use Rattle.kern_calls.proofs.PartLemmas.{tied_with_thread}
use Rattle.kern_calls.proofs.kernel.Kernel.start_thread.Goals as goal

pub invariant_of-self-2 : goal.invariant_of-self-2
invariant_of-self-2 c =
    let kernel = c.self.inside in
    let has =
    subst (λ (k : KernelView). Contains (map (λ p. p.0) k.callers.processes) c.args.process) (sym c.self.view_is) c.requires.process in
    let tied = tied_with_thread kernel.processes.items kernel.tables.threads kernel.tables.owners kernel.owners c.args.thread c.args.process c.self.invariant has in
    subst (λ (tables : View). StandInTables kernel.processes.items tables.threads tables.owners kernel.owners) (sym c.in_ok-start.ensures.ok) tied
