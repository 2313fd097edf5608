use Rattle.std.proofs.Common.{subst}
use Rattle.tr_types.specs.declared.action.Action.TheVariants.{Store}
use Rattle.tr_core.specs.Steps.{CanHappen}
use Rattle.tr_core.specs.declared.event.FaultEvent.{FaultEvent}
use Rattle.tr_core.proofs.Faults.{act_fault, process_fault, thread_fault}
use Rattle.tr_core.proofs.steps.entry_of.Goals as goal

pub done-requires : goal.done-requires
done-requires c =
    let can = subst (CanHappen c.args.machine.now.bus) c.in-Process.is c.requires.can in
    process_fault c.args.machine.now c.start_process.new.self c.requires.up c.in-Process.process c.in-Process.cred c.start_process.result c.start_process.ensures can.1

pub done-requires-in-Thread : goal.done-requires-in-Thread
done-requires-in-Thread c =
    let can = subst (CanHappen c.args.machine.now.bus) c.in-Thread.is c.requires.can in
    thread_fault c.args.machine.now c.start_thread.new.self c.requires.up c.in-Thread.thread c.in-Thread.process c.start_thread.result c.start_thread.ensures can.1 can.2

pub done-requires-in-Stray : goal.done-requires-in-Stray
done-requires-in-Stray c =
    let can = subst (CanHappen c.args.machine.now.bus) c.in-Stray.is c.requires.can in
    act_fault c.args.machine.now c.stray.new.self c.requires.up c.in-Stray.thread 0 (Store c.in-Stray.addr c.in-Stray.word) c.stray.result c.stray.ensures can
