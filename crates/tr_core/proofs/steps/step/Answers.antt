use Rattle.tr_core.proofs.Faults.{act_fault}
use Rattle.tr_core.proofs.steps.step.Goals as goal

pub done-requires : goal.done-requires
done-requires c = act_fault c.args.machine.now c.act.new.self c.requires.up c.args.thread c.args.now c.in-Act.action c.act.result c.act.ensures c.requires.started
