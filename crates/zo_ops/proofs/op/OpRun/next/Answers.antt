use Rattle.std.proofs.Common.{rules}
use Rattle.zo_ops.proofs.op.OpRun.next.Goals as goal

pub returns-in-Pool : goal.returns-in-Pool
returns-in-Pool c = let gives = c.pool.ensures.gives c.args.command.now in search rules
