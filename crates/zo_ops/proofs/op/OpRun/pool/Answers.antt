use Rattle.std.proofs.Common.{rules}
use Rattle.zo_ops.proofs.op.OpRun.pool.Goals as goal

pub returns-then-is_word-clause-gives : goal.returns-then-is_word-clause-gives
returns-then-is_word-clause-gives c = λ command. let gives = c.ask_pages.ensures.gives command in search rules
