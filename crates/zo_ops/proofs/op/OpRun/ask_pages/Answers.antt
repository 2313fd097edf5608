use Rattle.std.proofs.Common.{◌+◌, refl, ap}
use Rattle.zo_ops.proofs.AskExits.{ask_gives}
use Rattle.zo_ops.proofs.op.OpRun.ask_pages.Goals as goal

pub returns-clause-gives : goal.returns-clause-gives
returns-clause-gives c = rw c.in_ok-enlarge.ensures (λ command s k. ask_gives c.args.place _ _ c.args.self.now.mapped command s refl (ap (λ n. n + 1) c.entry_pages.ensures) k)
