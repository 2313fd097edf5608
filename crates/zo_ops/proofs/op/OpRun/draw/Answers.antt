use Rattle.std.proofs.Common.{sym, ap, ◌∙◌}
use Rattle.tr_types.specs.declared.action.Answer.TheVariants.{Kern}
use Rattle.zo_ops.proofs.AskExits.{short_gives}
use Rattle.zo_ops.proofs.op.OpRun.draw.Goals as goal

pub returns-in-NoPages-clause-gives : goal.returns-in-NoPages-clause-gives
returns-in-NoPages-clause-gives c = rw (c.in-Kern.is ∙ ap Kern (sym c.get.ensures ∙ c.in-NoPages.is)) (λ s k. short_gives c.args.place c.in-NoPages.asked c.in-NoPages.free c.args.self.now.mapped c.args.command.now s k)
