use Rattle.std.proofs.lemmas.Bool.{iff_false}
use Rattle.zo_ops.proofs.LookExits.{file_gives, is_map}
use Rattle.zo_ops.proofs.op.OpRun.map.Goals as goal

pub returns-then-is_word-clause-gives : goal.returns-then-is_word-clause-gives
returns-then-is_word-clause-gives c = λ command s k. file_gives c.args.file c.args.answer.now c.args.self.now.mapped command s k

pub returns-else-is_word-clause-gives : goal.returns-else-is_word-clause-gives
returns-else-is_word-clause-gives c = λ command s k. absurd (iff_false c.is_word.ensures c.if-is_word.false (is_map c.args.file c.args.answer.now c.args.self.now.mapped command s k))
