use Rattle.std.proofs.lemmas.Bool.{iff_false}
use Rattle.zo_ops.proofs.LookExits.{map_load_gives, is_kind}
use Rattle.zo_ops.proofs.op.OpRun.kind.Goals as goal

pub returns-then-is_word-clause-gives : goal.returns-then-is_word-clause-gives
returns-then-is_word-clause-gives c = rw (c.load.ensures.stage, c.load.ensures.step) (λ command s k. map_load_gives c.args.file c.args.answer.now c.file_map.result c.args.self.now.mapped command s c.file_map.ensures k)

pub returns-else-is_word-clause-gives : goal.returns-else-is_word-clause-gives
returns-else-is_word-clause-gives c = λ command s k. absurd (iff_false c.is_word.ensures c.if-is_word.false (is_kind c.args.file c.args.answer.now c.args.self.now.mapped command s k))
