use Rattle.std.proofs.Common.{◌∙◌}
use Rattle.tr_types.proofs.BitLemmas.{second_bit}
use Rattle.tr_types.proofs.permission.Right.writes.Goals as goal

pub returns : goal.returns
returns c = c.contains.ensures tt ∙ second_bit c.args.self.0
