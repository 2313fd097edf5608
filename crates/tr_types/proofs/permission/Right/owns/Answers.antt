use Rattle.std.proofs.Common.{◌∙◌}
use Rattle.tr_types.proofs.BitLemmas.{third_bit}
use Rattle.tr_types.proofs.permission.Right.owns.Goals as goal

pub returns : goal.returns
returns c = c.contains.ensures tt ∙ third_bit c.args.self.0
