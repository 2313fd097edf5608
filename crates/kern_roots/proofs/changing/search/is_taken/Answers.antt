use Rattle.std.proofs.Common.{◌∙◌}
use Rattle.kern_roots.proofs.ChangingSearch.{taken_is}
use Rattle.kern_roots.proofs.changing.search.is_taken.Goals as goal

pub returns : goal.returns
returns c = c.is_some.ensures ∙ taken_is c.args.words.now c.args.path.now c.coffer_at.result c.coffer_at.ensures
