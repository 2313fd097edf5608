use Rattle.kern_model.specs.PathMap as map
use Rattle.kern_roots.proofs.changing.pairs.cleared.Goals as goal

pub returns : goal.returns
unfolding map.no_words
returns c = c.from_address.ensures
