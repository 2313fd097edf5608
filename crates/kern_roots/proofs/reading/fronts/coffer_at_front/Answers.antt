use Rattle.std.proofs.Common.{sym, ◌∙◌}
use Rattle.kern_roots.proofs.ReadingFronts.{no_front, tells_front, ends_at, ends_not}
use Rattle.kern_roots.proofs.reading.fronts.coffer_at_front.Goals as goal

pub returns-then-not-ends_name : goal.returns-then-not-ends_name
returns-then-not-ends_name c =
    let inside = sym c.ends_name.ensures ∙ c.if-not-ends_name.true in
    no_front c.args.words.now c.args.path.now c.args.end c.requires.least (ends_not c.args.path.now c.args.end inside)

pub returns : goal.returns
returns c =
    let ends = ends_at c.args.path.now c.args.end (sym c.ends_name.ensures ∙ c.if-not-ends_name.false) in
    tells_front c.args.words.now c.args.path.now c.args.end c.coffer_at.result c.requires.least c.requires.most ends c.coffer_at.ensures
