use Rattle.std.proofs.Common.{◌∙◌}
use Rattle.kern_plans.proofs.LookLemmas.{no_name, names_by_slashes}
use Rattle.kern_plans.proofs.calls.find.count_names.Goals as goal

pub returns-then-path-eq1 : goal.returns-then-path-eq1
returns-then-path-eq1 c = no_name c.args.path.now c.requires c.if-path-eq1.true

pub returns-else-path-eq1 : goal.returns-else-path-eq1
returns-else-path-eq1 c = c.count_slashes.ensures ∙ names_by_slashes c.args.path.now c.requires c.if-path-eq1.false
