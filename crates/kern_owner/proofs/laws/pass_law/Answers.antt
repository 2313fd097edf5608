use Rattle.kern_owner.proofs.LawLemmas.{passed, pass_keeps}
use Rattle.kern_owner.proofs.laws.pass_law.Goals as goal

pub returns-clause-gives : goal.returns-clause-gives
returns-clause-gives c = passed

pub returns-clause-rules : goal.returns-clause-rules
returns-clause-rules c = pass_keeps
