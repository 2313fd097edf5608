use Rattle.kern_owner.proofs.LawLemmas.{grant_gives, grant_keeps}
use Rattle.kern_owner.proofs.laws.grant_law.Goals as goal

pub returns-clause-gives : goal.returns-clause-gives
returns-clause-gives c = grant_gives

pub returns-clause-rules : goal.returns-clause-rules
returns-clause-rules c = grant_keeps
