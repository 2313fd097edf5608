use Rattle.zo_laws.proofs.Chains.{one_chain}
use Rattle.zo_laws.proofs.one_chain.Goals as goal

pub returns : goal.returns
returns c = one_chain
