use Rattle.zo_laws.proofs.StoresInLemmas.{stores}
use Rattle.zo_laws.proofs.run_words.stores_law.Goals as goal

pub returns : goal.returns
returns c = stores
