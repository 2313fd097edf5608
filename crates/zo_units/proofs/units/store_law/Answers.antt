use Rattle.zo_units.proofs.Steps.{stores}
use Rattle.zo_units.proofs.units.store_law.Goals as goal

pub returns : goal.returns
returns c = stores
