use Rattle.kern_roots.proofs.ChangingOrder.{order_is}
use Rattle.kern_roots.proofs.laws.order_law.Goals as goal

pub returns : goal.returns
returns c = order_is
