use Rattle.std.proofs.Common.{refl}
use Rattle.std.specs.List.{IsDistinct}
use Rattle.kern_owner.proofs.tests.pages_go_back_in_order_of_address.Goals as goal

pub take_back-requires-clause-differ : goal.take_back-requires-clause-differ
unfolding IsDistinct
take_back-requires-clause-differ g c = (tt, tt)

pub take_back-requires-2-clause-differ : goal.take_back-requires-2-clause-differ
unfolding IsDistinct
take_back-requires-2-clause-differ g c = ((refl, tt), (tt, tt))
