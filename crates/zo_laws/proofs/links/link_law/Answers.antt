use Rattle.std.specs.Prelude.{Contains}
use Rattle.zo_laws.proofs.LinkLemmas.{links}
use Rattle.zo_laws.proofs.links.link_law.Goals as goal

pub returns : goal.returns
returns c = λ at pages dir want frees name place target drawn fresh can first. links at (Contains pages) dir want frees name place target drawn fresh can first
