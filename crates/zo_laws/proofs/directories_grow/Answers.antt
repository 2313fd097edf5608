use Rattle.zo_laws.proofs.Scenes.{directories_grow}
use Rattle.zo_laws.proofs.directories_grow.Goals as goal

pub returns : goal.returns
returns c = directories_grow
