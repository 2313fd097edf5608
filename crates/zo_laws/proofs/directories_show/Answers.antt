use Rattle.zo_laws.proofs.Scenes.{directories_show}
use Rattle.zo_laws.proofs.directories_show.Goals as goal

pub returns : goal.returns
returns c = directories_show
