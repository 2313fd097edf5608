use Rattle.zo_model.specs.CofferWords.{IsEntryPage}
use Rattle.zo_laws.proofs.Directories.{shows_stay}
use Rattle.zo_laws.proofs.names_stay.Goals as goal

pub returns : goal.returns
returns c before after coffer grown use_of now_of names dir want shows keeps grows =
    shows_stay (IsEntryPage coffer use_of names) (IsEntryPage grown now_of names) before after dir want shows keeps grows
