use Rattle.page_rights.proofs.OneRow.{row_tells_all}
use Rattle.page_rights.proofs.laws.row_law.Goals as goal

pub returns : goal.returns
returns c = row_tells_all
