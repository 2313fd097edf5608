use Rattle.kern_laws.proofs.RowCases.{rows_keep}
use Rattle.kern_laws.proofs.laws.row_law.Goals as goal

pub returns : goal.returns
returns c = rows_keep c.tables_law.ensures
