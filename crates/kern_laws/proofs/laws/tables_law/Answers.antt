use Rattle.kern_laws.proofs.RowCases.{call_keeps}
use Rattle.kern_laws.proofs.NewKeeps.{new_keeps}
use Rattle.kern_laws.proofs.DeleteKeeps.{delete_keeps}
use Rattle.kern_laws.proofs.SplitKeeps.{split_keeps}
use Rattle.kern_laws.proofs.MergeKeeps.{merge_keeps}
use Rattle.kern_laws.proofs.laws.tables_law.Goals as goal

pub returns : goal.returns
returns c = call_keeps c.perm_law.ensures c.state_law.ensures
    (record { new = new_keeps c.add_law.ensures; delete = delete_keeps c.drop_law.ensures; split = split_keeps c.add_law.ensures; merge = merge_keeps c.drop_law.ensures })
