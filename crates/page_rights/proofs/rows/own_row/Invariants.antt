use Rattle.std.proofs.Common.{◌≡◌, drop}
use Rattle.kern_model.specs.KernelCalls.{own_row}
use Rattle.page_rights.proofs.rows.own_row.Given as goal

abbrev pub invariant-loop-holder : goal.invariant-loop-holder
invariant-loop-holder l = own_row l.thread l.id (drop l.holder-index l.holders) ≡ own_row l.thread l.id l.holders
