use Rattle.std.proofs.Common.{◌≡◌, drop}
use Rattle.kern_model.specs.KernelCalls.{holds_as_owner}
use Rattle.page_rights.proofs.rows.holds_as_owner.Given as goal

abbrev pub invariant-loop-holder : goal.invariant-loop-holder
invariant-loop-holder l = holds_as_owner l.thread l.id (drop l.holder-index l.holders) ≡ holds_as_owner l.thread l.id l.holders
