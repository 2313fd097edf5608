use Rattle.std.proofs.Common.{◌≡◌, drop}
use Rattle.kern_model.specs.KernelCalls.{holds_any}
use Rattle.page_rights.proofs.rows.holds_any.Given as goal

abbrev pub invariant-loop-holder : goal.invariant-loop-holder
invariant-loop-holder l = holds_any l.thread l.id (drop l.holder-index l.holders) ≡ holds_any l.thread l.id l.holders
