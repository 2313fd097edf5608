use Rattle.std.proofs.Common.{◌≡◌, drop}
use Rattle.kern_model.specs.KernelCalls.{holds_for_writing}
use Rattle.page_rights.proofs.rows.holds_for_writing.Given as goal

abbrev pub invariant-loop-holder : goal.invariant-loop-holder
invariant-loop-holder l = holds_for_writing l.thread l.id (drop l.holder-index l.holders) ≡ holds_for_writing l.thread l.id l.holders
