use Rattle.std.proofs.Common.{take}
use Rattle.kern_model.specs.Rights.{those_against}
use Rattle.page_rights.specs.Lookup.{IsLeast}
use Rattle.page_rights.proofs.rows.least_against.Given as goal

abbrev pub invariant-loop-holder : goal.invariant-loop-holder
invariant-loop-holder l = IsLeast (those_against l.thread l.id l.exclusive (take l.holder-index l.holders)) l.least
