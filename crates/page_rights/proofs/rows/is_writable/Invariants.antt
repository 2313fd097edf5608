use Rattle.std.proofs.Common.{◌≡◌, drop}
use Rattle.page_rights.specs.Lookup.{is_writable_in}
use Rattle.page_rights.proofs.rows.is_writable.Given as goal

abbrev pub invariant-loop-holder : goal.invariant-loop-holder
invariant-loop-holder l = is_writable_in l.processes (drop l.holder-index l.holders) l.process l.id ≡ is_writable_in l.processes l.holders l.process l.id
