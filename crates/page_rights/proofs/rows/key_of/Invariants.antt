use Rattle.std.proofs.Common.{◌≡◌, drop}
use Rattle.page_rights.specs.Lookup.{key_of}
use Rattle.page_rights.proofs.rows.key_of.Given as goal

abbrev pub invariant-loop-holder : goal.invariant-loop-holder
invariant-loop-holder l = key_of l.processes (drop l.holder-index l.holders) l.process l.id ≡ key_of l.processes l.holders l.process l.id
