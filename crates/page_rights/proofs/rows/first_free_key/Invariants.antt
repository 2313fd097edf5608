use Rattle.std.proofs.Common.{◌≡◌, ◌-◌}
use Rattle.std.specs.Prelude.{filter}
use Rattle.std.specs.List.{range_with_len}
use Rattle.kern_model.specs.Rights.{first_of}
use Rattle.page_rights.specs.Lookup.{is_free_in, free_in}
use Rattle.page_rights.proofs.rows.first_free_key.Given as goal

abbrev pub invariant-loop-key : goal.invariant-loop-key
invariant-loop-key l = first_of (filter (is_free_in l.processes l.holders l.process) (range_with_len l.key (16 - l.key))) ≡ first_of (free_in l.processes l.holders l.process)
