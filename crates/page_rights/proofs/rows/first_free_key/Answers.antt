use Rattle.std.proofs.Common.{sym, ◌∙◌}
use Rattle.page_rights.specs.Lookup.{is_free_in}
use Rattle.page_rights.proofs.RowLemmas.{next_key}
use Rattle.page_rights.proofs.rows.first_free_key.Goals as goal

pub loop-key-preserved : goal.loop-key-preserved
loop-key-preserved c =
    next_key (is_free_in c.args.processes.now c.args.holders.now c.args.process) c.loop-key.key _ c.loop-key-test.true (sym c.is_free_key.ensures ∙ c.if-is_free_key.false) c.loop-key.invariant
