use Rattle.tr_text.proofs.TextLemmas.{kept_on}
use Rattle.tr_text.proofs.entry.append_rows.Goals as goal

pub returns-in_err-append_row-clause-kept : goal.returns-in_err-append_row-clause-kept
returns-in_err-append_row-clause-kept c = kept_on _ _ _ _ c.loop-row.invariant c.append_row.ensures.kept
