use Rattle.std.proofs.Common.{sym}
use Rattle.pm_words.proofs.LineLemmas.{kept_some}
use Rattle.pm_words.proofs.marked.note.Goals as goal

pub returns-in-Some-clause-kept : goal.returns-in-Some-clause-kept
returns-in-Some-clause-kept c =
    kept_some _ _ _ c.in-Some.lines.now c.add.new.self (sym c.in-Some.ensures.value) (c.get_mut.follows.holds c.add.new.self).0 c.add.ensures.others
