use Rattle.std.proofs.Common.{List, MatchOption, subst}
use Rattle.pm_words.specs.Word.{Word}
use Rattle.kern_model.specs.KernelRules as rules
use Rattle.kern_model.specs.KernelRules.{FailsFirst}
use Rattle.kern_view.specs.RuleParts.{AreGoodTables}
use Rattle.kern_view.proofs.FaultLemmas.{judged}
use Rattle.kern_view.proofs.fault.first_fault.Goals as goal

pub returns-clause-fault : goal.returns-clause-fault
returns-clause-fault c =
    judged c.args.words.now c.in_default.ensures.fault (c.is_finishable.ensures.0 c.if-not-is_finishable.false) c.fault.result
    (subst (λ (words : List Word). MatchOption c.fault.result (AreGoodTables words) (FailsFirst words rules.Tables)) c.in_ok-tables.ensures c.fault.ensures)
