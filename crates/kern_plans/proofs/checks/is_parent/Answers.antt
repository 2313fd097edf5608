use Rattle.std.proofs.Common.{sym, subst, List}
use Rattle.pm_words.specs.Word.{Word}
use Rattle.kern_model.specs.KernelRules.{IsSoundKernel}
use Rattle.kern_plans.proofs.NamedLemmas.{is_text}
use Rattle.kern_plans.proofs.checks.is_parent.Goals as goal

pub above-requires-clause-path : goal.above-requires-clause-path
above-requires-clause-path c =
    is_text c.words.result.now c.args.id c.in_ok-path.path (subst (λ (words : List Word). IsSoundKernel words) (sym c.words.ensures.words) c.words.ensures.sound) c.in_ok-path.ensures.ok
