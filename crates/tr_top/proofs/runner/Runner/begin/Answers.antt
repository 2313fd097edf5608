use Rattle.std.proofs.Common.{ap, ◌∙◌}
use Rattle.pm_words.specs.Memory.{all_durable}
use Rattle.kern_model.specs.NewImage.{new_image}
use Rattle.tr_top.proofs.AlongLemmas.{along_first}
use Rattle.tr_top.proofs.runner.Runner.begin.Goals as goal

pub invariant_of-result : goal.invariant_of-result
invariant_of-result c =
    along_first c.args.script.now c.in-Ok.core c.in_ok-words.words (c.in_ok-words.ensures.words ∙ ap (λ n. all_durable (new_image n)) c.requires.pages)
    c.in-Ok.ensures.opening c.in-Ok.ensures.trace c.in-Ok.ensures.quiet
