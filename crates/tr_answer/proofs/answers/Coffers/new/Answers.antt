use Rattle.std.proofs.Common.{List, [], ◌∷◌, ◌++◌, ap, ◌∙◌}
use Rattle.zo_model.specs.Coffers.{Coffer}
use Rattle.tr_answer.proofs.CofferLemmas.{one_path}
use Rattle.tr_answer.proofs.answers.Coffers.new.Goals as goal

pub invariant_of-result : goal.invariant_of-result
invariant_of-result c =
    one_path _ c.in_ok-root.root (c.in_ok-push.ensures.items ∙ ap (λ (l : List Coffer). l ++ c.in_ok-root.root ∷ []) c.new-coffers.ensures.items)
