use Rattle.std.proofs.Common.{◌≡◌, List, false, ap, sym, ◌∙◌}
use Rattle.zo_model.specs.Coffers.{Coffer, is_coffer}
use Rattle.zo_model.specs.Tree.{Directory}
use Rattle.tr_answer.proofs.CofferLemmas.{path_put}
use Rattle.tr_answer.proofs.answers.Coffers.push.Goals as goal

pub invariant_of-self : goal.invariant_of-self
invariant_of-self c =
    let coffers = c.self.inside.coffers.items in
    let free : is_coffer coffers c.in_ok-names.names ≡ false = sym (c.if-is_coffer.ensures ∙ (ap (λ (l : List Coffer). is_coffer l c.as_slice.result.now) c.deref.ensures.value ∙ ap (is_coffer coffers) c.as_slice.ensures)) in
    path_put coffers c.found.new.coffers.items c.in_ok-names.names c.args.perm Directory c.found.result c.self.invariant free c.found.ensures.ok c.found.ensures.err
