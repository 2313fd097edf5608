use Rattle.std.proofs.Common.{◌≡◌, List, false, subst}
use Rattle.zo_model.specs.Coffers.{Coffer, is_coffer}
use Rattle.zo_model.specs.Tree.{FileOf}
use Rattle.tr_answer.specs.Decisions.{IsFresh}
use Rattle.tr_answer.specs.declared.decision.Decision.{Decision}
use Rattle.tr_answer.proofs.CofferLemmas.{path_put}
use Rattle.tr_answer.proofs.answers.Coffers.apply.Goals as goal

pub invariant_of-self-in-Founds : goal.invariant_of-self-in-Founds
invariant_of-self-in-Founds c =
    let coffers = c.self.inside.coffers.items in
    let path = c.in-Founds.path in
    let fresh : is_coffer c.deref.result.now path ≡ false = subst (λ (d : Decision). IsFresh c.deref.result.now d) c.in-Founds.is c.in_ok-decide.ensures.fresh in
    let free : is_coffer coffers path ≡ false = subst (λ (l : List Coffer). is_coffer l path ≡ false) c.deref.ensures.value fresh in
    let put = c.found.ensures.ok in
    path_put coffers c.found.new.coffers.items path c.in-Founds.perm (FileOf c.new.result) c.found.result c.self.invariant free c.found.ensures.ok c.found.ensures.err
