use Rattle.std.proofs.Common.{◌≡◌, set, ap, sym, ◌∙◌}
use Rattle.std.proofs.lemmas.Bool.{cond-true, cond-false}
use Rattle.zo_model.specs.Coffers.{Coffer}
use Rattle.zo_model.specs.Tree.{same_names}
use Rattle.tr_answer.specs.Contents.{content_closed, closed_coffer}
use Rattle.tr_answer.proofs.CofferLemmas.{set_closed}
use Rattle.tr_answer.proofs.coffer.close_all.Goals as goal
use Rattle.tr_answer.proofs.coffer.close_all.Goals.{then-same_names, else-same_names}

pub loop-coffer-preserved : goal.loop-coffer-preserved
loop-coffer-preserved c =
    let names = c.args.names.now in
    let content = content_closed c.args.closed in
    let coffers = c.loop-coffer.coffers in
    let coffer = c.coffer-item.result in
    let path_is : c.as_slice.result.now ≡ coffer.path = c.as_slice.ensures ∙ ap (λ (x : Coffer). x.path) (c.coffer.view_is ∙ sym c.coffer-item.is) in
    let same_is : c.same_names.result ≡ same_names coffer.path names = c.same_names.ensures ∙ ap (λ p. same_names p names) path_is in
    let step = set_closed names content c.args.coffers.now coffers c.loop-coffer.coffer-index coffer c.loop-coffer-test.true c.loop-coffer.invariant c.coffer-item.is in
    let index = c.loop-coffer.coffer-index in
    elim c.if-same_names.branch [
      | then-same_names w ↦
          w.coffers-is
          ∙ (ap (set coffers index) (w.close.ensures ∙ (ap (closed_coffer content) (sym c.coffer-item.is) ∙ sym (cond-true (same_names coffer.path names) (closed_coffer content coffer) coffer (sym same_is ∙ w.if-same_names.true))))
          ∙ step)
      | else-same_names w ↦
          w.coffers-is
          ∙ (ap (set coffers index) (sym c.coffer-item.is ∙ sym (cond-false (same_names coffer.path names) (closed_coffer content coffer) coffer (sym same_is ∙ w.if-same_names.false)))
          ∙ step)
    ]
