use Rattle.std.proofs.Common.{ℕ, ap, sym, ◌∙◌, Vec}
use Rattle.std.proofs.lemmas.Bool.{eqb-true, eqb-false}
use Rattle.std.specs.declared.alloc.Global.{Global}
use Rattle.tr_answer.proofs.Texts.{text_of_none, text_of_some}
use Rattle.tr_answer.proofs.names.path_text.Goals as goal
use Rattle.tr_answer.proofs.names.path_text.Goals.{then-is_empty+in_ok-push-2, else-is_empty}

pub returns : goal.returns
returns c =
    elim c.if-is_empty.branch [
      | then-is_empty+in_ok-push-2 w ↦
          ap (λ (v : Vec ℕ Global). v.items) w.text-is
          ∙ (w.in_ok-push-2.ensures.items
          ∙ text_of_none c.args.names.now c.loop-name.text.items c.loop-name.name-index (eqb-true _ _ (sym c.is_empty.ensures ∙ w.if-is_empty.true)) c.loop-name.invariant c.loop-name-test.false)
      | else-is_empty w ↦
          ap (λ (v : Vec ℕ Global). v.items) w.text-is
          ∙ text_of_some c.args.names.now c.loop-name.text.items c.loop-name.name-index (eqb-false _ _ (sym c.is_empty.ensures ∙ w.if-is_empty.false)) c.loop-name.invariant c.loop-name-test.false
    ]
