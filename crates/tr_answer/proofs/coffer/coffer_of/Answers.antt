use Rattle.std.proofs.Common.{◌≡◌, ℕ, ◌+◌, ◌<◌, length, drop, Option, IfSome, ap, subst, sym, ◌∙◌}
use Rattle.zo_model.specs.Coffers.{Coffer, lies_in, coffer_of}
use Rattle.tr_answer.specs.Contents.{coffer_at}
use Rattle.tr_answer.proofs.Deepest.{deepest_of, step_taken, step_kept, step_past}
use Rattle.tr_answer.proofs.coffer.coffer_of.Goals as goal
use Rattle.tr_answer.proofs.coffer.coffer_of.Goals.{then-lies_in+then-is_deeper, else-lies_in, else-lies_in-via-then-lies_in+else-is_deeper, else-lies_in-via-else-lies_in}

pub loop-i-preserved : goal.loop-i-preserved
loop-i-preserved c =
    let coffers = c.args.coffers.now in
    let names = c.args.names.now in
    let i = c.loop-i.i in
    let coffer = c.index-coffers-i.result in
    let before = c.loop-i.deepest in
    let found = coffer_of coffers names in
    let so_far = c.loop-i.invariant.deepest in
    let lt : i < length coffers = c.loop-i-test.true in
    let path_is : c.as_slice.result.now ≡ coffer.path = c.as_slice.ensures ∙ ap (λ (x : Coffer). x.path) c.coffer.view_is in
    let lies_is : lies_in names coffer.path ≡ c.lies_in.result = sym (c.lies_in.ensures ∙ ap (lies_in names) path_is) in
    let Deepest : Option ℕ → Type 0 = λ d. deepest_of (coffer_at coffers d) (coffer_of (drop (i + 1) coffers) names) ≡ found in
    let Inside : Option ℕ → Type 0 = λ d. IfSome d (λ at. at < length coffers) in
    elim c.if-lies_in.branch [
      | then-lies_in+then-is_deeper w ↦ record {
        deepest = subst Deepest (sym w.deepest-is) (step_taken coffers names i coffer before found lt c.index-coffers-i.is (lies_is ∙ w.if-lies_in.true) (sym w.is_deeper.ensures ∙ w.if-is_deeper.true) so_far);
        inside = subst Inside (sym w.deepest-is) lt;
      }
      | else-lies_in w ↦ elim w.else-lies_in.branch [
        | else-lies_in-via-then-lies_in+else-is_deeper v ↦ record {
          deepest = subst Deepest (sym w.deepest-is) (step_kept coffers names i coffer before found lt c.index-coffers-i.is (lies_is ∙ v.if-lies_in.true) (sym v.is_deeper.ensures ∙ v.if-is_deeper.false) so_far);
          inside = subst Inside (sym w.deepest-is) c.loop-i.invariant.inside;
        }
        | else-lies_in-via-else-lies_in v ↦ record {
          deepest = subst Deepest (sym w.deepest-is) (step_past coffers names i coffer before found lt c.index-coffers-i.is (lies_is ∙ v.if-lies_in.false) so_far);
          inside = subst Inside (sym w.deepest-is) c.loop-i.invariant.inside;
        }
      ]
    ]
