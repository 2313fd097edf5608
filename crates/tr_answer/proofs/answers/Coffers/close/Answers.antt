use Rattle.std.proofs.Common.{◌≡◌, length, ap, ◌∙◌}
use Rattle.std.proofs.lemmas.List.{length-map, with_items_is}
use Rattle.std.specs.Vec.{with_items}
use Rattle.zo_model.specs.Coffers.{paths_of}
use Rattle.tr_answer.specs.Contents.{content_closed, with_content}
use Rattle.tr_answer.proofs.CofferLemmas.{same_paths, paths_closed}
use Rattle.tr_answer.proofs.answers.Coffers.close.Goals as goal

pub invariant_of-self : goal.invariant_of-self
invariant_of-self c =
    let names = c.as_slice.result.now in
    let content = content_closed c.args.closed in
    let old = c.self.inside.coffers in
    let new = c.close_all.new.coffers in
    let paths : paths_of new ≡ paths_of old.items =
    ap paths_of c.close_all.ensures ∙ (paths_closed names content c.deref_mut.result.now ∙ ap paths_of c.deref_mut.ensures.value)
    in
    let len : length new ≡ old.len = ap length c.close_all.ensures ∙ (length-map c.deref_mut.result.now (with_content names content) ∙ c.deref_mut.ensures.len) in
    same_paths old.items (with_items old new).items (ap paths_of (with_items_is old new len) ∙ paths) c.self.invariant
