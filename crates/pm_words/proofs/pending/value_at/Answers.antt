use Rattle.std.proofs.Common.{ℕ, ◌+◌, ◌++◌, ◌∷◌, [], drop, slice_index_or, ap, ◌∙◌}
use Rattle.pm_words.specs.View.{values_at}
use Rattle.pm_words.proofs.LogLemmas.{value_past, value_other}
use Rattle.pm_words.proofs.pending.value_at.Goals.{then-entry-place+else-left-eq0, else-entry-place}
use Rattle.pm_words.proofs.pending.value_at.Goals as goal

pub loop-entry-preserved : goal.loop-entry-preserved
loop-entry-preserved c =
    let older = c.args.older.now in
    let i = c.loop-entry.entry-index in
    let left = c.loop-entry.left in
    let lt = c.loop-entry-test.true in
    elim c.if-entry-place.branch [
      | then-entry-place+else-left-eq0 w ↦ ap (λ (n : ℕ). slice_index_or (values_at c.args.place (drop (i + 1) older) ++ c.args.present ∷ []) n c.args.present) w.left-is
          ∙ value_past c.args.place c.args.present older i left lt w.if-entry-place.true w.if-left-eq0.false ∙ c.loop-entry.invariant
      | else-entry-place w ↦ ap (λ (n : ℕ). slice_index_or (values_at c.args.place (drop (i + 1) older) ++ c.args.present ∷ []) n c.args.present) w.left-is
          ∙ value_other c.args.place c.args.present older i left lt w.if-entry-place.false ∙ c.loop-entry.invariant
    ]
