use Rattle.std.proofs.Common.{◌≡◌, ◌++◌, ◌∷◌, [], drop, slice_index_or}
use Rattle.pm_words.specs.View.{values_at}
use Rattle.pm_words.proofs.pending.value_at.Given as goal

-- it is so far behind in those to come
abbrev pub invariant-loop-entry : goal.invariant-loop-entry
invariant-loop-entry l = slice_index_or (values_at l.place (drop l.entry-index l.older) ++ l.present ∷ []) l.left l.present
    ≡ slice_index_or (values_at l.place l.older ++ l.present ∷ []) l.index l.present
