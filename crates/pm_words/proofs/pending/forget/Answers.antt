use Rattle.std.proofs.Common.{◌≡◌, ℕ, ◌-◌, ◌++◌, List, length, take, drop, ap, ◌∙◌}
use Rattle.smallvec.specs.SmallVec.{with_items}
use Rattle.smallvec.proofs.SmallVecLemmas.{items-with_items}
use Rattle.pm_words.specs.declared.pending.Older.{Older}
use Rattle.pm_words.proofs.LogLemmas.{forgotten}
use Rattle.pm_words.proofs.pending.forget.Goals as goal

pub returns : goal.returns
returns c =
    let was = c.args.older.now.items in
    let gone = c.args.gone in
    let turned : (with_items c.args.older.now c.rotate_left.new.self).items ≡ drop gone was ++ take gone was =
    items-with_items c.args.older.now c.rotate_left.new.self (c.rotate_left.ensures.len ∙ ap (λ (l : List Older). length l) c.as_mut_slice.ensures.value)
    ∙ c.rotate_left.ensures.after ∙ ap (λ (l : List Older). drop gone l ++ take gone l) c.as_mut_slice.ensures.value in
    c.truncate.ensures.items ∙ forgotten was _ (c.len.result - gone) gone turned (ap (λ (n : ℕ). n - gone) c.len.ensures.value)
