use Rattle.std.proofs.Common.{List, [], ◌∷◌, ◌++◌, length, ap, ◌∙◌}
use Rattle.smallvec.proofs.SmallVecLemmas.{items-with_items}
use Rattle.pm_words.specs.declared.pending.Mark.{Mark}
use Rattle.pm_words.specs.View.{look}
use Rattle.pm_words.proofs.HeldLemmas.{look_pushed}
use Rattle.pm_words.proofs.pending.put.Goals as goal

pub returns-in_ok-push-clause-others : goal.returns-in_ok-push-clause-others
returns-in_ok-push-clause-others c = λ t ne.
    let mark : Mark = record { thread = c.args.thread; gone = c.args.gone } in
    ap (λ (l : List Mark). look l t) c.in_ok-push.ensures.ok
    ∙ ap (λ (l : List Mark). look (l ++ mark ∷ []) t)
    (items-with_items c.args.marks.now c.replace.new.marks (c.replace.ensures.len ∙ ap (λ (l : List Mark). length l) c.as_mut_slice.ensures.value))
    ∙ c.replace.ensures.others t ne (mark ∷ [])
    ∙ ap (λ (l : List Mark). look (l ++ mark ∷ []) t) c.as_mut_slice.ensures.value
    ∙ look_pushed c.args.marks.now.items mark t ne
