use Rattle.std.proofs.Common.{◌+◌, ◌*◌, ◌/◌, ◌≤◌, length, arith}
use Rattle.pm_words.proofs.PlaceLemmas.{kept_here, kept_others, kept_marks, kept_looks}
use Rattle.pm_words.proofs.ViewLemmas.{place_inside, sound_after_set, sound_stays, length_after_set, store_is}
use Rattle.pm_words.proofs.memory.Words.store.Goals as goal

pub invariant_of-self-2 : goal.invariant_of-self-2
invariant_of-self-2 c =
    let inside = place_inside _ _ _ _ _ c.self.view_is c.requires c.word_index-index.ensures.place in
    let whole = c.self.invariant.pages.whole in
    let line : 8 * (c.word_index-index.result / 8) + 8 ≤ length c.self.inside.present.items = omega (arith, inside, whole) in
    let kept = c.in_ok-keep.ensures in
    sound_after_set _ _ _ _ _ (sound_stays _ _ _ _ c.self.invariant (kept.pending _ line c.self.invariant.pending)
    (kept_looks _ _ c.word_index-index.result _ kept.ok kept.others kept.bound))

pub returns-clause-ok : goal.returns-clause-ok
returns-clause-ok c =
    let place = c.word_index-index.result in
    let kept = c.in_ok-keep.ensures in
    store_is _ _ _ _ _ _ _ _ c.self.view_is c.requires c.word_index-index.ensures.place c.index.ensures
    (kept_here _ _ place _ kept.ok kept.others kept.bound) (kept_others _ _ place _ kept.ok kept.others kept.bound) (kept_marks _ _ place _ kept.ok kept.others kept.bound)

pub returns-clause-len : goal.returns-clause-len
returns-clause-len c = length_after_set _ _ _ _ _ _ c.self.view_is
