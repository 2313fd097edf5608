use Rattle.std.proofs.Common.{◌≡◌, ℕ, List, map, drop, length, subst, ap, ◌∙◌}
use Rattle.smallvec.specs.SmallVec.{with_items}
use Rattle.smallvec.proofs.SmallVecLemmas.{items-with_items}
use Rattle.pm_words.specs.declared.pending.Mark.{Mark}
use Rattle.pm_words.specs.View.{Held, look, lowered, IsFenced}
use Rattle.pm_words.proofs.HeldLemmas.{fenced_look, fenced_bound}
use Rattle.pm_words.proofs.pending.Line.fence.Goals as goal

module _ (c : goal.After-self-1) where
  own : c.gone_by-gone.result ≡ look c.self.inside.marks.items c.args.thread
  own = c.gone_by-gone.ensures.gone ∙ ap (λ (l : List Mark). look l c.args.thread) c.as_slice.ensures

  marks : (with_items c.self.inside.marks c.lower.new.marks).items ≡ map (lowered c.gone_by-gone.result) c.self.inside.marks.items
  marks = items-with_items c.self.inside.marks c.lower.new.marks (c.lower.ensures.len ∙ ap (λ (l : List Mark). length l) c.as_mut_slice.ensures.value)
      ∙ c.lower.ensures.lower ∙ ap (λ (l : List Mark). map (lowered c.gone_by-gone.result) l) c.as_mut_slice.ensures.value

pub invariant_of-self : goal.invariant_of-self
invariant_of-self c = fenced_bound c.self.inside.older.items _ c.self.inside.marks.items _ c.args.thread _ (own c) (marks c) c.forget.ensures c.self.invariant

pub returns : goal.returns
returns c =
    let left = c.forget.ensures ∙ ap (λ (n : ℕ). drop n c.self.inside.older.items) (own c) in
    let looks = fenced_look c.self.inside.older.items c.forget.new.older.items c.self.inside.marks.items _ c.args.thread _ (own c) (marks c) in
    record {
      fenced = subst (λ (h : Held). IsFenced c.args.thread h (record { older = c.forget.new.older.items; marks = (with_items c.self.inside.marks c.lower.new.marks).items }))
          c.self.view_is (record { older = left; marks = looks });
    }
