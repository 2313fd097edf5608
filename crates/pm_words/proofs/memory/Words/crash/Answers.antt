use Rattle.std.proofs.Common.{◌≡◌, ℕ, ◌*◌, List, length, slice_index_or, sym, ap, subst, ◌∙◌}
use Rattle.std.proofs.lemmas.List.{with_items_is}
use Rattle.std.specs.Vec.{with_items}
use Rattle.pm_words.specs.View.{words_of, older_at}
use Rattle.pm_words.specs.Crash.{picked}
use Rattle.pm_words.proofs.ViewLemmas.{crash_is, length_words_of}
use Rattle.pm_words.proofs.memory.Words.crash.Goals as goal

module _ (c : goal.After-clear) where
  after : (with_items c.self.inside.present c.settle.new.present).items ≡ c.settle.new.present
  after = with_items_is c.self.inside.present c.settle.new.present (c.settle.ensures.len ∙ c.deref_mut.ensures.len)

  len : length c.settle.new.present ≡ length c.self.inside.present.items
  len = c.settle.ensures.len ∙ ap (λ (l : List ℕ). length l) c.deref_mut.ensures.value

pub returns-clause-words : goal.returns-clause-words
returns-clause-words c =
    let left = subst (λ (l : List ℕ). (k : ℕ) → slice_index_or c.settle.new.present k 0 ≡ picked c.args.pick (8 * k) (older_at c.self.inside.pending.entries k) (slice_index_or l k 0)) c.deref_mut.ensures.value c.settle.ensures.left in
    ap (λ (l : List ℕ). words_of c.settle.new.pending.entries l) (after c)
    ∙ crash_is _ c.settle.new.pending.entries c.self.inside.present.items c.settle.new.present _ _ c.self.view_is c.settle.ensures.none (len c) (λ k lt. left k)

pub returns-clause-len : goal.returns-clause-len
returns-clause-len c =
    length_words_of c.settle.new.pending.entries _ ∙ ap (λ (l : List ℕ). length l) (after c) ∙ len c
    ∙ sym (length_words_of c.self.inside.pending.entries c.self.inside.present.items) ∙ ap length c.self.view_is
