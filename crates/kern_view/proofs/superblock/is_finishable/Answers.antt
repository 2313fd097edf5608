use Rattle.std.proofs.Common.{◌≡◌, ◌<◌, ◌≤◌, ℕ, refl, sym, ap, ◌∙◌, subst, arith}
use Rattle.zo_layout.specs.Layout.{pair_address, pair_capacity}
use Rattle.pm_words.specs.Memory.{word_at}
use Rattle.kern_model.specs.KernelView.{pages_of}
use Rattle.kern_model.specs.Journal.{committed_count}
use Rattle.kern_view.specs.RuleParts.{IsTarget}
use Rattle.kern_view.proofs.TargetLemmas.{finishable_from, target_from}
use Rattle.kern_view.proofs.superblock.is_finishable.Goals as goal

pub returns-then-not-is_target : goal.returns-then-not-is_target
returns-then-not-is_target c =
    let words = c.args.words.now in
    let lt : c.loop-i.i < committed_count words = subst (λ (n : ℕ). c.loop-i.i < n) c.committed_count-count.ensures.count c.loop-i-test.true in
    let at : c.load.result ≡ (word_at words (pair_address c.loop-i.i)).present =
    c.load.ensures.value ∙ ap (λ (addr : ℕ). (word_at words addr).present) c.pair_address.ensures in (
      λ never. absurd cc,
      λ finishable.
          sym c.if-not-is_target.true ∙ c.is_target.ensures.1 (subst (IsTarget words) (sym at) (target_from words finishable c.loop-i.i lt)),
    )

pub returns : goal.returns
returns c =
    let words = c.args.words.now in
    let count = c.committed_count-count.ensures.count in
    let room : committed_count words ≤ pair_capacity (pages_of words) = omega (arith, count, c.from.ensures ∙ c.capacity.ensures.capacity) in
    let each : (k : ℕ) → k < committed_count words → IsTarget words (word_at words (pair_address k)).present =
    λ k lt. c.loop-i.invariant k (omega (arith, count)) in
    (λ _. finishable_from words room each, λ _. refl)
