use Rattle.std.proofs.Common.{◌≡◌, length, map}
use Rattle.std.specs.List.{range_with_len}
use Rattle.zo_layout.specs.Layout.{page_at, word_of}
use Rattle.kern_model.specs.declared.inner.Inner.TheVariants.{Store}
use Rattle.kern_model.specs.Inner.{made_all}
use Rattle.kern_commit.proofs.steps.zero_page.Given as goal

abbrev pub invariant-loop-i : goal.invariant-loop-i
invariant-loop-i l = record { done : l.words ≡ made_all (map (λ i. Store (word_of (page_at l.page) i) 0) (range_with_len 0 l.i)) l.initial.words; len : length l.words ≡ length l.initial.words }
