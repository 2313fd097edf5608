use Rattle.std.proofs.Common.{◌≡◌, ◌+◌, ◌*◌, length, map}
use Rattle.std.specs.List.{range_with_len}
use Rattle.zo_layout.specs.Layout.{page_at}
use Rattle.kern_model.specs.declared.inner.Inner.TheVariants.{Flush}
use Rattle.kern_model.specs.Inner.{made_all}
use Rattle.kern_commit.proofs.steps.flush_page.Given as goal

abbrev pub invariant-loop-i : goal.invariant-loop-i
invariant-loop-i l = record { done : l.words ≡ made_all (map (λ i. Flush (page_at l.page + 64 * i)) (range_with_len 0 l.i)) l.initial.words; len : length l.words ≡ length l.initial.words }
