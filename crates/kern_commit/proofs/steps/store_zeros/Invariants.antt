use Rattle.std.proofs.Common.{◌≡◌, length, take}
use Rattle.std.specs.List.{flat_map}
use Rattle.kern_model.specs.Inner.{made_all}
use Rattle.kern_commit.specs.Pages.{page_zeros}
use Rattle.kern_commit.proofs.steps.store_zeros.Given as goal

abbrev pub invariant-loop-page : goal.invariant-loop-page
invariant-loop-page l = record { done : l.words ≡ made_all (flat_map page_zeros (take l.page-index l.granted)) l.initial.words; len : length l.words ≡ length l.initial.words }
