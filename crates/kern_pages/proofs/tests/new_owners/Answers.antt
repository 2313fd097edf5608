use Rattle.std.proofs.Common.{◌≡◌, ◌∙◌, ℕ, ◌<◌, ◌≤◌, List, length, slice_index, sym, ap, subst, arith}
use Rattle.std.proofs.lemmas.Result.{IfOk-weaker}
use Rattle.zo_layout.specs.Layout.{kernel_pages}
use Rattle.kern_model.specs.KernelView.{pages_of}
use Rattle.kern_pages.specs.Owners.{owners_of}
use Rattle.kern_pages.proofs.TellsLemmas.{tells}
use Rattle.kern_pages.proofs.OuterLemmas.{outer}
use Rattle.kern_pages.proofs.tests.new_owners.Goals as goal

pub returns-clause-size : goal.returns-clause-size
returns-clause-size c =
    IfOk-weaker c.of_words.result (λ (o : List ℕ). o ≡ owners_of c.in_ok-words.words) (λ (o : List ℕ). length o ≡ 64)
    (λ o is. ap (λ (xs : List ℕ). length xs) is ∙ (tells c.in_ok-words.words).count ∙ c.in_ok-words.ensures.size) c.of_words.ensures

pub returns-clause-outer : goal.returns-clause-outer
returns-clause-outer c =
    let size : pages_of c.in_ok-words.words ≡ 64 = c.in_ok-words.ensures.size in
    let kernels : kernel_pages (pages_of c.in_ok-words.words) ≡ 38 = ap (λ (n : ℕ). kernel_pages n) size in
    IfOk-weaker c.of_words.result (λ (o : List ℕ). o ≡ owners_of c.in_ok-words.words) (λ (o : List ℕ). (page : ℕ) → 38 ≤ page → page < 64 → slice_index o page ≤ 256)
    (λ o is page low high. subst (λ (xs : List ℕ). slice_index xs page ≤ 256) (sym is) (outer c.in_ok-words.words 38 c.in_ok-words.ensures.sound kernels page low (omega arith))) c.of_words.ensures
