-- Pages of an owner are pages of the image.
use Rattle.std.proofs.Common.{ℕ, ◌<◌, List, take, nat_eq}
use Rattle.std.specs.Prelude.{All}
use Rattle.std.proofs.lemmas.List.Elements.{All-take}
use Rattle.pm_words.specs.Word.{Word}
use Rattle.kern_model.specs.KernelView.{pages_of}
use Rattle.kern_model.specs.Kernel.{kernel_owner, coffer_pages, spare_pages}
use Rattle.kern_owner.proofs.RangeLemmas.{within}

pub owned_inside : (words : List Word) (id : ℕ) → All (λ page. page < pages_of words) (coffer_pages words id)
owned_inside words id = within (λ page. nat_eq (kernel_owner words page) id) (pages_of words)

pub spare_inside : (words : List Word) (count : ℕ) → All (λ page. page < pages_of words) (take count (spare_pages words))
spare_inside words count = All-take (λ (page : ℕ). page < pages_of words) count (coffer_pages words 0) (owned_inside words 0)
