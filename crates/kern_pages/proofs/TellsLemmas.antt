-- The list of owners says what the owner table says.
use Rattle.std.proofs.Common.{◌≡◌, ◌∙◌, ℕ, List, map, filter, nat_eq, slice_index, ap, arith}
use Rattle.std.specs.List.{range_with_len}
use Rattle.std.proofs.lemmas.List.FromFn.{length-map-range_with_len, get_or-map-range_with_len}
use Rattle.pm_words.specs.Word.{Word}
use Rattle.kern_model.specs.KernelView.{pages_of}
use Rattle.kern_model.specs.Kernel.{kernel_owner}
use Rattle.kern_owner.proofs.AmongLemmas.{filter_agree_in}
use Rattle.kern_pages.specs.Owners.{pages_with, TellsOwners}

-- a list made page by page
pub made_pages : (owner_at : ℕ → ℕ) (pages owner : ℕ) → pages_with owner (map owner_at (range_with_len 0 pages)) ≡ filter (λ page. nat_eq (owner_at page) owner) (range_with_len 0 pages)
made_pages owner_at pages owner =
    ap (λ (n : ℕ). filter (λ page. nat_eq (slice_index (map owner_at (range_with_len 0 pages)) page) owner) (range_with_len 0 n)) (length-map-range_with_len owner_at 0 pages)
    ∙ filter_agree_in (λ page. nat_eq (slice_index (map owner_at (range_with_len 0 pages)) page) owner) (λ page. nat_eq (owner_at page) owner) 0 pages
    (λ page low high. ap (λ (o : ℕ). nat_eq o owner) (get_or-map-range_with_len owner_at 0 pages page page 0 (omega arith) (omega arith)))

pub tells : (words : List Word) → TellsOwners words
tells words = record {
  count = length-map-range_with_len (kernel_owner words) 0 (pages_of words);
  each = λ page lt. get_or-map-range_with_len (kernel_owner words) 0 (pages_of words) page page 0 lt (omega arith);
  pages = made_pages (kernel_owner words) (pages_of words);
}
