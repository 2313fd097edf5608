-- The pages of an owner can all be taken back: they differ, stand in order, and are none of the kernel's.
use Rattle.std.proofs.Common.{◌≡◌, ◌≢◌, ◌∙◌, ℕ, ◌+◌, ◌<◌, ◌≤◌, false, List, [], ◌∷◌, get_or, nat_eq, sym, arith}
use Rattle.std.specs.Prelude.{All}
use Rattle.std.specs.List.{range_with_len, AllByRecursion, IsDistinct}
use Rattle.std.proofs.lemmas.Bool.{ne_eqb, eqb-true}
use Rattle.std.proofs.lemmas.List.Elements.{filter_passes}
use Rattle.zo_layout.specs.Layout.{kernel_pages}
use Rattle.kern_model.specs.KernelTables.{owner_in, pages_owned}
use Rattle.kern_owner.specs.Owners.{in_order}
use Rattle.kern_owner.specs.Laws.{OwnersPass}
use Rattle.kern_owner.proofs.RangeLemmas.{within}
use Rattle.kern_owner.proofs.SoundLemmas.{OwnerCase, Kernels, Nobodys, Coffers, owner_case}
use Rattle.kern_owner.proofs.AmongLemmas.{Ascends, least_of, ascends_kept, in_order_is}

distinct : (low : ℕ) (xs : List ℕ) → Ascends low xs → IsDistinct nat_eq xs
unfolding IsDistinct
distinct low [] up = tt
distinct low (x ∷ xs) up = (apart xs (least_of (x + 1) xs up.1), distinct (x + 1) xs up.1)
  where
    apart : (ys : List ℕ) → AllByRecursion (λ y. x + 1 ≤ y) ys → AllByRecursion (λ y. nat_eq x y ≡ false) ys
    apart [] all = tt
    apart (y ∷ ys) all = (let le = all.0 in ne_eqb x y (λ same. omega arith), apart ys all.1)

pub owned_inside : (pages : ℕ) (at : ℕ → ℕ) (owner : ℕ) → All (λ page. page < pages) (pages_owned pages at owner)
owned_inside pages at owner = within (λ page. nat_eq (owner_in pages at page) owner) pages

pub owned_differ : (pages : ℕ) (at : ℕ → ℕ) (owner : ℕ) → IsDistinct nat_eq (pages_owned pages at owner)
owned_differ pages at owner = distinct 0 (pages_owned pages at owner) (ascends_kept (λ page. nat_eq (owner_in pages at page) owner) 0 pages)

pub owned_in_order : (pages : ℕ) (at : ℕ → ℕ) (owner : ℕ) → pages_owned pages at owner ≡ in_order pages (pages_owned pages at owner)
owned_in_order pages at owner =
    in_order_is pages (pages_owned pages at owner) (ascends_kept (λ page. nat_eq (owner_in pages at page) owner) 0 pages) (owned_inside pages at owner)

-- where the rule of the owner words holds
pub owned_behind : (pages : ℕ) (at : ℕ → ℕ) (owner : ℕ) → OwnersPass pages at → owner ≢ 65535 → All (λ page. kernel_pages pages ≤ page) (pages_owned pages at owner)
owned_behind pages at owner passes other k d lt =
    by (get_or (pages_owned pages at owner) k d) (eqb-true _ owner (filter_passes (λ page. nat_eq (owner_in pages at page) owner) (range_with_len 0 pages) k d lt))
    (owner_case pages at (get_or (pages_owned pages at owner) k d) (passes (get_or (pages_owned pages at owner) k d) (owned_inside pages at owner k d lt)))
  where
    by : (page : ℕ) → owner_in pages at page ≡ owner → OwnerCase pages at page → kernel_pages pages ≤ page
    by page is (Kernels below kernels) = absurd (other (sym is ∙ kernels))
    by page is (Nobodys behind none) = behind
    by page is (Coffers behind id there) = behind
