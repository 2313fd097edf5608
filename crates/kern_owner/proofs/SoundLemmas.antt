-- What the rule of the owner words gives: an owner is nobody, a coffer or the kernel.
use Rattle.std.proofs.Common.{◌≡◌, ◌⊎◌, inl, inr, ℕ, ◌<◌, ◌≤◌, Bool, true, false, cond, not, sym, ap, ◌∙◌, arith}
use Rattle.std.specs.Prelude.{◌&&◌, ◌||◌, nat_lt, nat_le, nat_eq}
use Rattle.std.proofs.lemmas.Bool.{cases_Bool, ltb-true, ltb-false, leb-true, eqb-true, not-false, or_cases, and_parts}
use Rattle.zo_layout.specs.Layout.{kernel_pages}
use Rattle.kern_model.specs.KernelTables.{owner_in, owner_fails, is_id, stands_in}

-- Whose a page is, where the rule holds.
pub data OwnerCase (pages : ℕ) (at : ℕ → ℕ) (page : ℕ) : Type 0 where
  Kernels : page < kernel_pages pages → owner_in pages at page ≡ 65535 → OwnerCase pages at page
  Nobodys : kernel_pages pages ≤ page → owner_in pages at page ≡ 0 → OwnerCase pages at page
  Coffers : kernel_pages pages ≤ page → is_id (owner_in pages at page) ≡ true → stands_in pages at (owner_in pages at page) ≡ true → OwnerCase pages at page

pub owner_case : (pages : ℕ) (at : ℕ → ℕ) (page : ℕ) → owner_fails pages at page ≡ false → OwnerCase pages at page
owner_case pages at page passes = by (cases_Bool (nat_lt page (kernel_pages pages)))
  where
    open_to : (nat_eq (owner_in pages at page) 0 ≡ true) ⊎ ((is_id (owner_in pages at page) && stands_in pages at (owner_in pages at page)) ≡ true) → kernel_pages pages ≤ page → OwnerCase pages at page
    open_to (inl none) le = Nobodys le (eqb-true (owner_in pages at page) 0 none)
    open_to (inr both) le = let parts = and_parts (is_id (owner_in pages at page)) (stands_in pages at (owner_in pages at page)) both in Coffers le parts.0 parts.1

    by : (nat_lt page (kernel_pages pages) ≡ true) ⊎ (nat_lt page (kernel_pages pages) ≡ false) → OwnerCase pages at page
    by (inl lt) =
        let kernels = sym (ap (λ (b : Bool). cond b (not (nat_eq (owner_in pages at page) 65535)) (not (nat_eq (owner_in pages at page) 0 || (is_id (owner_in pages at page) && stands_in pages at (owner_in pages at page))))) lt) ∙ passes in
        Kernels (ltb-true page (kernel_pages pages) lt) (eqb-true (owner_in pages at page) 65535 (not-false (nat_eq (owner_in pages at page) 65535) kernels))
    by (inr ge) =
        let others = sym (ap (λ (b : Bool). cond b (not (nat_eq (owner_in pages at page) 65535)) (not (nat_eq (owner_in pages at page) 0 || (is_id (owner_in pages at page) && stands_in pages at (owner_in pages at page))))) ge) ∙ passes in
        let either = not-false (nat_eq (owner_in pages at page) 0 || (is_id (owner_in pages at page) && stands_in pages at (owner_in pages at page))) others in
        open_to (or_cases (nat_eq (owner_in pages at page) 0) (is_id (owner_in pages at page) && stands_in pages at (owner_in pages at page)) either) (ltb-false page (kernel_pages pages) ge)

-- an owner is a number of 16 bits
pub owner_fits : (pages : ℕ) (at : ℕ → ℕ) (page : ℕ) → owner_fails pages at page ≡ false → owner_in pages at page < 65536
owner_fits pages at page passes = by (owner_case pages at page passes)
  where
    by : OwnerCase pages at page → owner_in pages at page < 65536
    by (Kernels lt is) = omega arith
    by (Nobodys le is) = omega arith
    by (Coffers le id stands) =
        let most = leb-true (owner_in pages at page) 256 (and_parts (nat_le 1 (owner_in pages at page)) (nat_le (owner_in pages at page) 256) id).1 in
        omega arith
