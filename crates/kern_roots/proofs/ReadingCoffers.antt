-- The coffer of a number, of a path.
use Rattle.std.proofs.Common.{◌≡◌, ℕ, true, false, List, Some, None, refl, sym, ap, ◌∙◌, arith}
use Rattle.std.specs.Prelude.{nat_le, nat_eq}
use Rattle.std.proofs.lemmas.Bool.{and_from, and_parts, le-leb, leb-true, eq-eqb, eqb-true, false_from_ne_true}
use Rattle.kern_model.specs.KernelTables.{Coffer, all_ids, is_id, stands_in, coffer_in, coffers_in}
use Rattle.kern_model.specs.PathMap.{coffer_with}
use Rattle.kern_roots.specs.Entries.{has_id}
use Rattle.kern_roots.proofs.ReadingLists.{listed, IsListed, find_listed, find_none}

pub coffers_listed : (pages : ℕ) (at : ℕ → ℕ) → coffers_in pages at ≡ listed (coffer_in pages at) (stands_in pages at) 1 256
unfolding all_ids
coffers_listed pages at = refl

-- a coffer that is there stands in the list under its number, and each of the list is there
pub has_listed : (pages : ℕ) (at : ℕ → ℕ) (id : ℕ) → has_id pages at id ≡ true → IsListed (stands_in pages at) 1 256 id
has_listed pages at id there =
    let parts = and_parts (is_id id) (stands_in pages at id) there in
    let range = and_parts (nat_le 1 id) (nat_le id 256) parts.0 in
    let least = leb-true 1 id range.0 in
    let most = leb-true id 256 range.1 in
    record { from = least; below = omega arith; passes = parts.1 }

pub listed_has : (pages : ℕ) (at : ℕ → ℕ) (id : ℕ) → IsListed (stands_in pages at) 1 256 id → has_id pages at id ≡ true
listed_has pages at id in_row =
    let from = in_row.from in
    let below = in_row.below in
    and_from (is_id id) (stands_in pages at id) (and_from (nat_le 1 id) (nat_le id 256) (le-leb 1 id from) (le-leb id 256 (omega arith))) in_row.passes

pub coffer_is : (pages : ℕ) (at : ℕ → ℕ) (id : ℕ) → has_id pages at id ≡ true → coffer_with (coffers_in pages at) id ≡ Some (coffer_in pages at id)
coffer_is pages at id there =
    ap (λ (cs : List Coffer). coffer_with cs id) (coffers_listed pages at)
    ∙ find_listed (coffer_in pages at) (stands_in pages at) (λ c. nat_eq c.id id) 1 256 id (has_listed pages at id there) (eq-eqb id id refl) (λ j in_row same. eqb-true j id same)

pub coffer_isnt : (pages : ℕ) (at : ℕ → ℕ) (id : ℕ) → has_id pages at id ≡ false → coffer_with (coffers_in pages at) id ≡ None
coffer_isnt pages at id missing =
    ap (λ (cs : List Coffer). coffer_with cs id) (coffers_listed pages at)
    ∙ find_none (coffer_in pages at) (stands_in pages at) (λ c. nat_eq c.id id) 1 256 (λ j in_row.
    false_from_ne_true (nat_eq j id) (λ same.
    let there = listed_has pages at j in_row in
    let both : true ≡ false = sym there ∙ ap (λ (k : ℕ). has_id pages at k) (eqb-true j id same) ∙ missing in
    cc))
