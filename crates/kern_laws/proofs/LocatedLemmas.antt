-- A coffer is found for every path: the root coffer is there, and each path begins with its path.
use Rattle.std.proofs.Common.{◌≡◌, ℕ, suc, zero, ◌+◌, Bool, true, false, cond, List, ◌∷◌, length, map, filter, Option, Some, None, refl, sym, ap, subst, ◌∙◌, arith}
use Rattle.std.specs.Prelude.{◌||◌, fold, nat_lt, codes}
use Rattle.std.specs.List.{range_with_len}
use Rattle.std.proofs.lemmas.Bool.{and_parts, cond-true, cond_both, or_right}
use Rattle.pm_words.specs.Word.{Word}
use Rattle.kern_model.specs.KernelView.{pages_of}
use Rattle.kern_model.specs.Journal.{kernel_word}
use Rattle.tr_types.specs.Paths.{same_text, begins_with}
use Rattle.kern_model.specs.KernelTables.{Coffer, is_id, stands_in, coffer_in, coffers_in, path_in}
use Rattle.kern_model.specs.PathMap.{longer, longest, coffer_of_path}
use Rattle.kern_model.specs.KernelCalls.{or_none, located}
use Rattle.kern_owner.specs.Laws.{TablesPass}
use Rattle.kern_roots.specs.Entries.{has_id}
use Rattle.kern_roots.proofs.ReadingSound.{entry_is_sound, root_is_there}
use Rattle.kern_roots.proofs.ReadingLists.{listed, IsListed, longest_from}
use Rattle.kern_roots.proofs.ReadingCoffers.{coffers_listed, listed_has}

-- The longest of some is one of them.

further : (test : ℕ → Bool) (start count k : ℕ) → IsListed test (start + 1) count k → IsListed test start (suc count) k
further test start count k in_rest = let from = in_rest.from in let below = in_rest.below in record { from = omega arith; below = omega arith; passes = in_rest.passes }

at_start : (test : ℕ → Bool) (start count : ℕ) → test start ≡ true → IsListed test start (suc count) start
at_start test start count passes = record { from = omega arith; below = omega arith; passes = passes }

-- one that is met has the property
abbrev pub IsMet : (Coffer → Type 0) → Option Coffer → Type 0
IsMet P found = (c : Coffer) × (found ≡ Some c) × P c

met_from : (P : Coffer → Type 0) (make : ℕ → Coffer) (test : ℕ → Bool) (want : Coffer → Bool) (best : Coffer) (start count : ℕ) → P best
    → ((j : ℕ) → IsListed test start count j → P (make j)) → IsMet P (longest_from make test want (Some best) start count)
met_from P make test want best start zero has all = (best, refl, has)
met_from P make test want best start (suc count) has all =
    by (test start) refl (λ next next_has. met_from P make test want next (start + 1) count next_has (λ j in_rest. all j (further test start count j in_rest)))
  where
    longer_of : (c : Coffer) → P c → ((next : Coffer) → P next → IsMet P (longest_from make test want (Some next) (start + 1) count))
        → IsMet P (longest_from make test want (longer (Some best) c) (start + 1) count)
    longer_of c its later =
        cond_both (nat_lt (length best.path) (length c.path)) (Some c) (Some best) (λ (o : Option Coffer). IsMet P (longest_from make test want o (start + 1) count)) (λ less. later c its) (λ more. later best has)

    head : (b : Bool) → test start ≡ true → ((next : Coffer) → P next → IsMet P (longest_from make test want (Some next) (start + 1) count))
        → IsMet P (fold longer (Some best) (cond b (make start ∷ filter want (listed make test (start + 1) count)) (filter want (listed make test (start + 1) count))))
    head true passes later = longer_of (make start) (all start (at_start test start count passes)) later
    head false passes later = later best has

    by : (b : Bool) → test start ≡ b → ((next : Coffer) → P next → IsMet P (longest_from make test want (Some next) (start + 1) count))
        → IsMet P (fold longer (Some best) (filter want (map make (cond b (start ∷ filter test (range_with_len (start + 1) count)) (filter test (range_with_len (start + 1) count))))))
    by true is later = head (want (make start)) is later
    by false is later = later best has

-- where the first is wanted, one is met
met_first : (P : Coffer → Type 0) (make : ℕ → Coffer) (test : ℕ → Bool) (want : Coffer → Bool) (start count : ℕ) → test start ≡ true → want (make start) ≡ true
    → ((j : ℕ) → IsListed test start (suc count) j → P (make j)) → IsMet P (longest_from make test want None start (suc count))
met_first P make test want start count passes wanted all =
    subst (IsMet P)
    (sym (ap (λ (xs : List ℕ). fold longer None (filter want (map make xs))) (cond-true (test start) _ _ passes)
    ∙ ap (λ (cs : List Coffer). fold longer None cs) (cond-true (want (make start)) _ _ wanted)))
    (met_from P make test want (make start) (start + 1) count (all start (at_start test start count passes)) (λ j in_rest. all j (further test start count j in_rest)))

-- The coffer that a path lies in is there.

begins_at_root : (pages : ℕ) (at : ℕ → ℕ) (path : List ℕ) → TablesPass pages at → begins_with path (path_in pages at 1) ≡ true
begins_at_root pages at path passes =
    let there = root_is_there pages at (passes.entries 1 (omega arith) (omega arith)) in
    let first = (entry_is_sound pages at 1 (passes.entries 1 (omega arith) (omega arith)) there).first refl in
    or_right (same_text path (path_in pages at 1) || _) (same_text (path_in pages at 1) (codes "/")) first

pub path_is_met : (pages : ℕ) (at : ℕ → ℕ) (path : List ℕ) → TablesPass pages at → IsMet (λ (c : Coffer). has_id pages at c.id ≡ true) (coffer_of_path (coffers_in pages at) path)
path_is_met pages at path passes =
    let there = root_is_there pages at (passes.entries 1 (omega arith) (omega arith)) in
    subst (λ (cs : List Coffer). IsMet (λ (c : Coffer). has_id pages at c.id ≡ true) (longest (filter (λ c. begins_with path c.path) cs))) (sym (coffers_listed pages at))
    (met_first (λ (c : Coffer). has_id pages at c.id ≡ true) (coffer_in pages at) (stands_in pages at) (λ c. begins_with path c.path) 1 255
    (and_parts (is_id 1) (stands_in pages at 1) there).1 (begins_at_root pages at path passes) (λ j in_row. listed_has pages at j in_row))

found_there : (pages : ℕ) (at : ℕ → ℕ) (found : Option Coffer) → IsMet (λ (c : Coffer). has_id pages at c.id ≡ true) found → has_id pages at (or_none found).id ≡ true
found_there pages at found (c, is, there) = ap (λ (o : Option Coffer). has_id pages at (or_none o).id) is ∙ there

pub located_there : (words : List Word) (path : List ℕ) → TablesPass (pages_of words) (kernel_word words) → has_id (pages_of words) (kernel_word words) (located words path).id ≡ true
located_there words path passes = found_there (pages_of words) (kernel_word words) (coffer_of_path (coffers_in (pages_of words) (kernel_word words)) path) (path_is_met (pages_of words) (kernel_word words) path passes)
