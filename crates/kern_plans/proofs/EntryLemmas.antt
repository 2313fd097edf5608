-- The number of a new coffer.
use Rattle.std.proofs.Common.{◌≡◌, ℕ, zero, suc, ◌+◌, ◌≤◌, Bool, true, false, cond, List, find, Some, ap, ◌∙◌, arith}
use Rattle.std.specs.Prelude.{nat_eq, not}
use Rattle.std.specs.List.{range_with_len}
use Rattle.std.proofs.lemmas.Bool.{ne_eqb}
use Rattle.pm_words.specs.Word.{Word}
use Rattle.kern_model.specs.KernelView.{pages_of}
use Rattle.kern_model.specs.Journal.{kernel_word}
use Rattle.kern_model.specs.KernelTables.{all_ids, stands_in}
use Rattle.kern_model.specs.PathMap.{free_id}
use Rattle.kern_model.specs.KernelCalls.{next_id}

found_from : (test : ℕ → Bool) (start count id : ℕ) → find test (range_with_len start count) ≡ Some id → start ≤ id
found_from test start zero id is = cc
found_from test start (suc count) id is = by (test start) (found_from test (start + 1) count id) is
  where
    by : (b : Bool) → (find test (range_with_len (start + 1) count) ≡ Some id → start + 1 ≤ id) → cond b (Some start) (find test (range_with_len (start + 1) count)) ≡ Some id → start ≤ id
    by true later is = let same : start ≡ id = cc in omega arith
    by false later is = let above = later is in omega arith

free_least : (pages : ℕ) (at : ℕ → ℕ) (id : ℕ) → free_id pages at ≡ Some id → 1 ≤ id
unfolding all_ids
free_least pages at id is = found_from (λ k. not (stands_in pages at k)) 1 256 id is

pub next_is : (words : List Word) (id : ℕ) → free_id (pages_of words) (kernel_word words) ≡ Some id → next_id words ≡ id
next_is words id is = rw is

pub next_is_some : (words : List Word) (id : ℕ) → free_id (pages_of words) (kernel_word words) ≡ Some id → nat_eq (next_id words) 0 ≡ false
next_is_some words id is =
    let least = free_least (pages_of words) (kernel_word words) id is in
    ap (λ (k : ℕ). nat_eq k 0) (next_is words id is) ∙ ne_eqb id 0 (λ none. omega arith)
