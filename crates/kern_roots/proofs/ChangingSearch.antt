-- Which coffers there are: the numbers 1 to 256, one after another.
use Rattle.std.proofs.Common.{◌≡◌, ℕ, suc, ◌+◌, ◌-◌, ◌<◌, ◌≤◌, ◌⊎◌, List, [], ◌∷◌, map, filter, find, nat_le, Bool, true, false, ◌&&◌, ◌||◌, cond, Option, Some, None, is_some, refl, ap, sym, ◌∙◌, inl, inr, arith}
use Rattle.std.specs.List.{range_with_len, list_any}
use Rattle.std.proofs.lemmas.Bool.{cases_Bool, and_parts, and_from, and_left, and_right, le-leb, leb-true}
use Rattle.pm_words.specs.Word.{Word}
use Rattle.kern_model.specs.KernelView.{pages_of}
use Rattle.kern_model.specs.Journal.{kernel_word}
use Rattle.kern_model.specs.KernelTables.{all_ids, is_id, coffers_in, coffer_in, stands_in, path_in}
use Rattle.kern_model.specs.PathMap.{coffer_at_path}
use Rattle.tr_types.specs.Paths.{same_text}
use Rattle.kern_roots.specs.Entries.{has_id}
use Rattle.kern_roots.specs.Fronts.{IsCofferAt}
use Rattle.kern_roots.specs.Changes.{is_taken, is_used}
use Rattle.kern_roots.proofs.ReadingPaths.{same_when, differ_when}
use Rattle.kern_roots.proofs.ReadingCoffers.{coffer_is, coffer_isnt}
use Rattle.kern_roots.proofs.ChangingLists.{id_in_all, all_are_ids, none_passes, passes_one}

-- the numbers from one on, as far as 256
unfoldable pub ids_from : ℕ → List ℕ
ids_from i = range_with_len i (257 - i)

pub ids_start : ids_from 1 ≡ all_ids
unfolding ids_from all_ids
ids_start = refl

ids_step : (i : ℕ) → i < 257 → ids_from i ≡ i ∷ ids_from (i + 1)
unfolding ids_from
ids_step i h = let e : 257 - i ≡ suc (257 - (i + 1)) = omega arith in ap (range_with_len i) e

ids_end : (i : ℕ) → 257 ≤ i → ids_from i ≡ []
unfolding ids_from
ids_end i h = let e : 257 - i ≡ 0 = omega arith in ap (range_with_len i) e

-- The first number that passes.

pub find_start : (test : ℕ → Bool) → find test (ids_from 1) ≡ find test all_ids
find_start test = ap (find test) ids_start

pub find_hit : (test : ℕ → Bool) (i : ℕ) → i < 257 → test i ≡ true → find test (ids_from i) ≡ Some i
find_hit test i h e = ap (find test) (ids_step i h) ∙ ap (λ (b : Bool). cond b (Some i) (find test (ids_from (i + 1)))) e

pub find_miss : (test : ℕ → Bool) (i : ℕ) → i < 257 → test i ≡ false → find test (ids_from (i + 1)) ≡ find test (ids_from i)
find_miss test i h e = sym (ap (find test) (ids_step i h) ∙ ap (λ (b : Bool). cond b (Some i) (find test (ids_from (i + 1)))) e)

pub find_end : (test : ℕ → Bool) (i : ℕ) → 257 ≤ i → find test (ids_from i) ≡ None
find_end test i h = ap (find test) (ids_end i h)

-- A search over the coffers that are there goes over their numbers.

find_kept : {X : Type 0} (stands : ℕ → Bool) (make : ℕ → X) (p : X → Bool) (ids : List ℕ)
    → is_some (find p (map make (filter stands ids))) ≡ list_any (λ id. stands id && p (make id)) ids
find_kept stands make p [] = refl
find_kept stands make p (id ∷ ids) = by (stands id) (find_kept stands make p ids)
  where
    hit : (h : Bool) → is_some (find p (map make (filter stands ids))) ≡ list_any (λ id. stands id && p (make id)) ids
        → is_some (cond h (Some (make id)) (find p (map make (filter stands ids)))) ≡ (h || list_any (λ id. stands id && p (make id)) ids)
    hit true e = refl
    hit false e = e

    by : (there : Bool) → is_some (find p (map make (filter stands ids))) ≡ list_any (λ id. stands id && p (make id)) ids
        → is_some (find p (map make (cond there (id ∷ filter stands ids) (filter stands ids))))
        ≡ ((there && p (make id)) || list_any (λ id. stands id && p (make id)) ids)
    by true e = hit (p (make id)) e
    by false e = e

-- a coffer that is there has the path
abbrev pub has_path_at : ℕ → (ℕ → ℕ) → List ℕ → ℕ → Bool
has_path_at pages at path id = stands_in pages at id && same_text (path_in pages at id) path

pub taken_by_ids : (pages : ℕ) (at : ℕ → ℕ) (path : List ℕ) → is_some (coffer_at_path (coffers_in pages at) path) ≡ list_any (has_path_at pages at path) all_ids
taken_by_ids pages at path = find_kept (stands_in pages at) (coffer_in pages at) (λ c. same_text c.path path) all_ids

-- A coffer has a number exactly where it is one of 1 to 256, and its entry says so.

pub used_is : (pages : ℕ) (at : ℕ → ℕ) (id : ℕ) → has_id pages at id ≡ is_used pages at id
used_is pages at id = by (has_id pages at id) refl
  where
    by : (b : Bool) → has_id pages at id ≡ b → has_id pages at id ≡ is_used pages at id
    by true e = e ∙ sym (ap is_some (coffer_is pages at id e))
    by false e = e ∙ sym (ap is_some (coffer_isnt pages at id e))

pub in_range : (pages : ℕ) (at : ℕ → ℕ) (id : ℕ) → 1 ≤ id → id ≤ 256 → has_id pages at id ≡ stands_in pages at id
in_range pages at id l m = ap (λ (b : Bool). b && stands_in pages at id) (and_from (nat_le 1 id) (nat_le id 256) (le-leb 1 id l) (le-leb id 256 m))

pub range_of : (pages : ℕ) (at : ℕ → ℕ) (id : ℕ) → has_id pages at id ≡ true → (1 ≤ id) × (id ≤ 256) × (stands_in pages at id ≡ true)
range_of pages at id h =
    let parts = and_parts (is_id id) (stands_in pages at id) h in
    let range = and_parts (nat_le 1 id) (nat_le id 256) parts.0 in
    (leb-true 1 id range.0, leb-true id 256 range.1, parts.1)

pub there_at : (pages : ℕ) (at : ℕ → ℕ) (id : ℕ) → 1 ≤ id → id ≤ 256 → stands_in pages at id ≡ is_used pages at id
there_at pages at id l m = sym (in_range pages at id l m) ∙ used_is pages at id

-- What a search for the coffer of a path tells.
pub taken_is : (words : List Word) (path : List ℕ) (r : Option ℕ) → IsCofferAt words path r → is_some r ≡ is_taken (pages_of words) (kernel_word words) path
taken_is words path None none =
    sym (taken_by_ids (pages_of words) (kernel_word words) path
    ∙ none_passes (has_path_at (pages_of words) (kernel_word words) path) all_ids (λ x i. let r = all_are_ids x i in by x r.0 r.1 (cases_Bool (stands_in (pages_of words) (kernel_word words) x))))
  where
    by : (x : ℕ) → 1 ≤ x → x ≤ 256 → (stands_in (pages_of words) (kernel_word words) x ≡ true) ⊎ (stands_in (pages_of words) (kernel_word words) x ≡ false)
        → has_path_at (pages_of words) (kernel_word words) path x ≡ false
    by x l m (inl s) =
        and_right (stands_in (pages_of words) (kernel_word words) x) (same_text (path_in (pages_of words) (kernel_word words) x) path)
        (differ_when (path_in (pages_of words) (kernel_word words) x) path (none x (in_range (pages_of words) (kernel_word words) x l m ∙ s)))
    by x l m (inr s) = and_left (stands_in (pages_of words) (kernel_word words) x) (same_text (path_in (pages_of words) (kernel_word words) x) path) s
taken_is words path (Some id) found =
    let pages = pages_of words in
    let at = kernel_word words in
    let r = range_of pages at id found.0 in
    sym (taken_by_ids pages at path ∙ passes_one (has_path_at pages at path) all_ids id (id_in_all id r.0 r.1)
    (and_from (stands_in pages at id) (same_text (path_in pages at id) path) r.2 (same_when (path_in pages at id) path found.1)))
