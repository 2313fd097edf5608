-- What find and children make of the longest coffer of a path's fronts.
use Rattle.std.proofs.Common.{◌≡◌, ◌⊎◌, inl, inr, ℕ, zero, suc, ◌+◌, ◌-◌, ◌≤◌, Bool, true, false, not, List, [], ◌∷◌, ◌++◌, length, take, map, filter, Option, Some, None, refl, sym, ap, ◌∙◌, arith, cond}
use Rattle.std.specs.Prelude.{nat_eq, nat_le, ◌&&◌, option_map}
use Rattle.std.proofs.lemmas.Bool.{and_from, le-leb, and_parts, and_left, and_right, cases_eq, eq-eqb, ne_eqb, not-true, false_from_ne_true}
use Rattle.std.specs.List.{range_with_len}
use Rattle.std.proofs.lemmas.List.{map-id, take_all, length-take-le, length-append}
use Rattle.std.proofs.lemmas.List.FromFn.{filter_of_map_range_with_len_more}
use Rattle.pm_words.specs.Word.{Word}
use Rattle.kern_model.specs.KernelView.{pages_of}
use Rattle.kern_model.specs.Journal.{kernel_word}
use Rattle.tr_types.specs.Paths.{same_text, is_path_text, begins_with, lies_under}
use Rattle.kern_model.specs.Kernel.{coffers}
use Rattle.kern_model.specs.KernelRules.{IsSoundKernel}
use Rattle.kern_model.specs.KernelTables.{Coffer, is_id, stands_in, coffer_in}
use Rattle.kern_model.specs.PathMap.{longest, coffer_of_path, coffer_above, is_coffer, children_of}
use Rattle.kern_roots.specs.Reading.{found_of}
use Rattle.kern_roots.specs.Entries.{has_coffer, path_of, coffer_of}
use Rattle.kern_roots.specs.Fronts.{coffer_within, is_child_of}
use Rattle.kern_roots.proofs.ReadingSound.{sound_entry}
use Rattle.kern_roots.proofs.ReadingPaths.{same_when, differ_when}
use Rattle.kern_roots.proofs.ReadingLists.{listed, longest_none}
use Rattle.kern_roots.proofs.ReadingCoffers.{coffers_listed, listed_has}
use Rattle.kern_roots.proofs.ReadingChains.{path_is_its}
use Rattle.kern_roots.proofs.ReadingTexts.{slash, Begins, Whole, GoesOn, FromRoot, begins_how, path_size}
use Rattle.kern_roots.proofs.ReadingFronts.{root_there, root_path, within_whole, within_above}

-- what is told of the coffer that was found
pub found_is : (words : List Word) (path : List ℕ) (id end : ℕ) → is_path_text path ≡ true → coffer_within (coffers words) path (length path) ≡ Some (coffer_of words id)
    → path_of words id ≡ take end path → end ≤ length path
    → option_map (found_of path) (coffer_of_path (coffers words) path) ≡ Some (record { id = id; exact = nat_eq end (length path); path_len = end })
found_is words path id end is_path longest_is front within =
    ap (λ (found : Option Coffer). option_map (found_of path) found) (within_whole (coffers words) path is_path ∙ longest_is)
    ∙ (λ i. Some (record { id = id; exact = exact (cases_eq end (length path)) i; path_len = size i }))
  where
    size : length (path_of words id) ≡ end
    size = ap (λ (xs : List ℕ). length xs) front ∙ length-take-le end path within

    exact : (end ≡ length path) ⊎ (end ≡ length path → ⊥) → same_text (path_of words id) path ≡ nat_eq end (length path)
    exact (inl whole) = same_when (path_of words id) path (front ∙ take_all end path (omega arith)) ∙ sym (eq-eqb end (length path) whole)
    exact (inr less) = differ_when (path_of words id) path (λ same. less (sym size ∙ ap (λ (xs : List ℕ). length xs) same)) ∙ sym (ne_eqb end (length path) less)

-- the path of every coffer but the first has a name
pub other_path : (words : List Word) (other : ℕ) → IsSoundKernel words → has_coffer words other ≡ true → (other ≡ 1 → ⊥) → 2 ≤ length (path_of words other)
other_path words other sound there isnt_root = by (path_size (path_of words other) (sound_entry words other sound there).path)
  where
    by : (path_of words other ≡ slash) ⊎ (2 ≤ length (path_of words other)) → 2 ≤ length (path_of words other)
    by (inl root) =
        absurd (isnt_root (path_is_its (pages_of words) (kernel_word words) 1 other (sound_entry words 1 sound (root_there words sound)).alone there (root ∙ sym (root_path words sound))))
    by (inr two) = two

-- nothing is above the root coffer
pub root_is_highest : (words : List Word) → IsSoundKernel words → coffer_above (coffers words) (path_of words 1) ≡ None
root_is_highest words sound =
    ap (λ (cs : List Coffer). longest (filter (λ c. lies_under (path_of words 1) c.path) cs)) (coffers_listed (pages_of words) (kernel_word words))
    ∙ longest_none (coffer_in (pages_of words) (kernel_word words)) (stands_in (pages_of words) (kernel_word words)) (λ c. lies_under (path_of words 1) c.path) 1 256
    (λ j in_row. false_from_ne_true (lies_under (path_of words 1) (path_of words j)) (none_above j (listed_has (pages_of words) (kernel_word words) j in_row)))
  where
    root_size : length (path_of words 1) ≡ 1
    root_size = ap (λ (xs : List ℕ). length xs) (root_path words sound)

    not_empty : (j : ℕ) → has_coffer words j ≡ true → 1 ≤ length (path_of words j)
    not_empty j there = by (path_size (path_of words j) (sound_entry words j sound there).path)
      where
        by : (path_of words j ≡ slash) ⊎ (2 ≤ length (path_of words j)) → 1 ≤ length (path_of words j)
        by (inl root) = let l = ap (λ (xs : List ℕ). length xs) root in omega arith
        by (inr two) = omega arith

    none_above : (j : ℕ) → has_coffer words j ≡ true → lies_under (path_of words 1) (path_of words j) ≡ true → ⊥
    none_above j there under =
        let parts = and_parts (begins_with (path_of words 1) (path_of words j)) (not (same_text (path_of words 1) (path_of words j))) under in
        by (begins_how (path_of words 1) (path_of words j) parts.0) (not-true (same_text (path_of words 1) (path_of words j)) parts.1)
      where
        by : Begins (path_of words 1) (path_of words j) → same_text (path_of words 1) (path_of words j) ≡ false → ⊥
        by (Whole is) apart = let both : true ≡ false = sym (same_when (path_of words 1) (path_of words j) is) ∙ apart in cc
        by (GoesOn rest is) apart =
            let l = ap (λ (xs : List ℕ). length xs) is ∙ length-append (path_of words j) (47 ∷ rest) in
            let s = root_size in
            let some = not_empty j there in
            omega arith
        by (FromRoot is) apart = let both : true ≡ false = sym (same_when (path_of words 1) (path_of words j) (root_path words sound ∙ sym is)) ∙ apart in cc

pub root_is_no_child : (words : List Word) (id : ℕ) → IsSoundKernel words → is_child_of words 1 id ≡ false
root_is_no_child words id sound =
    and_right (has_coffer words 1) (is_coffer id (coffer_above (coffers words) (path_of words 1))) (ap (λ (above : Option Coffer). is_coffer id above) (root_is_highest words sound))

pub missing_is_no_child : (words : List Word) (other id : ℕ) → has_coffer words other ≡ false → is_child_of words other id ≡ false
missing_is_no_child words other id missing = and_left (has_coffer words other) (is_coffer id (coffer_above (coffers words) (path_of words other))) missing

pub child_is : (words : List Word) (path : List ℕ) (other id above : ℕ) → path ≡ path_of words other → has_coffer words other ≡ true → 2 ≤ length (path_of words other)
    → coffer_within (coffers words) path (length path - 1) ≡ Some (coffer_of words above) → nat_eq above id ≡ is_child_of words other id
child_is words path other id above is there two longest_is =
    sym (ap (λ (b : Bool). b && is_coffer id (coffer_above (coffers words) (path_of words other))) there
    ∙ ap (λ (found : Option Coffer). is_coffer id found)
    (within_above (coffers words) (path_of words other) two ∙ ap (λ (xs : List ℕ). coffer_within (coffers words) xs (length xs - 1)) (sym is) ∙ longest_is))

-- one number more of a row from 1 on
pub row_more : (test : ℕ → Bool) (k : ℕ) → 1 ≤ k → filter test (range_with_len 1 (k + 1 - 1)) ≡ filter test (range_with_len 1 (k - 1)) ++ cond (test k) (k ∷ []) []
row_more test k least =
    let next : k + 1 - 1 ≡ (k - 1) + 1 = omega arith in
    ap (λ (n : ℕ). filter test (range_with_len 1 n)) next
    ∙ ap (λ (xs : List ℕ). filter test xs) (sym (map-id (range_with_len 1 ((k - 1) + 1))))
    ∙ filter_of_map_range_with_len_more test (λ (i : ℕ). i) 1 (k - 1) k (omega arith)
    ∙ ap (λ (xs : List ℕ). filter test xs ++ cond (test k) (k ∷ []) []) (map-id (range_with_len 1 (k - 1)))

-- the children, number by number
children_row : (words : List Word) (id start count : ℕ) → 1 ≤ start → start + count ≤ 257
    → map (λ (c : Coffer). c.id) (filter (λ (c : Coffer). is_coffer id (coffer_above (coffers words) c.path)) (listed (coffer_in (pages_of words) (kernel_word words)) (stands_in (pages_of words) (kernel_word words)) start count))
    ≡ filter (λ k. is_child_of words k id) (range_with_len start count)
children_row words id start zero least most = refl
children_row words id start (suc count) least most =
    by (stands_in (pages_of words) (kernel_word words) start) refl (is_coffer id (coffer_above (coffers words) (path_of words start))) refl (children_row words id (start + 1) count (omega arith) (omega arith))
  where
    rest : List ℕ
    rest = filter (stands_in (pages_of words) (kernel_word words)) (range_with_len (start + 1) count)

    kept : List ℕ
    kept = filter (λ k. is_child_of words k id) (range_with_len (start + 1) count)

    further : List Coffer
    further = filter (λ (c : Coffer). is_coffer id (coffer_above (coffers words) c.path)) (listed (coffer_in (pages_of words) (kernel_word words)) (stands_in (pages_of words) (kernel_word words)) (start + 1) count)

    in_range : is_id start ≡ true
    in_range = and_from (nat_le 1 start) (nat_le start 256) (le-leb 1 start least) (le-leb start 256 (omega arith))

    child : (b d : Bool) → stands_in (pages_of words) (kernel_word words) start ≡ b → is_coffer id (coffer_above (coffers words) (path_of words start)) ≡ d → is_child_of words start id ≡ (b && d)
    child b d is wanted =
        ap (λ (x : Bool). (x && stands_in (pages_of words) (kernel_word words) start) && is_coffer id (coffer_above (coffers words) (path_of words start))) in_range
        ∙ ap (λ (x : Bool). x && is_coffer id (coffer_above (coffers words) (path_of words start))) is
        ∙ ap (λ (x : Bool). b && x) wanted

    head : (d : Bool) → map (λ (c : Coffer). c.id) further ≡ kept → map (λ (c : Coffer). c.id) (cond d (coffer_in (pages_of words) (kernel_word words) start ∷ further) further) ≡ cond d (start ∷ kept) kept
    head true later = ap (λ (xs : List ℕ). start ∷ xs) later
    head false later = later

    by : (b : Bool) → stands_in (pages_of words) (kernel_word words) start ≡ b → (d : Bool) → is_coffer id (coffer_above (coffers words) (path_of words start)) ≡ d
        → map (λ (c : Coffer). c.id) further ≡ kept
        → map (λ (c : Coffer). c.id) (filter (λ (c : Coffer). is_coffer id (coffer_above (coffers words) c.path)) (map (coffer_in (pages_of words) (kernel_word words)) (cond b (start ∷ rest) rest)))
        ≡ cond (is_child_of words start id) (start ∷ kept) kept
    by true is d wanted later =
        ap (λ (x : Bool). map (λ (c : Coffer). c.id) (cond x (coffer_in (pages_of words) (kernel_word words) start ∷ further) further)) wanted
        ∙ head d later
        ∙ sym (ap (λ (x : Bool). cond x (start ∷ kept) kept) (child true d is wanted))
    by false is d wanted later = later ∙ sym (ap (λ (x : Bool). cond x (start ∷ kept) kept) (child false d is wanted))

pub children_are : (words : List Word) (id : ℕ) → filter (λ k. is_child_of words k id) (range_with_len 1 256) ≡ children_of (coffers words) id
children_are words id =
    sym (children_row words id 1 256 (omega arith) (omega arith))
    ∙ sym (ap (λ (cs : List Coffer). map (λ (c : Coffer). c.id) (filter (λ (c : Coffer). is_coffer id (coffer_above (coffers words) c.path)) cs)) (coffers_listed (pages_of words) (kernel_word words)))
