-- The longest coffer of a path's fronts is the coffer of the path.
use Rattle.std.proofs.Common.{◌≡◌, ◌⊎◌, inl, inr, ℕ, ◌-◌, ◌<◌, ◌≤◌, Bool, true, false, not, List, ◌∷◌, length, take, filter, get_or, Option, Some, None, refl, sym, ap, ◌∙◌, arith}
use Rattle.std.specs.Prelude.{nat_le, ◌&&◌, codes, nat_eq}
use Rattle.std.proofs.lemmas.Bool.{and_parts, and_from, cases_lt, le-leb, lt-leb, leb-true, not_from_false, or_cases, or_left, or_right, eqb-true, eq-eqb}
use Rattle.std.proofs.lemmas.List.{length-take-le, length-append}
use Rattle.std.proofs.lemmas.List.Elements.{filter_agree}
use Rattle.std.proofs.lemmas.Slice.Eq.{bytes_eq-Decides}
use Rattle.pm_words.specs.Word.{Word}
use Rattle.kern_model.specs.KernelView.{pages_of}
use Rattle.kern_model.specs.Journal.{kernel_word}
use Rattle.tr_types.specs.Paths.{same_text, is_path_text, begins_with, lies_under}
use Rattle.kern_model.specs.Kernel.{coffers}
use Rattle.kern_model.specs.KernelRules.{IsSoundKernel}
use Rattle.kern_model.specs.KernelTables.{Coffer, stands_in, coffer_in}
use Rattle.kern_model.specs.PathMap.{longest, coffer_of_path, coffer_above}
use Rattle.kern_roots.specs.Entries.{has_coffer, path_of, coffer_of}
use Rattle.kern_roots.specs.Fronts.{IsCofferAt, IsCofferAtFront, coffer_within, ends_name}
use Rattle.kern_roots.proofs.ReadingSound.{sound_entry, root_is_there}
use Rattle.kern_roots.proofs.ReadingPaths.{same_when, differ_when}
use Rattle.kern_roots.proofs.ReadingLists.{IsListed, longest_listed, longest_first}
use Rattle.kern_roots.proofs.ReadingCoffers.{coffers_listed, has_listed, listed_has}
use Rattle.kern_roots.proofs.ReadingChains.{path_is_its}
use Rattle.kern_roots.proofs.ReadingTexts.{slash, Begins, Whole, GoesOn, FromRoot, begins_how, begins_so, begins_length, EndsAt, front_begins, begins_front, path_size}

-- The coffers that are looked for: the path begins with theirs, and they have at most so many bytes.
abbrev pub is_within : List ℕ → ℕ → Coffer → Bool
is_within path most c = begins_with path c.path && nat_le (length c.path) most

-- no coffer that a path begins with has more bytes than `end`, up to `most`
abbrev pub NoneLonger : List Word → List ℕ → ℕ → ℕ → Type 0
NoneLonger words path most end = (j : ℕ) → has_coffer words j ≡ true → begins_with path (path_of words j) ≡ true → length (path_of words j) ≤ most → length (path_of words j) ≤ end

-- one less
pub none_longer_still : (words : List Word) (path : List ℕ) (most end : ℕ) → 1 ≤ end → NoneLonger words path most end → IsCofferAtFront words path end None → NoneLonger words path most (end - 1)
none_longer_still words path most end least before none j there begins within =
    let at_most = before j there begins within in
    let other = none j there begins in
    omega arith

-- where no name ends, no coffer's path does
pub no_front : (words : List Word) (path : List ℕ) (end : ℕ) → 2 ≤ end → (EndsAt path end → ⊥) → IsCofferAtFront words path end None
no_front words path end two inside j there begins is =
    let long : 2 ≤ length (path_of words j) = omega arith in
    inside (by is (begins_front path (path_of words j) long (begins_how path (path_of words j) begins)).1)
  where
    by : length (path_of words j) ≡ end → EndsAt path (length (path_of words j)) → EndsAt path end
    by is (inl whole) = inl (sym is ∙ whole)
    by is (inr at) = inr (ap (λ (n : ℕ). get_or path n 0) (sym is) ∙ at)

-- a front that is no coffer's path
pub missed_front : (words : List Word) (path : List ℕ) (end : ℕ) → 2 ≤ end → IsCofferAt words (take end path) None → IsCofferAtFront words path end None
missed_front words path end two none j there begins is =
    let long : 2 ≤ length (path_of words j) = omega arith in
    none j there ((begins_front path (path_of words j) long (begins_how path (path_of words j) begins)).0 ∙ ap (λ (n : ℕ). take n path) is)

-- a front that is one
pub met_front : (words : List Word) (path : List ℕ) (end id : ℕ) → end ≤ length path → EndsAt path end → IsCofferAt words (take end path) (Some id) → IsCofferAtFront words path end (Some id)
met_front words path end id within ends at =
    (at.0, at.1, ap (λ (front : List ℕ). begins_with path front) at.1 ∙ begins_so path (take end path) (front_begins path end within ends))

-- The coffer that was met is the longest.
pub met_is_longest : (words : List Word) (path : List ℕ) (most end id : ℕ) → IsSoundKernel words → 2 ≤ end → end ≤ most → end ≤ length path → NoneLonger words path most end
    → IsCofferAtFront words path end (Some id) → coffer_within (coffers words) path most ≡ Some (coffer_of words id)
met_is_longest words path most end id sound two within inside none_longer met =
    ap (λ (cs : List Coffer). longest (filter (is_within path most) cs)) (coffers_listed pages at)
    ∙ longest_listed (coffer_in pages at) (stands_in pages at) (is_within path most) None 1 256 id tt (has_listed pages at id met.0) wanted others
  where
    pages : ℕ
    pages = pages_of words

    at : ℕ → ℕ
    at = kernel_word words

    size : length (path_of words id) ≡ end
    size = ap (λ (xs : List ℕ). length xs) met.1 ∙ length-take-le end path inside

    wanted : is_within path most (coffer_of words id) ≡ true
    wanted = let s = size in and_from (begins_with path (path_of words id)) (nat_le (length (path_of words id)) most) met.2 (le-leb (length (path_of words id)) most (omega arith))

    compare : (j : ℕ) → has_coffer words j ≡ true → begins_with path (path_of words j) ≡ true → length (path_of words j) ≤ end → (length (path_of words j) < end) ⊎ (end ≤ length (path_of words j))
        → (j ≡ id) ⊎ (length (path_of words j) < length (path_of words id))
    compare j there begins at_most (inl less) = let s = size in inr (omega arith)
    compare j there begins at_most (inr more) =
        let s = size in
        let long : 2 ≤ length (path_of words j) = omega arith in
        let same_size : length (path_of words j) ≡ end = omega arith in
        let front = (begins_front path (path_of words j) long (begins_how path (path_of words j) begins)).0 ∙ ap (λ (n : ℕ). take n path) same_size in
        inl (path_is_its pages at id j (sound_entry words id sound met.0).alone there (front ∙ sym met.1))

    others : (j : ℕ) → IsListed (stands_in pages at) 1 256 j → is_within path most (coffer_of words j) ≡ true → (j ≡ id) ⊎ (length (path_of words j) < length (path_of words id))
    others j in_row want =
        let there = listed_has pages at j in_row in
        let parts = and_parts (begins_with path (path_of words j)) (nat_le (length (path_of words j)) most) want in
        compare j there parts.0 (none_longer j there parts.0 (leb-true (length (path_of words j)) most parts.1)) (cases_lt (length (path_of words j)) end)

-- the root coffer is there, and its path is `/`
pub root_there : (words : List Word) → IsSoundKernel words → has_coffer words 1 ≡ true
root_there words sound = root_is_there (pages_of words) (kernel_word words) (sound.entries 1 (omega arith) (omega arith))

pub root_path : (words : List Word) → IsSoundKernel words → path_of words 1 ≡ slash
root_path words sound = (bytes_eq-Decides (path_of words 1) (codes "/")).0 ((sound_entry words 1 sound (root_there words sound)).first refl)

-- Where none was met, it is the root coffer.
pub root_is_longest : (words : List Word) (path : List ℕ) (most : ℕ) → IsSoundKernel words → 1 ≤ most → NoneLonger words path most 1
    → coffer_within (coffers words) path most ≡ Some (coffer_of words 1)
root_is_longest words path most sound least none_longer =
    ap (λ (cs : List Coffer). longest (filter (is_within path most) cs)) (coffers_listed pages at)
    ∙ longest_first (coffer_in pages at) (stands_in pages at) (is_within path most) 1 255 (has_listed pages at 1 (root_there words sound)).passes wanted others
  where
    pages : ℕ
    pages = pages_of words

    at : ℕ → ℕ
    at = kernel_word words

    size : length (path_of words 1) ≡ 1
    size = ap (λ (xs : List ℕ). length xs) (root_path words sound)

    wanted : is_within path most (coffer_of words 1) ≡ true
    wanted =
        let s = size in
        and_from (begins_with path (path_of words 1)) (nat_le (length (path_of words 1)) most) (begins_so path (path_of words 1) (FromRoot (root_path words sound))) (le-leb (length (path_of words 1)) most (omega arith))

    others : (j : ℕ) → IsListed (stands_in pages at) 1 256 j → is_within path most (coffer_of words j) ≡ true → length (path_of words j) ≤ length (path_of words 1)
    others j in_row want =
        let parts = and_parts (begins_with path (path_of words j)) (nat_le (length (path_of words j)) most) want in
        let at_most = none_longer j (listed_has pages at j in_row) parts.0 (leb-true (length (path_of words j)) most parts.1) in
        let s = size in
        omega arith

-- The coffer of a path is the longest of those that the path begins with, up to its whole length.
pub within_whole : (cs : List Coffer) (path : List ℕ) → is_path_text path ≡ true → coffer_of_path cs path ≡ coffer_within cs path (length path)
within_whole cs path is_path = ap longest (filter_agree (λ (c : Coffer). begins_with path c.path) (is_within path (length path)) agree cs)
  where
    some : 1 ≤ length path
    some = by (path_size path is_path)
      where
        by : (path ≡ slash) ⊎ (2 ≤ length path) → 1 ≤ length path
        by (inl root) = let l = ap (λ (xs : List ℕ). length xs) root in omega arith
        by (inr two) = omega arith

    agree : (c : Coffer) → begins_with path c.path ≡ is_within path (length path) c
    agree c = by (begins_with path c.path) refl
      where
        by : (b : Bool) → begins_with path c.path ≡ b → b ≡ (b && nat_le (length c.path) (length path))
        by true is = sym (le-leb (length c.path) (length path) (begins_length path c.path some (begins_how path c.path is)))
        by false is = refl

-- The coffer above a path is the longest of those that the path begins with, short of its whole length.
pub within_above : (cs : List Coffer) (path : List ℕ) → 2 ≤ length path → coffer_above cs path ≡ coffer_within cs path (length path - 1)
within_above cs path two = ap longest (filter_agree (λ (c : Coffer). lies_under path c.path) (is_within path (length path - 1)) agree cs)
  where
    shorter : (c : Coffer) → begins_with path c.path ≡ true → not (same_text path c.path) ≡ nat_le (length c.path) (length path - 1)
    shorter c begins = by (begins_how path c.path begins)
      where
        apart : length c.path ≤ length path - 1 → not (same_text path c.path) ≡ nat_le (length c.path) (length path - 1)
        apart less =
            not_from_false (same_text path c.path) (differ_when path c.path (λ same. let l = ap (λ (xs : List ℕ). length xs) same in omega arith))
            ∙ sym (le-leb (length c.path) (length path - 1) less)

        by : Begins path c.path → not (same_text path c.path) ≡ nat_le (length c.path) (length path - 1)
        by (Whole is) =
            let l = ap (λ (xs : List ℕ). length xs) is in
            ap not (same_when path c.path is) ∙ sym (lt-leb (length c.path) (length path - 1) (omega arith))
        by (GoesOn rest is) = let l = ap (λ (xs : List ℕ). length xs) is ∙ length-append c.path (47 ∷ rest) in apart (omega arith)
        by (FromRoot is) = let l = ap (λ (xs : List ℕ). length xs) is in apart (omega arith)

    agree : (c : Coffer) → lies_under path c.path ≡ is_within path (length path - 1) c
    agree c = by (begins_with path c.path) refl
      where
        by : (b : Bool) → begins_with path c.path ≡ b → (b && not (same_text path c.path)) ≡ (b && nat_le (length c.path) (length path - 1))
        by true is = shorter c is
        by false is = refl

-- what is at a front where a name ends
pub tells_front : (words : List Word) (path : List ℕ) (end : ℕ) (found : Option ℕ) → 2 ≤ end → end ≤ length path → EndsAt path end → IsCofferAt words (take end path) found
    → IsCofferAtFront words path end found
tells_front words path end None two within ends none = missed_front words path end two none
tells_front words path end (Some id) two within ends at = met_front words path end id within ends at

-- what the test of a name's end tells
pub ends_at : (path : List ℕ) (end : ℕ) → ends_name path end ≡ true → EndsAt path end
ends_at path end is = by (or_cases (nat_eq end (length path)) (nat_eq (get_or path end 0) 47) is)
  where
    by : (nat_eq end (length path) ≡ true) ⊎ (nat_eq (get_or path end 0) 47 ≡ true) → EndsAt path end
    by (inl whole) = inl (eqb-true end (length path) whole)
    by (inr slash_at) = inr (eqb-true (get_or path end 0) 47 slash_at)

pub ends_not : (path : List ℕ) (end : ℕ) → ends_name path end ≡ false → EndsAt path end → ⊥
ends_not path end is (inl whole) = let both : true ≡ false = sym (or_left (nat_eq end (length path)) (nat_eq (get_or path end 0) 47) (eq-eqb end (length path) whole)) ∙ is in cc
ends_not path end is (inr slash_at) = let both : true ≡ false = sym (or_right (nat_eq end (length path)) (nat_eq (get_or path end 0) 47) (eq-eqb (get_or path end 0) 47 slash_at)) ∙ is in cc
