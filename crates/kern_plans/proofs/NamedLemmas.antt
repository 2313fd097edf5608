-- Coffers that a call names.
use Rattle.std.proofs.Common.{◌≡◌, ◌∙◌, ℕ, ◌≤◌, Bool, true, false, List, Option, Some, None, Result, Ok, refl, sym, ap, subst}
use Rattle.std.specs.Prelude.{option_map, is_some, nat_le}
use Rattle.std.proofs.lemmas.Bool.{leb-true, and_parts}
use Rattle.pm_words.specs.Word.{Word}
use Rattle.kern_model.specs.KernelView.{pages_of}
use Rattle.kern_model.specs.Journal.{kernel_word}
use Rattle.kern_model.specs.Kernel.{coffers}
use Rattle.kern_model.specs.KernelTables.{Coffer, is_id, stands_in}
use Rattle.kern_model.specs.KernelRules.{IsSoundKernel}
use Rattle.tr_types.specs.Paths.{is_path_text}
use Rattle.kern_model.specs.PathMap.{coffer_with, dropped_pairs}
use Rattle.kern_model.specs.KernelCalls.{is_there_with, named, or_none}
use Rattle.kern_roots.specs.Reading.{root_of}
use Rattle.kern_roots.specs.Changes.{Changes, is_used}
use Rattle.kern_roots.specs.Entries.{has_id, has_coffer, coffer_of}
use Rattle.kern_roots.specs.declared.types.Root.{Root}
use Rattle.kern_roots.specs.declared.types.RootsFault.{RootsFault}
use Rattle.kern_roots.proofs.ReadingSound.{sound_entry}
use Rattle.kern_roots.proofs.ReadingCoffers.{coffer_is, coffer_isnt}

-- the path of a coffer is one
pub is_text : (words : List Word) (id : ℕ) (path : List ℕ) → IsSoundKernel words → option_map (λ (c : Coffer). c.path) (coffer_with (coffers words) id) ≡ Some path → is_path_text path ≡ true
is_text words id path sound is = by (has_coffer words id) refl
  where
    by : (b : Bool) → has_coffer words id ≡ b → is_path_text path ≡ true
    by true there =
        let here = ap (λ (found : Option Coffer). option_map (λ (c : Coffer). c.path) found) (coffer_is (pages_of words) (kernel_word words) id there) in
        let same : (coffer_of words id).path ≡ path = let both : Some (coffer_of words id).path ≡ Some path = sym here ∙ is in cc in
        ap is_path_text (sym same) ∙ (sound_entry words id sound there).path
    by false missing =
        let none = ap (λ (found : Option Coffer). option_map (λ (c : Coffer). c.path) found) (coffer_isnt (pages_of words) (kernel_word words) id missing) in
        let both : None ≡ Some path = sym none ∙ is in
        cc

-- a coffer whose entry is answered is there, and the one that is named
pub entry_named : (ws words : List Word) (id : ℕ) (root : Root) → ws ≡ words → Some root ≡ option_map root_of (coffer_with (coffers ws) id) → (is_there_with words id ≡ true) × (root ≡ root_of (named words id))
entry_named ws words id root same is = by (coffer_with (coffers words) id) (is ∙ ap (λ (w : List Word). option_map root_of (coffer_with (coffers w) id)) same)
  where
    by : (found : Option Coffer) → Some root ≡ option_map root_of found → (is_some found ≡ true) × (root ≡ root_of (or_none found))
    by None is = let both : Some root ≡ None = is in cc
    by (Some c) is = let same : root ≡ root_of c = cc in (refl, same)

-- a coffer that is there has a number of 1 to 256
pub used_range : (pages : ℕ) (at : ℕ → ℕ) (id : ℕ) → is_used pages at id ≡ true → id ≤ 256
used_range pages at id used = by (has_id pages at id) refl
  where
    by : (b : Bool) → has_id pages at id ≡ b → id ≤ 256
    by true there = leb-true id 256 (and_parts (nat_le 1 id) (nat_le id 256) (and_parts (is_id id) (stands_in pages at id) there).0).1
    by false missing = let both : true ≡ false = sym used ∙ ap (λ (found : Option Coffer). is_some found) (coffer_isnt pages at id missing) in cc

-- what is stored where a coffer goes
pub goes_so : (ws words : List Word) (id : ℕ) (made : List (ℕ × ℕ)) (result : Result (List (ℕ × ℕ)) RootsFault) → ws ≡ words → result ≡ Ok made
    → Changes (pages_of ws) (kernel_word ws) id (dropped_pairs (pages_of ws) (kernel_word ws) id) result
    → (id ≤ 256) × (made ≡ dropped_pairs (pages_of words) (kernel_word words) id)
goes_so ws words id made result same is changes =
    let p = subst (λ (r : Result (List (ℕ × ℕ)) RootsFault). Changes (pages_of ws) (kernel_word ws) id (dropped_pairs (pages_of ws) (kernel_word ws) id) r) is changes in
    (used_range (pages_of ws) (kernel_word ws) id p.0, p.1 ∙ ap (λ (w : List Word). dropped_pairs (pages_of w) (kernel_word w) id) same)
