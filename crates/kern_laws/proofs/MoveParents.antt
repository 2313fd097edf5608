-- The coffer that another lies directly under: it is another one, and none is above the root coffer.
use Rattle.std.proofs.Common.{◌≡◌, ◌≢◌, ◌⊎◌, inl, inr, ℕ, Bool, true, false, cond, not, List, [], ◌∷◌, map, filter, Option, Some, None, refl, sym, ap, ◌∙◌, nat_eq}
use Rattle.std.specs.Prelude.{◌&&◌, fold, length, nat_lt}
use Rattle.std.proofs.lemmas.Bool.{and_parts, and_from, eqb-true, not-true, true≢false}
use Rattle.std.proofs.lemmas.Option.{same_Some}
use Rattle.pm_words.specs.Word.{Word}
use Rattle.kern_model.specs.KernelView.{pages_of}
use Rattle.kern_model.specs.Journal.{kernel_word}
use Rattle.kern_model.specs.Kernel.{coffers}
use Rattle.kern_model.specs.KernelRules.{IsSoundKernel}
use Rattle.kern_model.specs.KernelTables.{Coffer, coffer_in, path_in, ids_in, coffers_in}
use Rattle.tr_types.specs.Paths.{same_text, begins_with, lies_under}
use Rattle.kern_model.specs.PathMap.{longer, coffer_above, is_coffer}
use Rattle.kern_model.specs.KernelCalls.{holds_as_owner, holds_for_writing, is_there_with, named, or_none, holds_both}
use Rattle.kern_model.specs.Commits.{IsWorking}
use Rattle.tr_types.specs.declared.kernel_call.Holder.{Holder}
use Rattle.kern_roots.specs.Entries.{has_coffer, path_of}
use Rattle.kern_roots.proofs.ReadingCoffers.{coffer_is}
use Rattle.kern_roots.proofs.ReadingPaths.{same_when}
use Rattle.kern_roots.proofs.ReadingFronts.{root_there}
use Rattle.kern_roots.proofs.ReadingChildren.{root_is_no_child}
use Rattle.kern_laws.proofs.MoveOwners.{used_has}

longer_is : (best : Option Coffer) (d c : Coffer) → longer best d ≡ Some c → (best ≡ Some c) ⊎ (d ≡ c)
longer_is None d c is = inr (same_Some d c is)
longer_is (Some best) d c is = by (nat_lt (length best.path) (length d.path)) is
  where
    by : (b : Bool) → cond b (Some d) (Some best) ≡ Some c → (Some best ≡ Some c) ⊎ (d ≡ c)
    by true e = inr (same_Some d c e)
    by false e = inl e

-- the longest of those that are wanted is wanted
longest_wanted : (make : ℕ → Coffer) (want : Coffer → Bool) (best : Option Coffer) (ids : List ℕ) (c : Coffer) → fold longer best (filter want (map make ids)) ≡ Some c
    → (best ≡ Some c) ⊎ ((j : ℕ) × (make j ≡ c) × (want (make j) ≡ true))
longest_wanted make want best [] c is = inl is
longest_wanted make want best (i ∷ ids) c is = by (want (make i)) refl (λ next e. longest_wanted make want next ids c e)
  where
    rest : List Coffer
    rest = filter want (map make ids)

    by : (b : Bool) → want (make i) ≡ b → ((next : Option Coffer) → fold longer next rest ≡ Some c → (next ≡ Some c) ⊎ ((j : ℕ) × (make j ≡ c) × (want (make j) ≡ true)))
        → (best ≡ Some c) ⊎ ((j : ℕ) × (make j ≡ c) × (want (make j) ≡ true))
    by true wanted later = first (later (longer best (make i)) (sym (ap (λ (b : Bool). fold longer best (cond b (make i ∷ rest) rest)) wanted) ∙ is))
      where
        own : (best ≡ Some c) ⊎ (make i ≡ c) → (best ≡ Some c) ⊎ ((j : ℕ) × (make j ≡ c) × (want (make j) ≡ true))
        own (inl e) = inl e
        own (inr e) = inr (i, e, wanted)

        first : (longer best (make i) ≡ Some c) ⊎ ((j : ℕ) × (make j ≡ c) × (want (make j) ≡ true)) → (best ≡ Some c) ⊎ ((j : ℕ) × (make j ≡ c) × (want (make j) ≡ true))
        first (inl e) = own (longer_is best (make i) c e)
        first (inr later) = inr later
    by false unwanted later = later best (sym (ap (λ (b : Bool). fold longer best (cond b (make i ∷ rest) rest)) unwanted) ∙ is)

pub parent_apart : (pages : ℕ) (at : ℕ → ℕ) (id parent : ℕ) → is_coffer parent (coffer_above (coffers_in pages at) (path_in pages at id)) ≡ true → parent ≢ id
parent_apart pages at id parent is same = by (coffer_above (coffers_in pages at) (path_in pages at id)) refl is
  where
    under : (c : Coffer) → nat_eq c.id parent ≡ true
        → (None ≡ Some c) ⊎ ((j : ℕ) × (coffer_in pages at j ≡ c) × (lies_under (path_in pages at id) (path_in pages at j) ≡ true)) → ⊥
    under c its (inl e) = cc
    under c its (inr (j, e, lies)) =
        let number : j ≡ id = ap (λ (d : Coffer). d.id) e ∙ eqb-true c.id parent its ∙ same in
        let parts = and_parts (begins_with (path_in pages at id) (path_in pages at j)) (not (same_text (path_in pages at id) (path_in pages at j))) lies in
        let apart = not-true (same_text (path_in pages at id) (path_in pages at j)) parts.1 in
        true≢false (sym (same_when (path_in pages at id) (path_in pages at j) (ap (path_in pages at) (sym number))) ∙ apart)

    by : (above : Option Coffer) → coffer_above (coffers_in pages at) (path_in pages at id) ≡ above → is_coffer parent above ≡ true → ⊥
    by None found its = true≢false (sym its)
    by (Some c) found its = under c its (longest_wanted (coffer_in pages at) (λ (d : Coffer). lies_under (path_in pages at id) d.path) None (ids_in pages at) c found)

pub has_parent : (words : List Word) (id parent : ℕ) → IsSoundKernel words → is_coffer parent (coffer_above (coffers words) (path_of words id)) ≡ true → id ≢ 1
has_parent words id parent sound is first =
    let child = and_from (has_coffer words 1) (is_coffer parent (coffer_above (coffers words) (path_of words 1))) (root_there words sound)
    (ap (λ (n : ℕ). is_coffer parent (coffer_above (coffers words) (path_of words n))) (sym first) ∙ is) in
    true≢false (sym child ∙ root_is_no_child words parent sound)

-- the coffer that a number names
pub named_is : (words : List Word) (id : ℕ) → is_there_with words id ≡ true → named words id ≡ coffer_in (pages_of words) (kernel_word words) id
named_is words id there = ap or_none (coffer_is (pages_of words) (kernel_word words) id (used_has (pages_of words) (kernel_word words) id there))

-- What is known of a coffer that is to go into its parent, or with its entry in the parent.
pub record IsUnder (words : List Word) (holders : List Holder) (thread id parent : ℕ) : Type 0 where
  pub later : id ≢ 1
  pub apart : parent ≢ id
  pub writes : holds_for_writing thread parent holders ≡ true

pub is_under : (words : List Word) (holders : List Holder) (thread id parent : ℕ) → IsWorking words holders → is_there_with words id ≡ true → holds_both words holders thread id parent ≡ true
    → IsUnder words holders thread id parent
is_under words holders thread id parent works there both =
    let outer = and_parts (holds_as_owner thread id holders && is_coffer parent (coffer_above (coffers words) (named words id).path)) (holds_for_writing thread parent holders) both in
    let inner = and_parts (holds_as_owner thread id holders) (is_coffer parent (coffer_above (coffers words) (named words id).path)) outer.0 in
    let above : is_coffer parent (coffer_above (coffers words) (path_of words id)) ≡ true =
    ap (λ (c : Coffer). is_coffer parent (coffer_above (coffers words) c.path)) (sym (named_is words id there)) ∙ inner.1
    in
    record { later = has_parent words id parent works.sound above; apart = parent_apart (pages_of words) (kernel_word words) id parent above; writes = outer.1 }
