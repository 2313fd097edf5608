-- Sets in a list, seen as the lists of their keys.
use Rattle.std.proofs.Common.{◌≡◌, ◌∙◌, ℕ, ◌<◌, List, [], length, map, slice_set, get_or, sym, ap, arith, Result, Ok, Err, OnErr}
use Rattle.std.specs.BTreeSet.{BTreeSet, keys}
use Rattle.std.proofs.lemmas.List.{map-set, get_or-map, set-get_or, length-map}
use Rattle.kern_pages.specs.Sets.{set_of}

-- one of them, as it is read
pub keys_read : (sets : List (BTreeSet ℕ)) (now : List (List ℕ)) (owner i : ℕ) (set : BTreeSet ℕ) → map keys sets ≡ now → i ≡ owner → owner < length now → set ≡ get_or sets i set → set.keys ≡ set_of now owner
keys_read sets now owner i set view same lt read =
    let size = sym (length-map sets keys) ∙ ap (λ (n : List (List ℕ)). length n) view in
    ap (λ (s : BTreeSet ℕ). s.keys) read
    ∙ sym (get_or-map keys sets i set [] (omega arith))
    ∙ ap (λ (n : List (List ℕ)). set_of n i) view
    ∙ ap (λ (k : ℕ). set_of now k) same

-- one of them changed
pub keys_written : (change : List ℕ → List ℕ) (sets : List (BTreeSet ℕ)) (now : List (List ℕ)) (owner i : ℕ) (old new : BTreeSet ℕ) → map keys sets ≡ now → i ≡ owner → owner < length now → old ≡ get_or sets i old → new.keys ≡ change old.keys → map keys (slice_set sets i new) ≡ slice_set now owner (change (set_of now owner))
keys_written change sets now owner i old new view same lt read is =
    map-set keys sets i new
    ∙ ap (λ (ks : List ℕ). slice_set (map keys sets) i ks) (is ∙ ap change (keys_read sets now owner i old view same lt read))
    ∙ ap (λ (n : List (List ℕ)). slice_set n i (change (set_of now owner))) view
    ∙ ap (λ (k : ℕ). slice_set now k (change (set_of now owner))) same

-- and one that keeps its keys
pub keys_kept : (sets : List (BTreeSet ℕ)) (now : List (List ℕ)) (owner i : ℕ) (old new : BTreeSet ℕ) → map keys sets ≡ now → i ≡ owner → owner < length now → old ≡ get_or sets i old → new.keys ≡ old.keys → map keys (slice_set sets i new) ≡ now
keys_kept sets now owner i old new view same lt read is =
    keys_written (λ (ks : List ℕ). ks) sets now owner i old new view same lt read is ∙ set-get_or now owner []

-- what holds however a call ends
pub on_err : {T E : Type 0} {P : Type 0} (r : Result T E) → P → OnErr r P
on_err (Ok v) p = tt
on_err (Err e) p = p
