use Rattle.std.proofs.Common.{◌≡◌, ℕ, ◌+◌, ◌-◌, ◌≤◌, List, [], ◌∷◌, ◌++◌, length, map, get_or, Option, ap, sym, ◌∙◌, arith, take, subst, nat_le}
use Rattle.std.specs.List.{range_with_len, flat_map}
use Rattle.std.proofs.lemmas.Bool.{cond-true, le-leb}
use Rattle.std.proofs.lemmas.List.{map-id, append-nil}
use Rattle.std.proofs.lemmas.List.FromFn.{length-map-range_with_len, get_or-map-range_with_len, map-range_with_len_more}
use Rattle.std.proofs.lemmas.Grind.{flat_map-append}
use Rattle.std.specs.Int.{w64, to_le_bytes}
use Rattle.zo_layout.specs.Layout.{coffer_entry, coffer_path_word}
use Rattle.pm_words.specs.Word.{Word}
use Rattle.kern_model.specs.KernelView.{pages_of}
use Rattle.kern_model.specs.Journal.{kernel_word}
use Rattle.kern_model.specs.KernelTables.{all_ids, path_bytes, path_in, path_length}
use Rattle.kern_view.specs.Reads.{path_there, paths_there}

pub length_paths : (words : List Word) → length (paths_there words) ≡ 256
unfolding all_ids
length_paths words = length-map-range_with_len (path_there (pages_of words) (kernel_word words)) 1 256

pub path_at : (words : List Word) (id place : ℕ) (d : Option (List ℕ)) → 1 ≤ id → id ≤ 256 → 1 + place ≡ id
    → get_or (paths_there words) place d ≡ path_there (pages_of words) (kernel_word words) id
unfolding all_ids
path_at words id place d least most is =
    get_or-map-range_with_len (path_there (pages_of words) (kernel_word words)) 1 256 place id d (omega arith) is

-- the paths of the numbers from 1 on, up to 256 of them, are those of all
pub paths_to_end : (words : List Word) (n : ℕ) → n ≡ 256 → map (path_there (pages_of words) (kernel_word words)) (range_with_len 1 n) ≡ paths_there words
unfolding all_ids
paths_to_end words n is = ap (λ (k : ℕ). map (path_there (pages_of words) (kernel_word words)) (range_with_len 1 k)) is

-- the path of one more coffer
pub paths_more : (f : ℕ → Option (List ℕ)) (id : ℕ) (new old : List (Option (List ℕ))) (path : Option (List ℕ))
    → 1 ≤ id → new ≡ old ++ path ∷ [] → old ≡ map f (range_with_len 1 (id - 1)) → path ≡ f id → new ≡ map f (range_with_len 1 ((id + 1) - 1))
paths_more f id new old path least pushed before is =
    let next : (id - 1) + 1 ≡ (id + 1) - 1 = omega arith in
    pushed
    ∙ ap (λ (paths : List (Option (List ℕ))). paths ++ path ∷ []) before
    ∙ ap (λ (path : Option (List ℕ)). map f (range_with_len 1 (id - 1)) ++ path ∷ []) is
    ∙ sym (map-range_with_len_more f 1 (id - 1) id (omega arith))
    ∙ ap (λ (n : ℕ). map f (range_with_len 1 n)) next

range_more : (n : ℕ) → range_with_len 0 (n + 1) ≡ range_with_len 0 n ++ n ∷ []
range_more n =
    sym (map-id (range_with_len 0 (n + 1))) ∙ map-range_with_len_more (λ (k : ℕ). k) 0 n n (omega arith)
    ∙ ap (λ (ks : List ℕ). ks ++ n ∷ []) (map-id (range_with_len 0 n))

-- what a function gives of the first numbers, and then of one more
pub flat_more : (f : ℕ → List ℕ) (n : ℕ) → flat_map f (range_with_len 0 (n + 1)) ≡ flat_map f (range_with_len 0 n) ++ f n
flat_more f n =
    ap (flat_map f) (range_more n) ∙ flat_map-append f (range_with_len 0 n) (n ∷ [])
    ∙ ap (λ (more : List ℕ). flat_map f (range_with_len 0 n) ++ more) (append-nil (f n))

-- the bytes of all words of a path, as far as it is long
pub path_end : (pages : ℕ) (at : ℕ → ℕ) (id n len : ℕ) (bytes : List ℕ)
    → bytes ≡ flat_map (λ i. to_le_bytes w64 (at (coffer_path_word (coffer_entry pages id) i))) (range_with_len 0 n) → n ≡ 55
    → len ≡ path_length pages at id → len ≤ 440 → take len bytes ≡ path_in pages at id
path_end pages at id n len bytes is end long fits =
    let f = λ (i : ℕ). to_le_bytes w64 (at (coffer_path_word (coffer_entry pages id) i)) in
    ap (take len) (is ∙ ap (λ (k : ℕ). flat_map f (range_with_len 0 k)) end) ∙ ap (λ (k : ℕ). take k (path_bytes pages at id)) long
    ∙ sym (cond-true (nat_le (path_length pages at id) 440) (take (path_length pages at id) (path_bytes pages at id)) []
    (le-leb (path_length pages at id) 440 (subst (λ (k : ℕ). k ≤ 440) long fits)))
