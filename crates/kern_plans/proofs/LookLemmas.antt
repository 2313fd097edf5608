-- The names of a path, and the coffer that it lies in.
use Rattle.std.proofs.Common.{◌≡◌, ◌⊎◌, inl, inr, ℕ, zero, suc, ◌+◌, ◌≤◌, Bool, true, false, cond, not, List, [], ◌∷◌, length, map, filter, Option, Some, None, refl, sym, ap, subst, ◌∙◌, arith}
use Rattle.std.specs.Prelude.{nat_eq, count_by, fold, codes, nat_lt, ◌&&◌, option_map, IsSome}
use Rattle.std.specs.List.{range_with_len, list_all}
use Rattle.std.proofs.lemmas.List.Recursion.{is_count_by}
use Rattle.std.proofs.lemmas.Bool.{and_parts, or_cases}
use Rattle.std.proofs.lemmas.Slice.Eq.{bytes_eq-Decides}
use Rattle.pm_words.specs.Word.{Word}
use Rattle.tr_types.specs.Paths.{parts_of, in_first, names_of}
use Rattle.tr_types.specs.Paths.{same_text, is_path_text, is_name_byte, is_name_text, are_names_after, begins_with}
use Rattle.kern_model.specs.KernelView.{pages_of}
use Rattle.kern_model.specs.Journal.{kernel_word}
use Rattle.kern_model.specs.Kernel.{coffers}
use Rattle.kern_model.specs.KernelTables.{Coffer, stands_in, coffer_in, coffers_in}
use Rattle.kern_model.specs.PathMap.{longer, longest, coffer_of_path, coffer_with}
use Rattle.kern_model.specs.KernelCalls.{found_for, or_none}
use Rattle.tr_types.specs.declared.kernel_call.FoundAt.{FoundAt}
use Rattle.kern_roots.specs.Reading.{root_of, found_of}
use Rattle.kern_roots.specs.declared.types.Found.{Found}
use Rattle.kern_roots.specs.declared.types.Root.{Root}
use Rattle.kern_roots.proofs.ReadingLists.{listed, IsListed}
use Rattle.kern_roots.proofs.ReadingCoffers.{coffers_listed, listed_has, coffer_is}
use Rattle.kern_roots.proofs.ReadingTexts.{slash, path_size}

-- One part more than slashes.

length_in_first : (byte : ℕ) (parts : List (List ℕ)) → 1 ≤ length parts → length (in_first byte parts) ≡ length parts
length_in_first byte [] some = absurd (omega arith)
length_in_first byte (part ∷ parts) some = refl

slashes : List ℕ → ℕ
slashes [] = 0
slashes (byte ∷ path) = cond (nat_eq byte 47) (1 + slashes path) (slashes path)

parts_by_slashes : (path : List ℕ) → length (parts_of path) ≡ slashes path + 1
unfolding slashes
parts_by_slashes [] = refl
parts_by_slashes (byte ∷ path) = by (nat_eq byte 47) (parts_by_slashes path)
  where
    by : (b : Bool) → length (parts_of path) ≡ slashes path + 1
        → length (cond b ([] ∷ parts_of path) (in_first byte (parts_of path))) ≡ cond b (1 + slashes path) (slashes path) + 1
    by true rest = omega arith
    by false rest = let same = length_in_first byte (parts_of path) (omega arith) in omega arith

length_parts : (path : List ℕ) → length (parts_of path) ≡ count_by (λ byte. nat_eq byte 47) path + 1
unfolding slashes
length_parts path = parts_by_slashes path ∙ ap (λ (n : ℕ). n + 1) (is_count_by slashes (λ byte. nat_eq byte 47) refl (λ byte rest. refl) path)

-- Names aren't empty.

name_has_bytes : (name : List ℕ) → is_name_text name ≡ true → not (nat_eq (length name) 0) ≡ true
name_has_bytes name is =
    let a = and_parts (not (nat_eq (length name) 0) && list_all is_name_byte name && not (same_text name (codes "."))) (not (same_text name (codes ".."))) is in
    let b = and_parts (not (nat_eq (length name) 0) && list_all is_name_byte name) (not (same_text name (codes "."))) a.0 in
    (and_parts (not (nat_eq (length name) 0)) (list_all is_name_byte name) b.0).0

names_stay : (names : List (List ℕ)) → list_all is_name_text names ≡ true → filter (λ part. not (nat_eq (length part) 0)) names ≡ names
names_stay [] all = refl
names_stay (name ∷ names) all =
    let p = and_parts (is_name_text name) (list_all is_name_text names) all in
    ap (λ (b : Bool). cond b (name ∷ filter (λ part. not (nat_eq (length part) 0)) names) (filter (λ part. not (nat_eq (length part) 0)) names)) (name_has_bytes name p.0)
    ∙ ap (λ (rest : List (List ℕ)). name ∷ rest) (names_stay names p.1)

empty_goes : (front : List ℕ) (names : List (List ℕ)) → nat_eq (length front) 0 ≡ true → filter (λ part. not (nat_eq (length part) 0)) (front ∷ names) ≡ filter (λ part. not (nat_eq (length part) 0)) names
empty_goes front names empty =
    ap (λ (b : Bool). cond (not b) (front ∷ filter (λ part. not (nat_eq (length part) 0)) names) (filter (λ part. not (nat_eq (length part) 0)) names)) empty

names_after : (parts : List (List ℕ)) → are_names_after parts ≡ true → length (filter (λ part. not (nat_eq (length part) 0)) parts) + 1 ≡ length parts
names_after [] are = cc
names_after (front ∷ []) are = cc
names_after (front ∷ name ∷ names) are =
    let p = and_parts (nat_eq (length front) 0) (list_all is_name_text (name ∷ names)) are in
    let same = ap (λ (xs : List (List ℕ)). length xs) (empty_goes front (name ∷ names) p.0 ∙ names_stay (name ∷ names) p.1) in
    omega arith

pub no_name : (path : List ℕ) → is_path_text path ≡ true → length path ≡ 1 → 0 ≡ length (names_of path)
no_name path text one = by (path_size path text)
  where
    by : (path ≡ slash) ⊎ (2 ≤ length path) → 0 ≡ length (names_of path)
    by (inl is) = sym (ap (λ (p : List ℕ). length (names_of p)) is)
    by (inr two) = absurd (omega arith)

pub names_by_slashes : (path : List ℕ) → is_path_text path ≡ true → (length path ≡ 1 → ⊥) → count_by (λ byte. nat_eq byte 47) path ≡ length (names_of path)
names_by_slashes path text other = by (or_cases (same_text path (codes "/")) (are_names_after (parts_of path)) text)
  where
    by : (same_text path (codes "/") ≡ true) ⊎ (are_names_after (parts_of path) ≡ true) → count_by (λ byte. nat_eq byte 47) path ≡ length (names_of path)
    by (inl root) = absurd (other (ap (λ (p : List ℕ). length p) ((bytes_eq-Decides path (codes "/")).0 root)))
    by (inr are) =
        let names = names_after (parts_of path) are in
        let parts = length_parts path in
        omega arith

-- The coffer of a path is one of the coffers.

abbrev pub OnSome : (Coffer → Type 0) → Option Coffer → Type 0
OnSome P None = Unit {0}
OnSome P (Some c) = P c

longer_keeps : (P : Coffer → Type 0) (best : Option Coffer) (c : Coffer) → OnSome P best → P c → OnSome P (longer best c)
longer_keeps P None c on p = p
longer_keeps P (Some best) c on p = by (nat_lt (length best.path) (length c.path))
  where
    by : (b : Bool) → OnSome P (cond b (Some c) (Some best))
    by true = p
    by false = on

longest_keeps : (P : Coffer → Type 0) (make : ℕ → Coffer) (test : ℕ → Bool) (want : Coffer → Bool) (start count : ℕ) → ((j : ℕ) → IsListed test start count j → P (make j))
    → (best : Option Coffer) → OnSome P best → OnSome P (fold longer best (filter want (listed make test start count)))
longest_keeps P make test want start zero all best on = on
longest_keeps P make test want start (suc count) all best on =
    by (test start) refl
    (λ next ok. longest_keeps P make test want (start + 1) count
    (λ j in_rest. all j (let from = in_rest.from in let below = in_rest.below in record { from = omega arith; below = omega arith; passes = in_rest.passes })) next ok)
  where
    rest : List Coffer
    rest = listed make test (start + 1) count

    head : (b : Bool) → P (make start) → ((next : Option Coffer) → OnSome P next → OnSome P (fold longer next (filter want (listed make test (start + 1) count))))
        → OnSome P (fold longer best (cond b (make start ∷ filter want (listed make test (start + 1) count)) (filter want (listed make test (start + 1) count))))
    head true p later = later (longer best (make start)) (longer_keeps P best (make start) on p)
    head false p later = later best on

    by : (b : Bool) → test start ≡ b → ((next : Option Coffer) → OnSome P next → OnSome P (fold longer next (filter want (listed make test (start + 1) count))))
        → OnSome P (fold longer best (filter want (map make (cond b (start ∷ filter test (range_with_len (start + 1) count)) (filter test (range_with_len (start + 1) count))))))
    by true is later = head (want (make start)) (all start (record { from = omega arith; below = omega arith; passes = is })) later
    by false is later = later best on

found_in : (pages : ℕ) (at : ℕ → ℕ) (want : Coffer → Bool) → OnSome (λ c. coffer_with (coffers_in pages at) c.id ≡ Some c) (longest (filter want (coffers_in pages at)))
found_in pages at want =
    subst (λ (cs : List Coffer). OnSome (λ c. coffer_with (coffers_in pages at) c.id ≡ Some c) (longest (filter want cs))) (sym (coffers_listed pages at))
    (longest_keeps (λ c. coffer_with (coffers_in pages at) c.id ≡ Some c) (coffer_in pages at) (stands_in pages at) want 1 256
    (λ j in_row. coffer_is pages at j (listed_has pages at j in_row)) None tt)

-- it has the number that leads to it
pub coffer_by_id : (words : List Word) (path : List ℕ) (c : Coffer) → coffer_of_path (coffers words) path ≡ Some c → coffer_with (coffers words) c.id ≡ Some c
coffer_by_id words path c is =
    subst (λ (found : Option Coffer). OnSome (λ d. coffer_with (coffers words) d.id ≡ Some d) found) is
    (found_in (pages_of words) (kernel_word words) (λ d. begins_with path d.path))

-- what was found is the coffer of the path
pub record IsFound (words : List Word) (path : List ℕ) (found : Found) (c : Coffer) : Type 0 where
  pub located : coffer_of_path (coffers words) path ≡ Some c
  pub told : found ≡ found_of path c
  pub by_id : coffer_with (coffers words) found.id ≡ Some c

pub found_so : (words : List Word) (path : List ℕ) (found : Found) → option_map (found_of path) (coffer_of_path (coffers words) path) ≡ Some found → (c : Coffer) × IsFound words path found c
found_so words path found is = by (coffer_of_path (coffers words) path) refl is
  where
    by : (o : Option Coffer) → coffer_of_path (coffers words) path ≡ o → option_map (found_of path) o ≡ Some found → (c : Coffer) × IsFound words path found c
    by None at told = cc
    by (Some c) at told =
        let same : found ≡ found_of path c = cc in (
          c,
          record { located = at; told = same; by_id = ap (λ (f : Found). coffer_with (coffers words) f.id) same ∙ coffer_by_id words path c at },
        )

pub root_there : (words : List Word) (path : List ℕ) (found : Found) (c : Coffer) (root : Option Root) → IsFound words path found c → root ≡ option_map root_of (coffer_with (coffers words) found.id) → IsSome root
root_there words path found c root is told =
    subst (λ (r : Option Root). IsSome r) (sym (told ∙ ap (λ (o : Option Coffer). option_map root_of o) is.by_id)) refl

answered : Coffer → List ℕ → FoundAt
answered c path = record { id = c.id; exact = same_text c.path path; path_len = length c.path; perm = c.perm }

pub found_at_is : (words : List Word) (path : List ℕ) (found : Found) (c : Coffer) (root : Root) → IsFound words path found c
    → Some root ≡ option_map root_of (coffer_with (coffers words) found.id)
    → (let answer : FoundAt = record { id = found.id; exact = found.exact; path_len = found.path_len; perm = root.perm } in answer ≡ found_for words path)
unfolding answered
found_at_is words path found c root is told =
    let entry : Some root ≡ Some (root_of c) = told ∙ ap (λ (o : Option Coffer). option_map root_of o) is.by_id in
    let same : root ≡ root_of c = cc in
    (λ i. record { id = (is.told i).id; exact = (is.told i).exact; path_len = (is.told i).path_len; perm = (same i).perm })
    ∙ ap (λ (o : Option Coffer). answered (or_none o) path) (sym is.located)
