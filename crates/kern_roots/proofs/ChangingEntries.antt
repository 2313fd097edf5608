-- Entries of the coffer table: what the same words say, and when an entry passes after a change of another one.
use Rattle.std.proofs.Common.{◌≡◌, ℕ, zero, suc, ◌+◌, ◌<◌, ◌≤◌, ◌⊎◌, List, [], ◌++◌, take, Bool, true, false, not, ◌&&◌, ◌||◌, cond, ◌==◌, nat_le, nat_lt, codes, refl, ap, sym, ◌∙◌, inl, inr, arith, eq-eqb, ne_eqb, le-leb}
use Rattle.std.specs.List.{range_with_len, flat_map}
use Rattle.std.specs.Int.{w64, to_le_bytes}
use Rattle.std.proofs.lemmas.Bool.{cases_Bool, or_parts, or_from, cases_eq, and_from}
use Rattle.zo_layout.specs.Layout.{word_of, coffer_entry, coffer_state, coffer_path_word, coffer_path_length}
use Rattle.tr_types.specs.Paths.{same_text, is_path_text}
use Rattle.kern_model.specs.KernelTables.{Coffer, owner_in, is_there, stands_in, path_bytes, path_in, coffer_in, all_ids, ids_in, is_mode, path_fails, pages_fail, path_stands_twice, coffer_fails, entry_fails, owns}
use Rattle.kern_roots.specs.Changes.{is_used}
use Rattle.kern_roots.specs.Laws.{IsRight}
use Rattle.kern_roots.proofs.ChangingSearch.{used_is, range_of}
use Rattle.kern_roots.proofs.ChangingLayout.{first_word}
use Rattle.kern_roots.proofs.ChangingLists.{id_in_all, all_are_ids, in_filter, from_filter, none_passes, not_passed}

-- the same words in an entry, but for the next coffer in its chain
abbrev pub SameEntry : ℕ → (ℕ → ℕ) → (ℕ → ℕ) → ℕ → Type 0
SameEntry pages at after id = (i : ℕ) → i < 64 → (i ≡ 6 → ⊥) → after (word_of (coffer_entry pages id) i) ≡ at (word_of (coffer_entry pages id) i)

-- the same words in an entry from the path's length on
abbrev pub SamePath : ℕ → (ℕ → ℕ) → (ℕ → ℕ) → ℕ → Type 0
SamePath pages at after id = (i : ℕ) → 7 ≤ i → i < 64 → after (word_of (coffer_entry pages id) i) ≡ at (word_of (coffer_entry pages id) i)

pub same_state : (pages : ℕ) (at after : ℕ → ℕ) (id : ℕ) → SameEntry pages at after id → after (coffer_state (coffer_entry pages id)) ≡ at (coffer_state (coffer_entry pages id))
same_state pages at after id same =
    let e = first_word (coffer_entry pages id) in
    ap after (sym e) ∙ same 0 (omega arith) (omega arith) ∙ ap at e

pub flat_same : (f g : ℕ → List ℕ) (n a : ℕ) → ((k : ℕ) → a ≤ k → k < a + n → f k ≡ g k) → flat_map f (range_with_len a n) ≡ flat_map g (range_with_len a n)
flat_same f g zero a each = refl
flat_same f g (suc n) a each =
    ap (λ (xs : List ℕ). xs ++ flat_map f (range_with_len (a + 1) n)) (each a (omega arith) (omega arith))
    ∙ ap (λ (xs : List ℕ). g a ++ xs) (flat_same f g n (a + 1) (λ k l h. each k (omega arith) (omega arith)))

same_bytes : (pages : ℕ) (at after : ℕ → ℕ) (id : ℕ) → SamePath pages at after id → path_bytes pages after id ≡ path_bytes pages at id
same_bytes pages at after id same =
    flat_same (λ i. to_le_bytes w64 (after (coffer_path_word (coffer_entry pages id) i))) (λ i. to_le_bytes w64 (at (coffer_path_word (coffer_entry pages id) i))) 55 0
    (λ k l h. ap (to_le_bytes w64) (same (9 + k) (omega arith) (omega arith)))

pub same_path_in : (pages : ℕ) (at after : ℕ → ℕ) (id : ℕ) → SamePath pages at after id → path_in pages after id ≡ path_in pages at id
same_path_in pages at after id same =
    ap (λ (n : ℕ). cond (nat_le n 440) (take n (path_bytes pages after id)) []) (same 7 (omega arith) (omega arith))
    ∙ ap (λ (xs : List ℕ). cond (nat_le (at (coffer_path_length (coffer_entry pages id))) 440) (take (at (coffer_path_length (coffer_entry pages id))) xs) []) (same_bytes pages at after id same)

pub same_path_rule : (pages : ℕ) (at after : ℕ → ℕ) (id : ℕ) → SamePath pages at after id → path_fails pages after id ≡ path_fails pages at id
same_path_rule pages at after id same =
    ap (λ (n : ℕ). not (nat_le n 440 && is_path_text (path_in pages after id))) (same 7 (omega arith) (omega arith))
    ∙ ap (λ (path : List ℕ). not (nat_le (at (coffer_path_length (coffer_entry pages id))) 440 && is_path_text path)) (same_path_in pages at after id same)

pub same_coffer : (pages : ℕ) (at after : ℕ → ℕ) (id : ℕ) → SameEntry pages at after id → coffer_in pages after id ≡ coffer_in pages at id
same_coffer pages at after id same =
    let path = same_path_in pages at after id (λ i l h. same i h (omega arith)) in
    let uid = same 1 (omega arith) (omega arith) in
    let gid = same 2 (omega arith) (omega arith) in
    let mode = same 3 (omega arith) (omega arith) in
    let state = same_state pages at after id same in
    let kind = same 8 (omega arith) (omega arith) in
    let control = same 4 (omega arith) (omega arith) in
    let root = same 5 (omega arith) (omega arith) in
    λ i. record { id = id; path = path i; perm = record { uid = uid i; gid = gid i; mode = mode i }; state = state i; kind = kind i; control = control i; root = root i }

-- a number of a coffer that is there
pub coffer_is_there : (pages : ℕ) (at : ℕ → ℕ) (id : ℕ) → is_used pages at id ≡ true → (1 ≤ id) × (id ≤ 256) × (stands_in pages at id ≡ true)
coffer_is_there pages at id h = range_of pages at id (used_is pages at id ∙ h)

-- That a path stands twice, coffer by coffer.

pub twice_from : (pages : ℕ) (at : ℕ → ℕ) (id : ℕ)
    → ((x : ℕ) → 1 ≤ x → x ≤ 256 → stands_in pages at x ≡ true → (x ≡ id → ⊥) → same_text (path_in pages at x) (path_in pages at id) ≡ false)
    → path_stands_twice pages at id ≡ false
twice_from pages at id each =
    none_passes (λ x. not (x == id) && same_text (path_in pages at x) (path_in pages at id)) (ids_in pages at)
    (λ x h. let parts = from_filter (stands_in pages at) all_ids x h in let r = all_are_ids x parts.0 in test x r.0 r.1 parts.1 (cases_eq x id))
  where
    test : (x : ℕ) → 1 ≤ x → x ≤ 256 → stands_in pages at x ≡ true → (x ≡ id) ⊎ (x ≡ id → ⊥) → (not (x == id) && same_text (path_in pages at x) (path_in pages at id)) ≡ false
    test x l m s (inl e) = ap (λ (b : Bool). not b && same_text (path_in pages at x) (path_in pages at id)) (eq-eqb x id e)
    test x l m s (inr ne) = ap (λ (b : Bool). not b && same_text (path_in pages at x) (path_in pages at id)) (ne_eqb x id ne) ∙ each x l m s ne

pub twice_at : (pages : ℕ) (at : ℕ → ℕ) (id x : ℕ) → path_stands_twice pages at id ≡ false → 1 ≤ x → x ≤ 256 → stands_in pages at x ≡ true → (x ≡ id → ⊥)
    → same_text (path_in pages at x) (path_in pages at id) ≡ false
twice_at pages at id x none l m s ne =
    sym (ap (λ (b : Bool). not b && same_text (path_in pages at x) (path_in pages at id)) (ne_eqb x id ne))
    ∙ not_passed (λ y. not (y == id) && same_text (path_in pages at y) (path_in pages at id)) (ids_in pages at) x none (in_filter (stands_in pages at) all_ids x (id_in_all x l m) s)

-- The parts of an entry's rule.

six_parts : (a p k g t r : Bool) → (a || p || k || g || t || r) ≡ false → (a ≡ false) × (p ≡ false) × (k ≡ false) × (g ≡ false) × (t ≡ false) × (r ≡ false)
six_parts a p k g t r h =
    let h5 = or_parts _ r h in
    let h4 = or_parts _ t h5.0 in
    let h3 = or_parts _ g h4.0 in
    let h2 = or_parts _ k h3.0 in
    let h1 = or_parts a p h2.0 in
    (h1.0, h1.1, h2.1, h3.1, h4.1, h5.1)

six_from : (a p k g t r : Bool) → (a ≡ false) → (p ≡ false) → (k ≡ false) → (g ≡ false) → (t ≡ false) → (r ≡ false) → (a || p || k || g || t || r) ≡ false
six_from a p k g t r h1 h2 h3 h4 h5 h6 = or_from _ r (or_from _ t (or_from _ g (or_from _ k (or_from a p h1 h2) h3) h4) h5) h6

-- the rule of an entry that is there, and of one that isn't

abbrev pub perm_fails : Coffer → Bool
perm_fails c = not (nat_le c.perm.uid 4294967295) || not (nat_le c.perm.gid 4294967295) || not (is_mode c.perm.mode)

abbrev pub root_fails : Coffer → Bool
root_fails c = (c.id == 1) && not (same_text c.path (codes "/"))

there_rule : (pages : ℕ) (at : ℕ → ℕ) (id : ℕ) → stands_in pages at id ≡ true → entry_fails pages at id ≡ coffer_fails pages at (coffer_in pages at id)
there_rule pages at id s = ap (λ (b : Bool). cond b (coffer_fails pages at (coffer_in pages at id)) (not (at (coffer_state (coffer_entry pages id)) == 0) || (id == 1))) s

pub free_rule : (pages : ℕ) (at : ℕ → ℕ) (id : ℕ) → stands_in pages at id ≡ false → entry_fails pages at id ≡ (not (at (coffer_state (coffer_entry pages id)) == 0) || (id == 1))
free_rule pages at id s = ap (λ (b : Bool). cond b (coffer_fails pages at (coffer_in pages at id)) (not (at (coffer_state (coffer_entry pages id)) == 0) || (id == 1))) s

-- what passes of an entry that is there
pub record Entry (pages : ℕ) (at : ℕ → ℕ) (id : ℕ) : Type 0 where
  pub perm : perm_fails (coffer_in pages at id) ≡ false
  pub path : path_fails pages at id ≡ false
  pub kind : not ((coffer_in pages at id).kind == 0) ≡ false
  pub owned : pages_fail pages at (coffer_in pages at id) ≡ false
  pub once : path_stands_twice pages at id ≡ false
  pub named : root_fails (coffer_in pages at id) ≡ false

pub entry_parts : (pages : ℕ) (at : ℕ → ℕ) (id : ℕ) → stands_in pages at id ≡ true → entry_fails pages at id ≡ false → Entry pages at id
entry_parts pages at id s h =
    let c = coffer_in pages at id in
    let parts = six_parts (perm_fails c) (path_fails pages at id) (not (c.kind == 0)) (pages_fail pages at c) (path_stands_twice pages at id) (root_fails c) (sym (there_rule pages at id s) ∙ h) in
    record { perm = parts.0; path = parts.1; kind = parts.2; owned = parts.3; once = parts.4; named = parts.5 }

entry_from : (pages : ℕ) (at : ℕ → ℕ) (id : ℕ) → stands_in pages at id ≡ true → Entry pages at id → entry_fails pages at id ≡ false
entry_from pages at id s e =
    let c = coffer_in pages at id in
    there_rule pages at id s
    ∙ six_from (perm_fails c) (path_fails pages at id) (not (c.kind == 0)) (pages_fail pages at c) (path_stands_twice pages at id) (root_fails c) e.perm e.path e.kind e.owned e.once e.named

same_owned : (pages : ℕ) (at after : ℕ → ℕ) (c : Coffer) → owner_in pages after c.control ≡ owner_in pages at c.control → owner_in pages after c.root ≡ owner_in pages at c.root
    → pages_fail pages after c ≡ pages_fail pages at c
same_owned pages at after c control root =
    ap (λ (o : ℕ). not ((nat_lt c.control pages && (o == c.id)) && (nat_lt c.root pages && (owner_in pages after c.root == c.id))) || (c.control == c.root)) control
    ∙ ap (λ (o : ℕ). not ((nat_lt c.control pages && (owner_in pages at c.control == c.id)) && (nat_lt c.root pages && (o == c.id))) || (c.control == c.root)) root

-- An entry of the same words passes again, where its pages have the same owners and no coffer has come to its path.
pub passes_again : (pages : ℕ) (at after : ℕ → ℕ) (id : ℕ) → SameEntry pages at after id
    → (stands_in pages at id ≡ true → owner_in pages after (coffer_in pages at id).control ≡ owner_in pages at (coffer_in pages at id).control)
    → (stands_in pages at id ≡ true → owner_in pages after (coffer_in pages at id).root ≡ owner_in pages at (coffer_in pages at id).root)
    → (stands_in pages at id ≡ true → path_stands_twice pages at id ≡ false → path_stands_twice pages after id ≡ false)
    → entry_fails pages at id ≡ false → entry_fails pages after id ≡ false
passes_again pages at after id same control root once h = by (cases_Bool (stands_in pages at id))
  where
    state : after (coffer_state (coffer_entry pages id)) ≡ at (coffer_state (coffer_entry pages id))
    state = same_state pages at after id same

    coffer : coffer_in pages after id ≡ coffer_in pages at id
    coffer = same_coffer pages at after id same

    by : (stands_in pages at id ≡ true) ⊎ (stands_in pages at id ≡ false) → entry_fails pages after id ≡ false
    by (inl s) =
        let e = entry_parts pages at id s h in
        entry_from pages after id (ap is_there state ∙ s) (record {
          perm = ap perm_fails coffer ∙ e.perm;
          path = same_path_rule pages at after id (λ i l m. same i m (omega arith)) ∙ e.path;
          kind = ap (λ (c : Coffer). not (c.kind == 0)) coffer ∙ e.kind;
          owned = ap (pages_fail pages after) coffer ∙ same_owned pages at after (coffer_in pages at id) (control s) (root s) ∙ e.owned;
          once = once s e.once;
          named = ap root_fails coffer ∙ e.named;
        })
    by (inr s) =
        free_rule pages after id (ap is_there state ∙ s)
        ∙ ap (λ (n : ℕ). not (n == 0) || (id == 1)) state
        ∙ sym (free_rule pages at id s)
        ∙ h

-- An entry that is there passes where its coffer is right, its path is one, no other coffer has the path, and the first
-- entry's is `/`.
pub right_passes : (pages : ℕ) (at : ℕ → ℕ) (id : ℕ) → stands_in pages at id ≡ true → IsRight pages at (coffer_in pages at id) → path_fails pages at id ≡ false
    → path_stands_twice pages at id ≡ false → root_fails (coffer_in pages at id) ≡ false → entry_fails pages at id ≡ false
right_passes pages at id s right path once named =
    let c = coffer_in pages at id in
    entry_from pages at id s (record {
      perm =
          or_from (not (nat_le c.perm.uid 4294967295) || not (nat_le c.perm.gid 4294967295)) (not (is_mode c.perm.mode))
          (or_from (not (nat_le c.perm.uid 4294967295)) (not (nat_le c.perm.gid 4294967295)) (ap not (le-leb c.perm.uid 4294967295 right.uid)) (ap not (le-leb c.perm.gid 4294967295 right.gid)))
          (ap not right.mode);
      path = path;
      kind = ap not (eq-eqb c.kind 0 right.kind);
      owned =
          or_from (not (owns pages at id c.control && owns pages at id c.root)) (c.control == c.root)
          (ap not (and_from (owns pages at id c.control) (owns pages at id c.root) right.control right.root))
          (ne_eqb c.control c.root right.apart);
      once = once;
      named = named;
    })
