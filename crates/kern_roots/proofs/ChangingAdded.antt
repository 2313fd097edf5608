-- A coffer is added: what is read of its entry, and what the table keeps.
use Rattle.std.proofs.Common.{◌≡◌, ℕ, ◌+◌, ◌<◌, ◌≤◌, ◌⊎◌, List, [], ◌∷◌, length, take, get_or, find, Some, Bool, true, false, not, ◌&&◌, cond, nat_le, refl, ap, sym, subst, ◌∙◌, inl, inr, arith, le-leb, ◌==◌, codes, ne_eqb}
use Rattle.std.specs.List.{range_with_len, flat_map}
use Rattle.std.specs.Int.{w64, to_le_bytes}
use Rattle.std.proofs.lemmas.Bool.{cases_Bool, not-true, true≢false, or_right}
use Rattle.std.proofs.lemmas.Option.{same_Some}
use Rattle.std.proofs.lemmas.Cmp.{nat_list_eq_equiv}
use Rattle.std.proofs.lemmas.List.{get_or-append-add}
use Rattle.std.proofs.lemmas.List.FromFn.{length-map-range_with_len, get_or-map-range_with_len}
use Rattle.zo_layout.specs.Layout.{word_of, coffer_entry, coffer_state, coffer_path_word, path_bucket, bucket_of}
use Rattle.tr_types.specs.Paths.{same_text, is_path_text}
use Rattle.kern_model.specs.Journal.{laid_over}
use Rattle.kern_model.specs.Kernel.{read_after}
use Rattle.kern_model.specs.KernelTables.{Coffer, all_ids, is_there, is_in_chain, stands_in, path_in, path_bytes, coffer_in, path_fails, entry_fails}
use Rattle.kern_model.specs.PathMap.{free_id, entry_words, text_words, from_address, added_pairs}
use Rattle.kern_roots.specs.Changes.{is_taken}
use Rattle.kern_roots.specs.Laws.{AddLaw, SameRoots, BucketsPass, IsComing}
use Rattle.kern_roots.proofs.ChangingPairs.{text_word}
use Rattle.kern_roots.proofs.ChangingSearch.{has_path_at, taken_by_ids}
use Rattle.kern_roots.proofs.ChangingLayout.{first_word, same_entry_word, entry_not_bucket, same_bucket}
use Rattle.kern_roots.proofs.ChangingReads.{laid_append, laid_past, laid_one, laid_miss, laid_hit}
use Rattle.kern_roots.proofs.ChangingLists.{id_in_all, all_are_ids, in_first, in_rest, not_passed}
use Rattle.kern_roots.proofs.ChangingChain.{bucket_below}
use Rattle.kern_roots.proofs.ChangingEntries.{same_coffer, flat_same, right_passes, twice_from, free_rule, same_path_in, same_state}
use Rattle.kern_roots.proofs.ChangingText.{Small, small_path, small_all, chunk, word_bytes, chunks_are}
use Rattle.kern_roots.proofs.ChangingSets.{OthersStay, others_pass}
use Rattle.kern_roots.proofs.ChangingAdd.{Arrives, arrived}

-- the first that passes passes, and is in the list
found_passes : (p : ℕ → Bool) (xs : List ℕ) (x : ℕ) → find p xs ≡ Some x → (is_in_chain x xs ≡ true) × (p x ≡ true)
found_passes p [] x e = cc
found_passes p (y ∷ ys) x e = by (cases_Bool (p y)) (found_passes p ys x)
  where
    by : (p y ≡ true) ⊎ (p y ≡ false) → (find p ys ≡ Some x → (is_in_chain x ys ≡ true) × (p x ≡ true)) → (is_in_chain x (y ∷ ys) ≡ true) × (p x ≡ true)
    by (inl t) more =
        let same : y ≡ x = same_Some y x (sym (ap (λ (b : Bool). cond b (Some y) (find p ys)) t) ∙ e) in
        (subst (λ (k : ℕ). is_in_chain k (y ∷ ys) ≡ true) same (in_first y ys), sym (ap p same) ∙ t)
    by (inr t) more =
        let m = more (sym (ap (λ (b : Bool). cond b (Some y) (find p ys)) t) ∙ e) in
        (in_rest x y ys m.0, m.1)

pub record IsFree (pages : ℕ) (at : ℕ → ℕ) (id : ℕ) : Type 0 where
  pub least : 1 ≤ id
  pub most : id ≤ 256
  pub free : stands_in pages at id ≡ false

is_free : (pages : ℕ) (at : ℕ → ℕ) (id : ℕ) → free_id pages at ≡ Some id → IsFree pages at id
is_free pages at id e =
    let f = found_passes (λ x. not (stands_in pages at x)) all_ids id e in
    let r = all_are_ids id f.0 in
    record { least = r.0; most = r.1; free = not-true (stands_in pages at id) f.1 }

-- The pairs of a new coffer, read again.

abbrev new_words : ℕ → (ℕ → ℕ) → Coffer → List ℕ
new_words pages at c = entry_words c (at (path_bucket pages (bucket_of c.path)))

pub length_words : (c : Coffer) (next : ℕ) → length (entry_words c next) ≡ 64
length_words c next = omega (arith, length-map-range_with_len (text_word c.path) 0 55)

-- the entry's words and the bucket's, one after another
read_again : (pages : ℕ) (at : ℕ → ℕ) (c : Coffer) (addr : ℕ)
    → read_after (added_pairs pages at c) at addr
    ≡ laid_over ((path_bucket pages (bucket_of c.path), c.id) ∷ []) addr (laid_over (from_address (coffer_entry pages c.id) (new_words pages at c)) addr (at addr))
read_again pages at c addr =
    laid_append (from_address (coffer_entry pages c.id) (new_words pages at c)) ((path_bucket pages (bucket_of c.path), c.id) ∷ []) addr (at addr)

own_word : (pages : ℕ) (at : ℕ → ℕ) (c : Coffer) → 1 ≤ c.id → c.id ≤ 256 → (i : ℕ) → i < 64
    → read_after (added_pairs pages at c) at (word_of (coffer_entry pages c.id) i) ≡ get_or (new_words pages at c) i 0
own_word pages at c l m i h =
    let addr = word_of (coffer_entry pages c.id) i in
    let long = length_words c (at (path_bucket pages (bucket_of c.path))) in
    read_again pages at c addr
    ∙ laid_past (path_bucket pages (bucket_of c.path)) c.id [] addr _ (λ e. entry_not_bucket pages c.id i (bucket_of c.path) l m h (sym e))
    ∙ laid_hit (coffer_entry pages c.id) (new_words pages at c) i (at addr) 0 (omega arith)

other_word : (pages : ℕ) (at : ℕ → ℕ) (c : Coffer) → 1 ≤ c.id → (other i : ℕ) → 1 ≤ other → other ≤ 256 → (other ≡ c.id → ⊥) → i < 64
    → read_after (added_pairs pages at c) at (word_of (coffer_entry pages other) i) ≡ at (word_of (coffer_entry pages other) i)
other_word pages at c l other i lo mo ne h =
    let addr = word_of (coffer_entry pages other) i in
    let long = length_words c (at (path_bucket pages (bucket_of c.path))) in
    read_again pages at c addr
    ∙ laid_past (path_bucket pages (bucket_of c.path)) c.id [] addr _ (λ e. entry_not_bucket pages other i (bucket_of c.path) lo mo h (sym e))
    ∙ laid_miss (coffer_entry pages c.id) (new_words pages at c) addr (at addr) (λ k g e. ne (sym (same_entry_word pages c.id other k i l lo (omega arith) h e).0))

own_bucket : (pages : ℕ) (at : ℕ → ℕ) (c : Coffer) → read_after (added_pairs pages at c) at (path_bucket pages (bucket_of c.path)) ≡ c.id
own_bucket pages at c =
    let addr = path_bucket pages (bucket_of c.path) in
    read_again pages at c addr ∙ laid_one addr c.id addr _ refl

other_bucket : (pages : ℕ) (at : ℕ → ℕ) (c : Coffer) → 1 ≤ c.id → c.id ≤ 256 → (b : ℕ) → (b ≡ bucket_of c.path → ⊥)
    → read_after (added_pairs pages at c) at (path_bucket pages b) ≡ at (path_bucket pages b)
other_bucket pages at c l m b ne =
    let addr = path_bucket pages b in
    let long = length_words c (at (path_bucket pages (bucket_of c.path))) in
    read_again pages at c addr
    ∙ laid_past (path_bucket pages (bucket_of c.path)) c.id [] addr _ (λ e. ne (sym (same_bucket pages (bucket_of c.path) b e)))
    ∙ laid_miss (coffer_entry pages c.id) (new_words pages at c) addr (at addr) (λ k g e. entry_not_bucket pages c.id k b l m (omega arith) e)

-- word i of the path
path_word : (c : Coffer) (next i : ℕ) → i < 55 → get_or (entry_words c next) (9 + i) 0 ≡ text_word c.path i
path_word c next i h =
    let front = c.state ∷ c.perm.uid ∷ c.perm.gid ∷ c.perm.mode ∷ c.control ∷ c.root ∷ next ∷ length c.path ∷ c.kind ∷ [] in
    let none : 0 + i ≡ i = omega arith in
    get_or-append-add front (text_words 55 c.path) i 0 ∙ get_or-map-range_with_len (text_word c.path) 0 55 i i 0 h none

-- what is read of the new coffer
new_path : (pages : ℕ) (after : ℕ → ℕ) (c : Coffer) (next : ℕ) → Small c.path → length c.path ≤ 440
    → ((i : ℕ) → i < 64 → after (word_of (coffer_entry pages c.id) i) ≡ get_or (entry_words c next) i 0) → path_in pages after c.id ≡ c.path
new_path pages after c next text short own =
    let bytes : path_bytes pages after c.id ≡ flat_map (chunk c.path) (range_with_len 0 55) =
    flat_same (λ i. to_le_bytes w64 (after (coffer_path_word (coffer_entry pages c.id) i))) (chunk c.path) 55 0
    (λ k g h. ap (to_le_bytes w64) (own (9 + k) (omega arith) ∙ path_word c next k (omega arith)) ∙ word_bytes c.path k text) in
    ap (λ (n : ℕ). cond (nat_le n 440) (take n (path_bytes pages after c.id)) []) (own 7 (omega arith))
    ∙ ap (λ (b : Bool). cond b (take (length c.path) (path_bytes pages after c.id)) []) (le-leb (length c.path) 440 short)
    ∙ ap (take (length c.path)) bytes
    ∙ chunks_are c.path 55 0 short

new_coffer : (pages : ℕ) (after : ℕ → ℕ) (c : Coffer) (next : ℕ) → Small c.path → length c.path ≤ 440
    → ((i : ℕ) → i < 64 → after (word_of (coffer_entry pages c.id) i) ≡ get_or (entry_words c next) i 0) → coffer_in pages after c.id ≡ c
new_coffer pages after c next text short own =
    let path = new_path pages after c next text short own in
    let state : after (coffer_state (coffer_entry pages c.id)) ≡ c.state = ap after (sym (first_word (coffer_entry pages c.id))) ∙ own 0 (omega arith) in
    let uid : after (word_of (coffer_entry pages c.id) 1) ≡ c.perm.uid = own 1 (omega arith) in
    let gid : after (word_of (coffer_entry pages c.id) 2) ≡ c.perm.gid = own 2 (omega arith) in
    let mode : after (word_of (coffer_entry pages c.id) 3) ≡ c.perm.mode = own 3 (omega arith) in
    let control : after (word_of (coffer_entry pages c.id) 4) ≡ c.control = own 4 (omega arith) in
    let root : after (word_of (coffer_entry pages c.id) 5) ≡ c.root = own 5 (omega arith) in
    let kind : after (word_of (coffer_entry pages c.id) 8) ≡ c.kind = own 8 (omega arith) in
    λ i. record { id = c.id; path = path i; perm = record { uid = uid i; gid = gid i; mode = mode i }; state = state i; kind = kind i; control = control i; root = root i }

-- no coffer that is there has the new path
not_taken : (pages : ℕ) (at : ℕ → ℕ) (path : List ℕ) (other : ℕ) → is_taken pages at path ≡ false → 1 ≤ other → other ≤ 256 → stands_in pages at other ≡ true
    → same_text (path_in pages at other) path ≡ false
not_taken pages at path other fresh l m s =
    sym (ap (λ (b : Bool). b && same_text (path_in pages at other) path) s)
    ∙ not_passed (has_path_at pages at path) all_ids other (sym (taken_by_ids pages at path) ∙ fresh) (id_in_all other l m)

not_same : (pages : ℕ) (at : ℕ → ℕ) (path : List ℕ) (other : ℕ) → is_taken pages at path ≡ false → 1 ≤ other → other ≤ 256 → stands_in pages at other ≡ true
    → same_text path (path_in pages at other) ≡ false
not_same pages at path other fresh l m s = nat_list_eq_equiv.symm path (path_in pages at other) ∙ not_taken pages at path other fresh l m s

-- the root coffer is always there, so that its number is never free
not_first : (pages : ℕ) (at : ℕ → ℕ) (id : ℕ) → entry_fails pages at 1 ≡ false → stands_in pages at id ≡ false → id ≡ 1 → ⊥
not_first pages at id passes free e =
    true≢false (sym (free_rule pages at 1 (sym (ap (stands_in pages at) e) ∙ free) ∙ or_right (not (at (coffer_state (coffer_entry pages 1)) == 0)) true refl) ∙ passes)

-- what is read of a coffer that has come, whatever text its path is
module _ (pages : ℕ) (at after : ℕ → ℕ) (c : Coffer) (free_is : free_id pages at ≡ Some c.id) (small : Small c.path) (short : length c.path ≤ 440) (is_state : is_there c.state ≡ true) (same : SameRoots pages (read_after (added_pairs pages at c) at) after) where
  pub f : IsFree pages at c.id
  f = is_free pages at c.id free_is

  pub own : (i : ℕ) → i < 64 → after (word_of (coffer_entry pages c.id) i) ≡ get_or (entry_words c (at (path_bucket pages (bucket_of c.path)))) i 0
  own i h = same.entries c.id i f.least f.most h ∙ own_word pages at c f.least f.most i h

  pub path : path_in pages after c.id ≡ c.path
  path = new_path pages after c (at (path_bucket pages (bucket_of c.path))) small short own

  pub others : OthersStay pages c.id at after
  others other lo mo ne i h nx = same.entries other i lo mo h ∙ other_word pages at c f.least other i lo mo ne h

  pub there : stands_in pages after c.id ≡ true
  there = ap is_there (ap after (sym (first_word (coffer_entry pages c.id))) ∙ own 0 (omega arith)) ∙ is_state

  pub arrives : Arrives pages c.id (bucket_of c.path) at after
  arrives = record {
    least = f.least;
    most = f.most;
    free = f.free;
    there = there;
    hashed = ap bucket_of path;
    others = others;
    nexts = λ other lo mo ne. same.entries other 6 lo mo (omega arith) ∙ other_word pages at c f.least other 6 lo mo ne (omega arith);
    head = same.buckets (bucket_of c.path) (bucket_below c.path) ∙ own_bucket pages at c;
    next = own 6 (omega arith);
    buckets = λ d g ne. same.buckets d g ∙ other_bucket pages at c f.least f.most d ne;
  }

pub added_buckets : (pages : ℕ) (at after : ℕ → ℕ) (c : Coffer) → BucketsPass pages at → IsComing pages at c → SameRoots pages (read_after (added_pairs pages at c) at) after → BucketsPass pages after
added_buckets pages at after c passes new same b h =
    arrived pages c.id (bucket_of c.path) at after (arrives pages at after c new.free (small_all c.path new.bytes) new.short new.there same) b h (passes b h)

pub add_is : AddLaw
add_is pages at after c passes new same keeps = (
  new_coffer pages after c next_id small new.short own_words,
  record {
    own = λ right. right_passes pages after c.id stands right ruled
        (twice_from pages after c.id (λ x lx mx s ne. ap (same_text (path_in pages after x)) is_path ∙ once x lx mx s ne))
        (ap (λ (b : Bool). b && not (same_text (path_in pages after c.id) (codes "/"))) (ne_eqb c.id 1 (not_first pages at c.id (passes.entries 1 (omega arith) (omega arith)) frees.free)));
    others = λ other lo mo ne. same_coffer pages at after other (stay other lo mo ne);
    entries = others_pass pages at after c.id passes keeps stay
        (λ other lo mo ne s there. ap (λ (path : List ℕ). same_text path (path_in pages at other)) is_path ∙ not_same pages at c.path other new.fresh lo mo s);
    buckets = λ b h. arrived pages c.id (bucket_of c.path) at after (arrives pages at after c new.free small new.short new.there same) b h (passes.buckets b h);
  },
)
  where
    small : Small c.path
    small = small_path c.path new.path

    next_id : ℕ
    next_id = at (path_bucket pages (bucket_of c.path))

    frees : IsFree pages at c.id
    frees = f pages at after c new.free small new.short new.there same

    own_words : (i : ℕ) → i < 64 → after (word_of (coffer_entry pages c.id) i) ≡ get_or (entry_words c (at (path_bucket pages (bucket_of c.path)))) i 0
    own_words = own pages at after c new.free small new.short new.there same

    is_path : path_in pages after c.id ≡ c.path
    is_path = path pages at after c new.free small new.short new.there same

    stay : OthersStay pages c.id at after
    stay = others pages at after c new.free small new.short new.there same

    stands : stands_in pages after c.id ≡ true
    stands = there pages at after c new.free small new.short new.there same

    ruled : path_fails pages after c.id ≡ false
    ruled =
        ap (λ (n : ℕ). not (nat_le n 440 && is_path_text (path_in pages after c.id))) (own_words 7 (omega arith))
        ∙ ap (λ (b : Bool). not (b && is_path_text (path_in pages after c.id))) (le-leb (length c.path) 440 new.short)
        ∙ ap (λ (text : List ℕ). not (is_path_text text)) is_path
        ∙ ap not new.path

    once : (x : ℕ) → 1 ≤ x → x ≤ 256 → stands_in pages after x ≡ true → (x ≡ c.id → ⊥) → same_text (path_in pages after x) c.path ≡ false
    once x lx mx s ne =
        ap (λ (text : List ℕ). same_text text c.path) (same_path_in pages at after x (λ i g h. stay x lx mx ne i h (omega arith)))
        ∙ not_taken pages at c.path x new.fresh lx mx (sym (ap is_there (same_state pages at after x (stay x lx mx ne))) ∙ s)
