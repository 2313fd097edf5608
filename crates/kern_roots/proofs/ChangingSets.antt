-- A change of one entry: what the others keep. Then the changes of some fields before the chain's word.
use Rattle.std.proofs.Common.{◌≡◌, ℕ, get_or, ◌+◌, ◌<◌, ◌≤◌, ◌⊎◌, List, [], ◌∷◌, true, false, refl, ap, sym, subst, ◌∙◌, inl, inr, arith, ◌==◌, ◌&&◌, not, codes}
use Rattle.std.specs.List.{AllByRecursion}
use Rattle.std.proofs.lemmas.Bool.{cases_eq}
use Rattle.zo_layout.specs.Layout.{word_of, coffer_entry, coffer_state, path_bucket, bucket_of}
use Rattle.tr_types.specs.Paths.{same_text}
use Rattle.kern_model.specs.Journal.{laid_over}
use Rattle.kern_model.specs.Kernel.{read_after}
use Rattle.kern_model.specs.KernelTables.{is_there, stands_in, path_in, path_stands_twice, entry_fails}
use Rattle.kern_model.specs.PathMap.{perm_pairs, state_pairs, root_pairs}
use Rattle.kern_roots.specs.Changes.{is_used}
use Rattle.kern_roots.specs.Laws.{PassesRoots, SameRoots, KeepsOwners, ChangesOne, BucketsPass, PermLaw, StateLaw, RootLaw}
use Rattle.tr_types.specs.declared.permission.Perm.{Perm}
use Rattle.kern_roots.proofs.ChangingSearch.{there_at}
use Rattle.kern_roots.proofs.ChangingLayout.{first_word, word_in_part, same_entry_word, entry_not_bucket}
use Rattle.kern_roots.proofs.ChangingReads.{laid_past, laid_one, laid_hit}
use Rattle.kern_roots.proofs.ChangingChain.{next_in}
use Rattle.kern_roots.proofs.ChangingEntries.{SameEntry, SamePath, same_state, same_path_in, same_coffer, coffer_is_there, twice_from, twice_at, entry_parts, passes_again, Entry, right_passes, same_path_rule}
use Rattle.kern_roots.proofs.ChangingBuckets.{belongs_parts, belongs_from}
use Rattle.kern_roots.proofs.ChangingMoves.{bucket_stays}

-- the entries of all coffers but one have the same words, but for the next coffers in their chains
abbrev pub OthersStay : ℕ → ℕ → (ℕ → ℕ) → (ℕ → ℕ) → Type 0
OthersStay pages id at after = (other : ℕ) → 1 ≤ other → other ≤ 256 → (other ≡ id → ⊥) → SameEntry pages at after other

-- The others pass again, where none of them has the path that the changed one has.
pub others_pass : (pages : ℕ) (at after : ℕ → ℕ) (id : ℕ) → PassesRoots pages at → KeepsOwners pages id at after → OthersStay pages id at after
    → ((other : ℕ) → 1 ≤ other → other ≤ 256 → (other ≡ id → ⊥) → stands_in pages at other ≡ true → stands_in pages after id ≡ true
    → same_text (path_in pages after id) (path_in pages at other) ≡ false)
    → (other : ℕ) → 1 ≤ other → other ≤ 256 → (other ≡ id → ⊥) → entry_fails pages after other ≡ false
others_pass pages at after id passes keeps stay clash other l m ne =
    passes_again pages at after other (stay other l m ne)
    (λ s. keeps.control other (sym (there_at pages at other l m) ∙ s) ne)
    (λ s. keeps.root other (sym (there_at pages at other l m) ∙ s) ne)
    (λ s none. twice_from pages after other (λ x lx mx sx differs. ap (same_text (path_in pages after x)) own ∙ pair s none x lx mx sx differs (cases_eq x id)))
    (passes.entries other l m)
  where
    own : path_in pages after other ≡ path_in pages at other
    own = same_path_in pages at after other (λ i g h. stay other l m ne i h (omega arith))

    pair : stands_in pages at other ≡ true → path_stands_twice pages at other ≡ false → (x : ℕ) → 1 ≤ x → x ≤ 256 → stands_in pages after x ≡ true → (x ≡ other → ⊥) → (x ≡ id) ⊎ (x ≡ id → ⊥)
        → same_text (path_in pages after x) (path_in pages at other) ≡ false
    pair s none x lx mx sx differs (inl e) =
        ap (λ (k : ℕ). same_text (path_in pages after k) (path_in pages at other)) e
        ∙ clash other l m ne s (sym (ap (stands_in pages after) e) ∙ sx)
    pair s none x lx mx sx differs (inr nx) =
        ap (λ (path : List ℕ). same_text path (path_in pages at other)) (same_path_in pages at after x (λ i g h. stay x lx mx nx i h (omega arith)))
        ∙ twice_at pages at other x none lx mx (sym (ap is_there (same_state pages at after x (stay x lx mx nx))) ∙ sx) differs

-- A change of an entry that leaves its path and the word behind it in its chain.
pub record Touches (pages id : ℕ) (at after : ℕ → ℕ) : Type 0 where
  pub least : 1 ≤ id
  pub most : id ≤ 256
  pub others : OthersStay pages id at after
  pub nexts : (other : ℕ) → 1 ≤ other → other ≤ 256 → (other ≡ id → ⊥) → next_in pages after other ≡ next_in pages at other
  pub buckets : (bucket : ℕ) → bucket < 256 → after (path_bucket pages bucket) ≡ at (path_bucket pages bucket)
  pub next : next_in pages after id ≡ next_in pages at id
  pub path : SamePath pages at after id
  pub was : stands_in pages at id ≡ true
  pub there : stands_in pages after id ≡ true

module _ (pages id : ℕ) (at after : ℕ → ℕ) (t : Touches pages id at after) where
  entry : (x : ℕ) → 1 ≤ x → x ≤ 256 → (x ≡ id) ⊎ (x ≡ id → ⊥) → (stands_in pages after x ≡ stands_in pages at x) × (path_in pages after x ≡ path_in pages at x)
  entry x l m (inl e) =
      subst (λ (k : ℕ). (stands_in pages after k ≡ stands_in pages at k) × (path_in pages after k ≡ path_in pages at k)) (sym e)
      (t.there ∙ sym t.was, same_path_in pages at after id t.path)
  entry x l m (inr ne) =
      (ap is_there (same_state pages at after x (t.others x l m ne)), same_path_in pages at after x (λ i g h. t.others x l m ne i h (omega arith)))

  next : (x : ℕ) → 1 ≤ x → x ≤ 256 → (x ≡ id) ⊎ (x ≡ id → ⊥) → next_in pages after x ≡ next_in pages at x
  next x l m (inl e) = subst (λ (k : ℕ). next_in pages after k ≡ next_in pages at k) (sym e) t.next
  next x l m (inr ne) = t.nexts x l m ne

  pub same_buckets : BucketsPass pages at → BucketsPass pages after
  same_buckets passes bucket h =
      bucket_stays pages at after bucket (t.buckets bucket h)
      (λ x b. let r = belongs_parts pages at bucket x b in next x r.least r.most (cases_eq x id))
      (λ x b. let r = belongs_parts pages at bucket x b in
      let same = entry x r.least r.most (cases_eq x id) in
      belongs_from pages after bucket x (record { least = r.least; most = r.most; there = same.0 ∙ r.there; hashed = ap bucket_of same.1 ∙ r.hashed }))
      (λ x b. let r = belongs_parts pages after bucket x b in
      let same = entry x r.least r.most (cases_eq x id) in
      belongs_from pages at bucket x (record { least = r.least; most = r.most; there = sym same.0 ∙ r.there; hashed = ap bucket_of (sym same.1) ∙ r.hashed }))
      (passes bucket h)

pub touched_buckets : (pages id : ℕ) (at after : ℕ → ℕ) → BucketsPass pages at → Touches pages id at after → BucketsPass pages after
touched_buckets pages id at after passes t = same_buckets pages id at after t passes

pub touched : (pages id : ℕ) (at after : ℕ → ℕ) → PassesRoots pages at → KeepsOwners pages id at after → Touches pages id at after → ChangesOne pages id at after
touched pages id at after passes keeps t = record {
  own = λ right. right_passes pages after id t.there right (same_path_rule pages at after id t.path ∙ before.path)
      (twice_from pages after id (λ x l m s ne. ap (same_text (path_in pages after x)) (same_path_in pages at after id t.path) ∙ once x l m s ne))
      (ap (λ (path : List ℕ). (id == 1) && not (same_text path (codes "/"))) (same_path_in pages at after id t.path) ∙ before.named);
  others = λ other l m ne. same_coffer pages at after other (t.others other l m ne);
  entries = others_pass pages at after id passes keeps t.others clash;
  buckets = touched_buckets pages id at after passes.buckets t;
}
  where
    before : Entry pages at id
    before = entry_parts pages at id t.was (passes.entries id t.least t.most)

    once : (x : ℕ) → 1 ≤ x → x ≤ 256 → stands_in pages after x ≡ true → (x ≡ id → ⊥) → same_text (path_in pages after x) (path_in pages at id) ≡ false
    once x l m s ne =
        ap (λ (path : List ℕ). same_text path (path_in pages at id)) (same_path_in pages at after x (λ i g h. t.others x l m ne i h (omega arith)))
        ∙ twice_at pages at id x before.once l m (sym (ap is_there (same_state pages at after x (t.others x l m ne))) ∙ s) ne

    clash : (other : ℕ) → 1 ≤ other → other ≤ 256 → (other ≡ id → ⊥) → stands_in pages at other ≡ true → stands_in pages after id ≡ true
        → same_text (path_in pages after id) (path_in pages at other) ≡ false
    clash other l m ne s there =
        ap (λ (path : List ℕ). same_text path (path_in pages at other)) (same_path_in pages at after id t.path)
        ∙ twice_at pages at other id (entry_parts pages at other s (passes.entries other l m)).once t.least t.most t.was (λ e. ne (sym e))

-- Pairs for some words of one entry, from word `low` on and before word `high`.

abbrev pub Within : ℕ → ℕ → ℕ → ℕ → List (ℕ × ℕ) → Type 0
Within pages id low high pairs = AllByRecursion {X = ℕ × ℕ} (λ p. (j : ℕ) × (low ≤ j) × (j < high) × (p.0 ≡ word_of (coffer_entry pages id) j)) pairs

other_word : (pages id low high other i d : ℕ) (pairs : List (ℕ × ℕ)) → 1 ≤ id → 1 ≤ other → high ≤ 64 → i < 64 → ((other ≡ id → ⊥) ⊎ ((i < low) ⊎ (high ≤ i)))
    → Within pages id low high pairs → laid_over pairs (word_of (coffer_entry pages other) i) d ≡ d
other_word pages id low high other i d [] l k top h apart w = refl
other_word pages id low high other i d (p ∷ pairs) l k top h apart w =
    laid_past p.0 p.1 pairs (word_of (coffer_entry pages other) i) d (λ e. differ apart w.0 e)
    ∙ other_word pages id low high other i d pairs l k top h apart w.1
  where
    differ : ((other ≡ id → ⊥) ⊎ ((i < low) ⊎ (high ≤ i))) → ((j : ℕ) × (low ≤ j) × (j < high) × (p.0 ≡ word_of (coffer_entry pages id) j)) → p.0 ≡ word_of (coffer_entry pages other) i → ⊥
    differ (inl ne) (j, a, b, q) e = ne (sym (same_entry_word pages id other j i l k (omega arith) h (sym q ∙ e)).0)
    differ (inr (inl x)) (j, a, b, q) e = let f = (same_entry_word pages id other j i l k (omega arith) h (sym q ∙ e)).1 in omega arith
    differ (inr (inr x)) (j, a, b, q) e = let f = (same_entry_word pages id other j i l k (omega arith) h (sym q ∙ e)).1 in omega arith

bucket_word : (pages id low high bucket d : ℕ) (pairs : List (ℕ × ℕ)) → 1 ≤ id → id ≤ 256 → high ≤ 64 → Within pages id low high pairs → laid_over pairs (path_bucket pages bucket) d ≡ d
bucket_word pages id low high bucket d [] l m top w = refl
bucket_word pages id low high bucket d (p ∷ pairs) l m top w =
    laid_past p.0 p.1 pairs (path_bucket pages bucket) d (λ e. differ w.0 e)
    ∙ bucket_word pages id low high bucket d pairs l m top w.1
  where
    differ : ((j : ℕ) × (low ≤ j) × (j < high) × (p.0 ≡ word_of (coffer_entry pages id) j)) → p.0 ≡ path_bucket pages bucket → ⊥
    differ (j, a, b, q) e = entry_not_bucket pages id j bucket l m (omega arith) (sym q ∙ e)

-- the words of the entry that aren't changed
pub rest_stays : (pages id low high : ℕ) (at after : ℕ → ℕ) (pairs : List (ℕ × ℕ)) → 1 ≤ id → id ≤ 256 → high ≤ 64 → Within pages id low high pairs
    → SameRoots pages (read_after pairs at) after → (i : ℕ) → i < 64 → (i < low) ⊎ (high ≤ i) → after (word_of (coffer_entry pages id) i) ≡ at (word_of (coffer_entry pages id) i)
rest_stays pages id low high at after pairs l m top w same i h apart =
    same.entries id i l m h ∙ other_word pages id low high id i (at (word_of (coffer_entry pages id) i)) pairs l l top h (inr apart) w

pub touches : (pages id low high : ℕ) (at after : ℕ → ℕ) (pairs : List (ℕ × ℕ)) → 1 ≤ id → id ≤ 256 → high ≤ 6 → Within pages id low high pairs
    → SameRoots pages (read_after pairs at) after → stands_in pages at id ≡ true → stands_in pages after id ≡ true → Touches pages id at after
touches pages id low high at after pairs l m top w same was there = record {
  least = l;
  most = m;
  others = λ other lo mo ne i h next. same.entries other i lo mo h ∙ other_word pages id low high other i (at (word_of (coffer_entry pages other) i)) pairs l lo (omega arith) h (inl ne) w;
  nexts = λ other lo mo ne. same.entries other 6 lo mo (omega arith) ∙ other_word pages id low high other 6 (at (word_of (coffer_entry pages other) 6)) pairs l lo (omega arith) (omega arith) (inl ne) w;
  buckets = λ bucket h. same.buckets bucket h ∙ bucket_word pages id low high bucket (at (path_bucket pages bucket)) pairs l m (omega arith) w;
  next = rest_stays pages id low high at after pairs l m (omega arith) w same 6 (omega arith) (inr top);
  path = λ i g h. rest_stays pages id low high at after pairs l m (omega arith) w same i h (inr (omega arith));
  was = was;
  there = there;
}

-- The three changes.

pub state_touches : (pages : ℕ) (at after : ℕ → ℕ) (id state : ℕ) → is_used pages at id ≡ true → is_there state ≡ true → SameRoots pages (read_after (state_pairs pages id state) at) after → Touches pages id at after
state_touches pages at after id state has valid same =
    let r = coffer_is_there pages at id has in
    let entry = coffer_entry pages id in
    let first = first_word entry in
    let w : Within pages id 0 1 (state_pairs pages id state) = ((0, omega arith, omega arith, sym first), tt) in
    let new : after (coffer_state entry) ≡ state =
    ap after (sym first) ∙ same.entries id 0 r.0 r.1 (omega arith) ∙ laid_one entry state (word_of entry 0) (at (word_of entry 0)) (sym first) in
    touches pages id 0 1 at after (state_pairs pages id state) r.0 r.1 (omega arith) w same r.2 (ap is_there new ∙ valid)

-- where word 0 of the entry stays, the coffer is there still
stands_still : (pages id : ℕ) (at after : ℕ → ℕ) → stands_in pages at id ≡ true → after (word_of (coffer_entry pages id) 0) ≡ at (word_of (coffer_entry pages id) 0) → stands_in pages after id ≡ true
stands_still pages id at after was stay =
    let first = first_word (coffer_entry pages id) in
    ap is_there (ap after (sym first) ∙ stay ∙ ap at first) ∙ was

pub root_touches : (pages : ℕ) (at after : ℕ → ℕ) (id page : ℕ) → is_used pages at id ≡ true → SameRoots pages (read_after (root_pairs pages id page) at) after → Touches pages id at after
root_touches pages at after id page has same =
    let r = coffer_is_there pages at id has in
    let w : Within pages id 5 6 (root_pairs pages id page) = ((5, omega arith, omega arith, refl), tt) in
    touches pages id 5 6 at after (root_pairs pages id page) r.0 r.1 (omega arith) w same r.2
    (stands_still pages id at after r.2 (rest_stays pages id 5 6 at after (root_pairs pages id page) r.0 r.1 (omega arith) w same 0 (omega arith) (inl (omega arith))))

pub perm_touches : (pages : ℕ) (at after : ℕ → ℕ) (id : ℕ) (perm : Perm) → is_used pages at id ≡ true → SameRoots pages (read_after (perm_pairs pages id perm) at) after → Touches pages id at after
perm_touches pages at after id perm has same =
    let r = coffer_is_there pages at id has in
    let entry = coffer_entry pages id in
    let w : Within pages id 1 4 (perm_pairs pages id perm) =
    ((1, omega arith, omega arith, word_in_part entry 1 0), ((2, omega arith, omega arith, word_in_part entry 1 1), ((3, omega arith, omega arith, word_in_part entry 1 2), tt))) in
    touches pages id 1 4 at after (perm_pairs pages id perm) r.0 r.1 (omega arith) w same r.2
    (stands_still pages id at after r.2 (rest_stays pages id 1 4 at after (perm_pairs pages id perm) r.0 r.1 (omega arith) w same 0 (omega arith) (inl (omega arith))))

pub state_is : StateLaw
state_is pages at after id state passes has valid same keeps =
    let r = coffer_is_there pages at id has in
    let entry = coffer_entry pages id in
    let first = first_word entry in
    let w : Within pages id 0 1 (state_pairs pages id state) = ((0, omega arith, omega arith, sym first), tt) in
    let stay : (i : ℕ) → i < 64 → 1 ≤ i → after (word_of entry i) ≡ at (word_of entry i) =
    λ i h g. rest_stays pages id 0 1 at after (state_pairs pages id state) r.0 r.1 (omega arith) w same i h (inr g) in
    let new : after (coffer_state entry) ≡ state =
    ap after (sym first) ∙ same.entries id 0 r.0 r.1 (omega arith) ∙ laid_one entry state (word_of entry 0) (at (word_of entry 0)) (sym first) in
    let uid = stay 1 (omega arith) (omega arith) in
    let gid = stay 2 (omega arith) (omega arith) in
    let mode = stay 3 (omega arith) (omega arith) in
    let control = stay 4 (omega arith) (omega arith) in
    let root = stay 5 (omega arith) (omega arith) in
    let kind = stay 8 (omega arith) (omega arith) in
    let path = same_path_in pages at after id (λ i g h. stay i h (omega arith)) in (
      λ i. record { id = id; path = path i; perm = record { uid = uid i; gid = gid i; mode = mode i }; state = new i; kind = kind i; control = control i; root = root i },
      touched pages id at after passes keeps (state_touches pages at after id state has valid same),
    )

pub root_is : RootLaw
root_is pages at after id page passes has same keeps =
    let r = coffer_is_there pages at id has in
    let entry = coffer_entry pages id in
    let first = first_word entry in
    let w : Within pages id 5 6 (root_pairs pages id page) = ((5, omega arith, omega arith, refl), tt) in
    let stay : (i : ℕ) → i < 64 → (i < 5) ⊎ (6 ≤ i) → after (word_of entry i) ≡ at (word_of entry i) =
    rest_stays pages id 5 6 at after (root_pairs pages id page) r.0 r.1 (omega arith) w same in
    let root : after (word_of entry 5) ≡ page =
    same.entries id 5 r.0 r.1 (omega arith) ∙ laid_one (word_of entry 5) page (word_of entry 5) (at (word_of entry 5)) refl in
    let state : after (coffer_state entry) ≡ at (coffer_state entry) = ap after (sym first) ∙ stay 0 (omega arith) (inl (omega arith)) ∙ ap at first in
    let uid = stay 1 (omega arith) (inl (omega arith)) in
    let gid = stay 2 (omega arith) (inl (omega arith)) in
    let mode = stay 3 (omega arith) (inl (omega arith)) in
    let control = stay 4 (omega arith) (inl (omega arith)) in
    let kind = stay 8 (omega arith) (inr (omega arith)) in
    let path = same_path_in pages at after id (λ i g h. stay i h (inr (omega arith))) in (
      λ i. record { id = id; path = path i; perm = record { uid = uid i; gid = gid i; mode = mode i }; state = state i; kind = kind i; control = control i; root = root i },
      touched pages id at after passes keeps (root_touches pages at after id page has same),
    )

pub perm_is : PermLaw
perm_is pages at after id perm passes has same keeps =
    let r = coffer_is_there pages at id has in
    let entry = coffer_entry pages id in
    let first = first_word entry in
    let ws = perm.uid ∷ perm.gid ∷ perm.mode ∷ [] in
    let w : Within pages id 1 4 (perm_pairs pages id perm) =
    ((1, omega arith, omega arith, word_in_part entry 1 0), ((2, omega arith, omega arith, word_in_part entry 1 1), ((3, omega arith, omega arith, word_in_part entry 1 2), tt))) in
    let stay : (i : ℕ) → i < 64 → (i < 1) ⊎ (4 ≤ i) → after (word_of entry i) ≡ at (word_of entry i) =
    rest_stays pages id 1 4 at after (perm_pairs pages id perm) r.0 r.1 (omega arith) w same in
    let new : (k : ℕ) → k < 3 → after (word_of entry (1 + k)) ≡ get_or ws k 0 =
    λ k h.
    same.entries id (1 + k) r.0 r.1 (omega arith)
    ∙ ap (read_after (perm_pairs pages id perm) at) (sym (word_in_part entry 1 k))
    ∙ laid_hit (word_of entry 1) ws k (at (word_of (word_of entry 1) k)) 0 h in
    let state : after (coffer_state entry) ≡ at (coffer_state entry) = ap after (sym first) ∙ stay 0 (omega arith) (inl (omega arith)) ∙ ap at first in
    let uid : after (word_of entry 1) ≡ perm.uid = new 0 (omega arith) in
    let gid : after (word_of entry 2) ≡ perm.gid = new 1 (omega arith) in
    let mode : after (word_of entry 3) ≡ perm.mode = new 2 (omega arith) in
    let control = stay 4 (omega arith) (inr (omega arith)) in
    let root = stay 5 (omega arith) (inr (omega arith)) in
    let kind = stay 8 (omega arith) (inr (omega arith)) in
    let path = same_path_in pages at after id (λ i g h. stay i h (inr (omega arith))) in (
      λ i. record { id = id; path = path i; perm = record { uid = uid i; gid = gid i; mode = mode i }; state = state i; kind = kind i; control = control i; root = root i },
      touched pages id at after passes keeps (perm_touches pages at after id perm has same),
    )
