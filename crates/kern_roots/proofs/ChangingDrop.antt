-- A coffer goes: its bucket's chain, and the others. Then what is read once it is dropped.
use Rattle.std.proofs.Common.{◌≡◌, ℕ, ◌+◌, ◌<◌, ◌≤◌, ◌⊎◌, List, [], ◌∷◌, length, get_or, Bool, true, false, not, ◌||◌, cond, ◌==◌, nat_lt, nat_eq, refl, ap, sym, subst, ◌∙◌, inl, inr, arith, ne_eqb}
use Rattle.std.proofs.lemmas.Bool.{cases_eq, cases_Bool, true≢false, not_from_false, not-true, eqb-false}
use Rattle.std.proofs.lemmas.List.{get_or-replicate, length-replicate}
use Rattle.zo_layout.specs.Layout.{word_of, coffer_entry, coffer_state, coffer_next, path_bucket, bucket_of}
use Rattle.kern_model.specs.Journal.{laid_over}
use Rattle.kern_model.specs.Kernel.{read_after}
use Rattle.kern_model.specs.KernelTables.{is_there, stands_in, path_in, chain_in, longest_chain, is_in_chain, none_twice, belongs, bucket_fails, entry_fails}
use Rattle.kern_model.specs.PathMap.{leading_word, no_words, from_address, with_pair, dropped_pairs}
use Rattle.kern_roots.specs.Changes.{is_used}
use Rattle.kern_roots.specs.Laws.{SameRoots, BucketsPass, DropLaw}
use Rattle.kern_roots.proofs.ChangingPairs.{placed}
use Rattle.kern_roots.proofs.ChangingLayout.{first_word, same_entry_word, entry_not_bucket, same_bucket}
use Rattle.kern_roots.proofs.ChangingReads.{laid_past, laid_one, laid_miss, laid_hit, laid_first, miss_from}
use Rattle.kern_roots.proofs.ChangingLists.{in_filter, from_filter}
use Rattle.kern_roots.proofs.ChangingChain.{next_in, bucket_below}
use Rattle.kern_roots.proofs.ChangingEntries.{same_state, same_path_in, same_coffer, coffer_is_there, free_rule}
use Rattle.kern_roots.proofs.ChangingBuckets.{Holds, holds_at, holds_from, chain_short, belongs_parts, belongs_from, once_in_part, without}
use Rattle.kern_roots.proofs.ChangingMoves.{bucket_stays, leads_is, Leaves, removed, longest}
use Rattle.kern_roots.proofs.ChangingSets.{OthersStay, others_pass}

-- the bucket of a coffer's path
abbrev own_of : ℕ → (ℕ → ℕ) → ℕ → ℕ
own_of pages at id = bucket_of (path_in pages at id)

-- A coffer goes: its entry is free, and the word that led to it leads past it.
pub record Goes (pages id : ℕ) (at after : ℕ → ℕ) : Type 0 where
  pub least : 1 ≤ id
  pub most : id ≤ 256
  pub was : stands_in pages at id ≡ true
  pub gone : stands_in pages after id ≡ false
  pub others : OthersStay pages id at after
  pub past : after (leading_word pages at id) ≡ next_in pages at id
  pub nexts : (other : ℕ) → 1 ≤ other → other ≤ 256 → (other ≡ id → ⊥) → (coffer_next (coffer_entry pages other) ≡ leading_word pages at id → ⊥)
      → next_in pages after other ≡ next_in pages at other
  pub buckets : (b : ℕ) → b < 256 → (path_bucket pages b ≡ leading_word pages at id → ⊥) → after (path_bucket pages b) ≡ at (path_bucket pages b)

-- Where the leading word stands: it is the bucket's, or that of another coffer in its chain.
pub data Leads (pages : ℕ) (at : ℕ → ℕ) (id : ℕ) : Type 0 where
  ByBucket : leading_word pages at id ≡ path_bucket pages (own_of pages at id) → Leads pages at id
  ByCoffer : (x : ℕ) → (x ≡ id → ⊥) → belongs pages at (own_of pages at id) x ≡ true → leading_word pages at id ≡ coffer_next (coffer_entry pages x) → Leads pages at id

pub leads : (pages : ℕ) (at : ℕ → ℕ) (id : ℕ) → Holds pages at (own_of pages at id) (chain_in pages at (own_of pages at id)) → Leads pages at id
leads pages at id h = by (leads_is pages (path_bucket pages (own_of pages at id)) (chain_in pages at (own_of pages at id)) id)
  where
    by : (leading_word pages at id ≡ path_bucket pages (own_of pages at id))
        ⊎ ((x : ℕ) × (is_in_chain x (chain_in pages at (own_of pages at id)) ≡ true) × (x ≡ id → ⊥) × (leading_word pages at id ≡ coffer_next (coffer_entry pages x)))
        → Leads pages at id
    by (inl e) = ByBucket e
    by (inr (x, i, ne, e)) = ByCoffer x ne (h.each x i) e

-- the coffers that belong to a bucket are those that did, but for the one that goes
stays_in : (pages id : ℕ) (at after : ℕ → ℕ) → Goes pages id at after → (b x : ℕ) → (x ≡ id → ⊥) → belongs pages at b x ≡ true → belongs pages after b x ≡ true
stays_in pages id at after g b x ne h =
    let r = belongs_parts pages at b x h in
    let same = g.others x r.least r.most ne in
    belongs_from pages after b x (record {
      least = r.least;
      most = r.most;
      there = ap is_there (same_state pages at after x same) ∙ r.there;
      hashed = ap bucket_of (same_path_in pages at after x (λ i l k. same i k (omega arith))) ∙ r.hashed;
    })

isnt_gone : (pages id : ℕ) (at after : ℕ → ℕ) → Goes pages id at after → (b x : ℕ) → belongs pages after b x ≡ true → x ≡ id → ⊥
isnt_gone pages id at after g b x h e = true≢false (sym (belongs_parts pages after b x h).there ∙ ap (stands_in pages after) e ∙ g.gone)

was_in : (pages id : ℕ) (at after : ℕ → ℕ) → Goes pages id at after → (b x : ℕ) → belongs pages after b x ≡ true → belongs pages at b x ≡ true
was_in pages id at after g b x h =
    let r = belongs_parts pages after b x h in
    let same = g.others x r.least r.most (isnt_gone pages id at after g b x h) in
    belongs_from pages at b x (record {
      least = r.least;
      most = r.most;
      there = sym (ap is_there (same_state pages at after x same)) ∙ r.there;
      hashed = ap bucket_of (sym (same_path_in pages at after x (λ i l k. same i k (omega arith)))) ∙ r.hashed;
    })

own_bucket : (pages id : ℕ) (at after : ℕ → ℕ) → Goes pages id at after → bucket_fails pages at (own_of pages at id) ≡ false → bucket_fails pages after (own_of pages at id) ≡ false
own_bucket pages id at after g passes =
    holds_from pages after own (record {
      each = λ x i. let parts = from_filter (λ y. not (y == id)) old x (sym (ap (is_in_chain x) chain) ∙ i) in
          stays_in pages id at after g own x (eqb-false x id (not-true (x == id) parts.1)) (h.each x parts.0);
      once = ap none_twice chain ∙ once_in_part (λ y. not (y == id)) old h.once;
      whole = λ x b. ap (is_in_chain x) chain
          ∙ in_filter (λ y. not (y == id)) old x (h.whole x (was_in pages id at after g own x b)) (not_from_false (x == id) (ne_eqb x id (isnt_gone pages id at after g own x b)));
    })
  where
    own : ℕ
    own = bucket_of (path_in pages at id)

    old : List ℕ
    old = chain_in pages at (own_of pages at id)

    h : Holds pages at (own_of pages at id) old
    h = holds_at pages at (own_of pages at id) passes

    place : ℕ
    place = path_bucket pages (own_of pages at id)

    inside : (x : ℕ) → is_in_chain x old ≡ true → (1 ≤ x) × (x ≤ 256)
    inside x i = let b = belongs_parts pages at (own_of pages at id) x (h.each x i) in (b.least, b.most)

    short : length old < longest_chain
    short = subst (λ (n : ℕ). length old < n) (sym longest) (let few = chain_short pages at (own_of pages at id) old h in omega arith)

    leaves : Leaves pages at after id place (at place) old
    leaves = record {
      once = h.once;
      there = h.whole id (belongs_from pages at (own_of pages at id) id (record { least = g.least; most = g.most; there = g.was; hashed = refl }));
      past = g.past;
      next = λ x i ne apart. let r = inside x i in g.nexts x r.0 r.1 ne apart;
      first = λ apart. g.buckets (own_of pages at id) (bucket_below (path_in pages at id)) apart;
      apart = λ x i e. let r = inside x i in entry_not_bucket pages x 6 (own_of pages at id) r.0 r.1 (omega arith) e;
      single = λ x y i j e. (same_entry_word pages x y 6 6 (inside x i).0 (inside y j).0 (omega arith) (omega arith) e).0;
    }

    chain : chain_in pages after (own_of pages at id) ≡ without id old
    chain = removed pages at after id longest_chain place (at place) short leaves

other_bucket : (pages id : ℕ) (at after : ℕ → ℕ) → Goes pages id at after → Leads pages at id → (b : ℕ) → b < 256 → (b ≡ own_of pages at id → ⊥) → bucket_fails pages at b ≡ false
    → bucket_fails pages after b ≡ false
other_bucket pages id at after g lead b small ne passes =
    bucket_stays pages at after b (g.buckets b small (head lead))
    (λ x i. let r = belongs_parts pages at b x i in g.nexts x r.least r.most (differs x i) (apart lead x i))
    (λ x i. stays_in pages id at after g b x (differs x i) i)
    (was_in pages id at after g b)
    passes
  where
    differs : (x : ℕ) → belongs pages at b x ≡ true → x ≡ id → ⊥
    differs x i e = ne (sym (belongs_parts pages at b x i).hashed ∙ ap (λ (k : ℕ). bucket_of (path_in pages at k)) e)

    head : Leads pages at id → path_bucket pages b ≡ leading_word pages at id → ⊥
    head (ByBucket e) q = ne (same_bucket pages b (own_of pages at id) (q ∙ e))
    head (ByCoffer x nx i e) q =
        let r = belongs_parts pages at (own_of pages at id) x i in
        entry_not_bucket pages x 6 b r.least r.most (omega arith) (sym (q ∙ e))

    apart : Leads pages at id → (x : ℕ) → belongs pages at b x ≡ true → coffer_next (coffer_entry pages x) ≡ leading_word pages at id → ⊥
    apart (ByBucket e) x i q =
        let r = belongs_parts pages at b x i in
        entry_not_bucket pages x 6 (own_of pages at id) r.least r.most (omega arith) (q ∙ e)
    apart (ByCoffer y ny j e) x i q =
        let r = belongs_parts pages at b x i in
        let s = belongs_parts pages at (own_of pages at id) y j in
        let same = (same_entry_word pages x y 6 6 r.least s.least (omega arith) (omega arith) (q ∙ e)).0 in
        ne (sym r.hashed ∙ ap (λ (k : ℕ). bucket_of (path_in pages at k)) same ∙ s.hashed)

went : (pages id : ℕ) (at after : ℕ → ℕ) → Goes pages id at after → Leads pages at id → BucketsPass pages at → (b : ℕ) → b < 256 → bucket_fails pages after b ≡ false
went pages id at after g lead passes b small = by (cases_eq b (own_of pages at id))
  where
    by : (b ≡ own_of pages at id) ⊎ (b ≡ own_of pages at id → ⊥) → bucket_fails pages after b ≡ false
    by (inl e) = subst (λ (k : ℕ). bucket_fails pages after k ≡ false) (sym e) (own_bucket pages id at after g (passes (own_of pages at id) (bucket_below (path_in pages at id))))
    by (inr ne) = other_bucket pages id at after g lead b small ne (passes b small)

-- A pair in its place among others is read as itself where the others don't name its address, and changes nothing elsewhere.

with_miss : (p : ℕ × ℕ) (ps : List (ℕ × ℕ)) (addr d : ℕ) → (p.0 ≡ addr → ⊥) → laid_over (with_pair p ps) addr d ≡ laid_over ps addr d
with_miss p [] addr d ne = laid_past p.0 p.1 [] addr d ne
with_miss p (q ∷ ps) addr d ne = by (cases_Bool (nat_lt p.0 q.0)) (with_miss p ps addr (cond (nat_eq q.0 addr) q.1 d) ne)
  where
    by : (nat_lt p.0 q.0 ≡ true) ⊎ (nat_lt p.0 q.0 ≡ false)
        → laid_over (with_pair p ps) addr (cond (nat_eq q.0 addr) q.1 d) ≡ laid_over ps addr (cond (nat_eq q.0 addr) q.1 d)
        → laid_over (cond (nat_lt p.0 q.0) (p ∷ q ∷ ps) (q ∷ with_pair p ps)) addr d ≡ laid_over (q ∷ ps) addr d
    by (inl t) more = ap (λ (b : Bool). laid_over (cond b (p ∷ q ∷ ps) (q ∷ with_pair p ps)) addr d) t ∙ laid_past p.0 p.1 (q ∷ ps) addr d ne
    by (inr t) more = ap (λ (b : Bool). laid_over (cond b (p ∷ q ∷ ps) (q ∷ with_pair p ps)) addr d) t ∙ more

with_hit : (start n : ℕ) (ws : List ℕ) (p : ℕ × ℕ) (addr d : ℕ) → p.0 ≡ addr → ((k : ℕ) → n ≤ k → k < n + length ws → word_of start k ≡ addr → ⊥)
    → laid_over (with_pair p (placed start n ws)) addr d ≡ p.1
with_hit start n [] p addr d e apart = laid_one p.0 p.1 addr d e
with_hit start n (w ∷ ws) p addr d e apart = by (cases_Bool (nat_lt p.0 (word_of start n))) (with_hit start (n + 1) ws p addr d e (λ k l h. apart k (omega arith) (omega arith)))
  where
    by : (nat_lt p.0 (word_of start n) ≡ true) ⊎ (nat_lt p.0 (word_of start n) ≡ false)
        → laid_over (with_pair p (placed start (n + 1) ws)) addr d ≡ p.1
        → laid_over (cond (nat_lt p.0 (word_of start n)) (p ∷ placed start n (w ∷ ws)) ((word_of start n, w) ∷ with_pair p (placed start (n + 1) ws))) addr d ≡ p.1
    by (inl t) more =
        ap (λ (b : Bool). laid_over (cond b (p ∷ placed start n (w ∷ ws)) ((word_of start n, w) ∷ with_pair p (placed start (n + 1) ws))) addr d) t
        ∙ laid_first p.0 p.1 (placed start n (w ∷ ws)) addr d e
        ∙ miss_from start n (w ∷ ws) addr p.1 apart
    by (inr t) more =
        ap (λ (b : Bool). laid_over (cond b (p ∷ placed start n (w ∷ ws)) ((word_of start n, w) ∷ with_pair p (placed start (n + 1) ws))) addr d) t
        ∙ laid_past (word_of start n) w (with_pair p (placed start (n + 1) ws)) addr d (apart n (omega arith) (omega arith))
        ∙ more

pub length_no_words : length no_words ≡ 64
unfolding no_words
length_no_words = length-replicate {A = ℕ} 64 0

no_word_at : (k : ℕ) → k < 64 → get_or no_words k 0 ≡ 0
unfolding no_words
no_word_at k h = get_or-replicate {A = ℕ} 64 k 0 0 h

-- What is read once a coffer is dropped.

pub leading_apart : (pages : ℕ) (at : ℕ → ℕ) (id : ℕ) → 1 ≤ id → id ≤ 256 → Leads pages at id → (i : ℕ) → i < 64 → word_of (coffer_entry pages id) i ≡ leading_word pages at id → ⊥
leading_apart pages at id l m (ByBucket e) i h q = entry_not_bucket pages id i (own_of pages at id) l m h (q ∙ e)
leading_apart pages at id l m (ByCoffer x ne b e) i h q =
    let r = belongs_parts pages at (own_of pages at id) x b in
    ne (sym (same_entry_word pages id x i 6 l r.least h (omega arith) (q ∙ e)).0)

dropped_word : (pages : ℕ) (at : ℕ → ℕ) (id : ℕ) → 1 ≤ id → id ≤ 256 → Leads pages at id → (i : ℕ) → i < 64
    → read_after (dropped_pairs pages at id) at (word_of (coffer_entry pages id) i) ≡ 0
dropped_word pages at id l m lead i h =
    let addr = word_of (coffer_entry pages id) i in
    let long = length_no_words in
    with_miss (leading_word pages at id, next_in pages at id) (from_address (coffer_entry pages id) no_words) addr (at addr) (λ e. leading_apart pages at id l m lead i h (sym e))
    ∙ laid_hit (coffer_entry pages id) no_words i (at addr) 0 (omega arith)
    ∙ no_word_at i h

other_read : (pages : ℕ) (at : ℕ → ℕ) (id addr : ℕ) → ((i : ℕ) → i < 64 → word_of (coffer_entry pages id) i ≡ addr → ⊥) → (leading_word pages at id ≡ addr → ⊥)
    → read_after (dropped_pairs pages at id) at addr ≡ at addr
other_read pages at id addr apart ne =
    let long = length_no_words in
    with_miss (leading_word pages at id, next_in pages at id) (from_address (coffer_entry pages id) no_words) addr (at addr) ne
    ∙ laid_miss (coffer_entry pages id) no_words addr (at addr) (λ k h e. apart k (omega arith) e)

leading_read : (pages : ℕ) (at : ℕ → ℕ) (id : ℕ) → 1 ≤ id → id ≤ 256 → Leads pages at id → read_after (dropped_pairs pages at id) at (leading_word pages at id) ≡ next_in pages at id
leading_read pages at id l m lead =
    let addr = leading_word pages at id in
    let long = length_no_words in
    with_hit (coffer_entry pages id) 0 no_words (addr, next_in pages at id) addr (at addr) refl (λ k g h e. leading_apart pages at id l m lead k (omega arith) e)

module _ (pages : ℕ) (at after : ℕ → ℕ) (id : ℕ) (passes : BucketsPass pages at) (has : is_used pages at id ≡ true) (same : SameRoots pages (read_after (dropped_pairs pages at id) at) after) where
  r : (1 ≤ id) × (id ≤ 256) × (stands_in pages at id ≡ true)
  r = coffer_is_there pages at id has

  pub lead : Leads pages at id
  lead = leads pages at id (holds_at pages at (own_of pages at id) (passes (own_of pages at id) (bucket_below (path_in pages at id))))

  pub cleared : after (coffer_state (coffer_entry pages id)) ≡ 0
  cleared = ap after (sym (first_word (coffer_entry pages id))) ∙ same.entries id 0 r.0 r.1 (omega arith) ∙ dropped_word pages at id r.0 r.1 lead 0 (omega arith)

  pub gone : stands_in pages after id ≡ false
  gone = ap is_there cleared

  apart : (other i : ℕ) → 1 ≤ other → (other ≡ id → ⊥) → i < 64 → (k : ℕ) → k < 64 → word_of (coffer_entry pages id) k ≡ word_of (coffer_entry pages other) i → ⊥
  apart other i lo other_id h k g e = other_id (sym (same_entry_word pages id other k i r.0 lo g h e).0)

  unled : Leads pages at id → (other i : ℕ) → 1 ≤ other → other ≤ 256 → i < 64 → (i ≡ 6 → ⊥) → leading_word pages at id ≡ word_of (coffer_entry pages other) i → ⊥
  unled (ByBucket e) other i lo mo h nx q = entry_not_bucket pages other i (own_of pages at id) lo mo h (sym q ∙ e)
  unled (ByCoffer x nid b e) other i lo mo h nx q =
      let s = belongs_parts pages at (own_of pages at id) x b in
      nx (same_entry_word pages other x i 6 lo s.least h (omega arith) (sym q ∙ e)).1

  pub others : OthersStay pages id at after
  others other lo mo other_id i h nx =
      same.entries other i lo mo h
      ∙ other_read pages at id (word_of (coffer_entry pages other) i) (apart other i lo other_id h) (unled lead other i lo mo h nx)

  led : Leads pages at id → after (leading_word pages at id) ≡ read_after (dropped_pairs pages at id) at (leading_word pages at id)
  led (ByBucket e) =
      ap after e ∙ same.buckets (own_of pages at id) (bucket_below (path_in pages at id)) ∙ ap (read_after (dropped_pairs pages at id) at) (sym e)
  led (ByCoffer x nid b e) =
      let s = belongs_parts pages at (own_of pages at id) x b in
      ap after e ∙ same.entries x 6 s.least s.most (omega arith) ∙ ap (read_after (dropped_pairs pages at id) at) (sym e)

  pub goes : Goes pages id at after
  goes = record {
    least = r.0;
    most = r.1;
    was = r.2;
    gone = gone;
    others = others;
    past = led lead ∙ leading_read pages at id r.0 r.1 lead;
    nexts = λ other lo mo other_id elsewhere.
        same.entries other 6 lo mo (omega arith)
        ∙ other_read pages at id (word_of (coffer_entry pages other) 6) (apart other 6 lo other_id (omega arith)) (λ e. elsewhere (sym e));
    buckets = λ b h elsewhere.
        same.buckets b h
        ∙ other_read pages at id (path_bucket pages b) (λ i g e. entry_not_bucket pages id i b r.0 r.1 g e) (λ e. elsewhere (sym e));
  }

pub dropped_buckets : (pages : ℕ) (at after : ℕ → ℕ) (id : ℕ) → BucketsPass pages at → is_used pages at id ≡ true → SameRoots pages (read_after (dropped_pairs pages at id) at) after → BucketsPass pages after
dropped_buckets pages at after id passes has same = went pages id at after (goes pages at after id passes has same) (lead pages at after id passes has same) passes

pub drop_is : DropLaw
drop_is pages at after id passes has ne same keeps = (
  is_gone,
  own,
  record {
    own = λ right. own;
    others = λ other lo mo other_id. same_coffer pages at after other (stay other lo mo other_id);
    entries = others_pass pages at after id passes keeps stay (λ other lo mo other_id s there. absurd (true≢false (sym there ∙ is_gone)));
    buckets = dropped_buckets pages at after id passes.buckets has same;
  },
)
  where
    is_gone : stands_in pages after id ≡ false
    is_gone = gone pages at after id passes.buckets has same

    stay : OthersStay pages id at after
    stay = others pages at after id passes.buckets has same

    own : entry_fails pages after id ≡ false
    own = free_rule pages after id is_gone ∙ ap (λ (n : ℕ). not (n == 0) || (id == 1)) (cleared pages at after id passes.buckets has same) ∙ ne_eqb id 1 ne
