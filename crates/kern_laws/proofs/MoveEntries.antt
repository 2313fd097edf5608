-- Where the pairs stand by which a coffer comes or goes: they are for words of its entry, and for one word that leads to it.
use Rattle.std.proofs.Common.{◌≡◌, ◌⊎◌, inl, inr, ℕ, ◌+◌, ◌*◌, ◌<◌, ◌≤◌, Bool, true, false, List, [], ◌∷◌, ◌++◌, length, map, take, drop, replicate, refl, sym, ap, ◌∙◌, arith, suc, nat_eq}
use Rattle.std.specs.Prelude.{nat_lt, All}
use Rattle.std.specs.List.{enumerate_from, list_all}
use Rattle.std.specs.Int.{w64, from_le_bytes}
use Rattle.std.proofs.lemmas.Bool.{cond_both, and_parts, or_cases, or_left, or_right, eq-eqb, eqb-true, true≢false}
use Rattle.std.proofs.lemmas.List.{length-replicate, length-append}
use Rattle.std.proofs.lemmas.Nat.{mod_below}
use Rattle.std.proofs.lemmas.List.FromFn.{length-map-range_with_len}
use Rattle.std.proofs.lemmas.List.Elements.{All-nil, All-cons, All-head, All-tail, All-append}
use Rattle.zo_layout.specs.Layout.{word_of, coffer_entry, coffer_next, path_bucket, bucket_of, name_hash}
use Rattle.kern_model.specs.KernelTables.{Coffer, is_id, stands_in, path_in, chain_in, belongs, bucket_fails, is_in_chain}
use Rattle.kern_model.specs.PathMap.{entry_words, text_words, from_address, added_pairs, dropped_pairs, with_pair, no_words, leads_to, leading_word}
use Rattle.kern_roots.proofs.ReadingChains.{bucket_is_sound, belongs_is}
use Rattle.kern_laws.proofs.MoveReads.{IsCofferPlace, entry_placed, bucket_placed}
use Rattle.kern_laws.proofs.MoveOwners.{id_bounds}

bucket_below : (path : List ℕ) → bucket_of path < 256
bucket_below path = mod_below (name_hash path) 256 (omega arith)

-- words in their places
placed_all : (P : ℕ → Type 0) (start n : ℕ) (ws : List ℕ) → ((i : ℕ) → i < n + length ws → P (word_of start i))
    → All (λ (p : ℕ × ℕ). P p.0) (map {B = ℕ × ℕ} (λ p. (word_of start p.0, p.1)) (enumerate_from n ws))
placed_all P start n [] each = All-nil (λ (p : ℕ × ℕ). P p.0)
placed_all P start n (w ∷ ws) each =
    All-cons (λ (p : ℕ × ℕ). P p.0) (word_of start n, w) (map {B = ℕ × ℕ} (λ p. (word_of start p.0, p.1)) (enumerate_from (n + 1) ws)) (each n (omega arith))
    (placed_all P start (n + 1) ws (λ i lt. each i (omega arith)))

entry_all : (pages id : ℕ) (ws : List ℕ) → 1 ≤ id → id ≤ 256 → length ws ≤ 64 → All (λ (p : ℕ × ℕ). IsCofferPlace pages p.0) (from_address (coffer_entry pages id) ws)
entry_all pages id ws low high most = placed_all (IsCofferPlace pages) (coffer_entry pages id) 0 ws (λ i lt. entry_placed pages id i low high (omega arith))

length_text : (text : List ℕ) → length (text_words 55 text) ≡ 55
length_text text = length-map-range_with_len (λ i. from_le_bytes w64 (take 8 (drop (8 * i) text ++ replicate 8 0))) 0 55

pub length_entry : (c : Coffer) (next : ℕ) → length (entry_words c next) ≡ 64
length_entry c next = let long = length_text c.path in omega arith

pub added_placed : (pages : ℕ) (at : ℕ → ℕ) (c : Coffer) → 1 ≤ c.id → c.id ≤ 256 → All (λ (p : ℕ × ℕ). IsCofferPlace pages p.0) (added_pairs pages at c)
added_placed pages at c low high =
    let next = at (path_bucket pages (bucket_of c.path)) in
    let long = length_entry c next in
    All-append (λ (p : ℕ × ℕ). IsCofferPlace pages p.0) (from_address (coffer_entry pages c.id) (entry_words c next)) ((path_bucket pages (bucket_of c.path), c.id) ∷ [])
    (entry_all pages c.id (entry_words c next) low high (omega arith))
    (All-cons (λ (p : ℕ × ℕ). IsCofferPlace pages p.0) (path_bucket pages (bucket_of c.path), c.id) [] (bucket_placed pages (bucket_of c.path) (bucket_below c.path)) (All-nil (λ (p : ℕ × ℕ). IsCofferPlace pages p.0)))

-- the word that leads to a coffer: its bucket's, or the next one of a coffer of the chain
leads_placed : (pages place : ℕ) (chain : List ℕ) (id : ℕ) → IsCofferPlace pages place → ((other : ℕ) → is_in_chain other chain ≡ true → is_id other ≡ true) → IsCofferPlace pages (leads_to pages place chain id)
leads_placed pages place [] id here ids = here
leads_placed pages place (c ∷ chain) id here ids =
    cond_both (nat_eq c id) place (leads_to pages (coffer_next (coffer_entry pages c)) chain id) (IsCofferPlace pages) (λ _. here)
    (λ _. leads_placed pages (coffer_next (coffer_entry pages c)) chain id (entry_placed pages c 6 bounds.0 bounds.1 (omega arith)) (λ other is. ids other (or_right (nat_eq other c) (is_in_chain other chain) is)))
  where
    bounds : (1 ≤ c) × (c ≤ 256)
    bounds = id_bounds c (ids c (or_left (nat_eq c c) (is_in_chain c chain) (eq-eqb c c refl)))

all_at : (p : ℕ → Bool) (xs : List ℕ) (x : ℕ) → list_all p xs ≡ true → is_in_chain x xs ≡ true → p x ≡ true
all_at p [] x all is = absurd (true≢false (sym is))
all_at p (y ∷ ys) x all is = by (or_cases (nat_eq x y) (is_in_chain x ys) is) (all_at p ys x (and_parts (p y) (list_all p ys) all).1)
  where
    by : (nat_eq x y ≡ true) ⊎ (is_in_chain x ys ≡ true) → (is_in_chain x ys ≡ true → p x ≡ true) → p x ≡ true
    by (inl here) later = ap p (eqb-true x y here) ∙ (and_parts (p y) (list_all p ys) all).0
    by (inr there) later = later there

pub leading_placed : (pages : ℕ) (at : ℕ → ℕ) (id : ℕ) → ((bucket : ℕ) → bucket < 256 → bucket_fails pages at bucket ≡ false) → IsCofferPlace pages (leading_word pages at id)
leading_placed pages at id passes =
    leads_placed pages (path_bucket pages bucket) (chain_in pages at bucket) id (bucket_placed pages bucket (bucket_below (path_in pages at id)))
    (λ other is.
    let has = (belongs_is pages at bucket other (all_at (belongs pages at bucket) (chain_in pages at bucket) other (bucket_is_sound pages at bucket (passes bucket (bucket_below (path_in pages at id)))).belong is)).0 in
    (and_parts (is_id other) (stands_in pages at other) has).0)
  where
    bucket : ℕ
    bucket = bucket_of (path_in pages at id)

pub with_all : (P : ℕ → Type 0) (p : ℕ × ℕ) (ps : List (ℕ × ℕ)) → P p.0 → All (λ (q : ℕ × ℕ). P q.0) ps → All (λ (q : ℕ × ℕ). P q.0) (with_pair p ps)
with_all P p [] own all = All-cons (λ (q : ℕ × ℕ). P q.0) p [] own all
with_all P p (q ∷ qs) own all =
    cond_both (nat_lt p.0 q.0) (p ∷ q ∷ qs) (q ∷ with_pair p qs) (λ (ps : List (ℕ × ℕ)). All (λ (r : ℕ × ℕ). P r.0) ps)
    (λ _. All-cons (λ (r : ℕ × ℕ). P r.0) p (q ∷ qs) own all)
    (λ _. All-cons (λ (r : ℕ × ℕ). P r.0) q (with_pair p qs) (All-head (λ (r : ℕ × ℕ). P r.0) q qs all) (with_all P p qs own (All-tail (λ (r : ℕ × ℕ). P r.0) q qs all)))

length_none : length no_words ≡ 64
unfolding no_words
length_none = length-replicate {A = ℕ} 64 0

pub dropped_placed : (pages : ℕ) (at : ℕ → ℕ) (id : ℕ) → 1 ≤ id → id ≤ 256 → ((bucket : ℕ) → bucket < 256 → bucket_fails pages at bucket ≡ false)
    → All (λ (p : ℕ × ℕ). IsCofferPlace pages p.0) (dropped_pairs pages at id)
dropped_placed pages at id low high passes =
    let long = length_none in
    with_all (IsCofferPlace pages) (leading_word pages at id, at (coffer_next (coffer_entry pages id))) (from_address (coffer_entry pages id) no_words) (leading_placed pages at id passes)
    (entry_all pages id no_words low high (omega arith))

-- How many they are.

length_placed : (start n : ℕ) (ws : List ℕ) → length (map {B = ℕ × ℕ} (λ p. (word_of start p.0, p.1)) (enumerate_from n ws)) ≡ length ws
length_placed start n [] = refl
length_placed start n (w ∷ ws) = ap suc (length_placed start (n + 1) ws)

length_with : (p : ℕ × ℕ) (ps : List (ℕ × ℕ)) → length (with_pair p ps) ≡ suc (length ps)
length_with p [] = refl
length_with p (q ∷ qs) =
    cond_both (nat_lt p.0 q.0) (p ∷ q ∷ qs) (q ∷ with_pair p qs) (λ (ps : List (ℕ × ℕ)). length ps ≡ suc (length (q ∷ qs))) (λ _. refl) (λ _. ap suc (length_with p qs))

pub added_length : (pages : ℕ) (at : ℕ → ℕ) (c : Coffer) → length (added_pairs pages at c) ≡ 65
added_length pages at c =
    let next = at (path_bucket pages (bucket_of c.path)) in
    let long = length_entry c next in
    let placed = length_placed (coffer_entry pages c.id) 0 (entry_words c next) in
    let whole = length-append (from_address (coffer_entry pages c.id) (entry_words c next)) ((path_bucket pages (bucket_of c.path), c.id) ∷ []) in
    omega arith

pub dropped_length : (pages : ℕ) (at : ℕ → ℕ) (id : ℕ) → length (dropped_pairs pages at id) ≡ 65
dropped_length pages at id =
    let long = length_none in
    let placed = length_placed (coffer_entry pages id) 0 no_words in
    let whole = length_with (leading_word pages at id, at (coffer_next (coffer_entry pages id))) (from_address (coffer_entry pages id) no_words) in
    omega arith
