-- The addresses of a change rise.
use Rattle.std.proofs.Common.{◌≡◌, ℕ, zero, suc, ◌+◌, ◌<◌, ◌≤◌, ◌⊎◌, List, [], ◌∷◌, ◌++◌, length, Bool, true, false, cond, nat_lt, sym, subst, inl, inr, arith}
use Rattle.std.specs.List.{AllByRecursion}
use Rattle.std.proofs.lemmas.Bool.{cases_Bool, ltb-true, ltb-false}
use Rattle.std.proofs.lemmas.List.Elements.{All-from_recursion}
use Rattle.zo_layout.specs.Layout.{word_of, coffer_entry, coffer_uid, path_bucket, bucket_of}
use Rattle.kern_model.specs.KernelTables.{Coffer, path_in}
use Rattle.kern_model.specs.PathMap.{entry_words, with_pair, no_words, leading_word, added_pairs, dropped_pairs, perm_pairs}
use Rattle.kern_roots.specs.Laws.{PassesRoots, AreInOrder, OrderLaw}
use Rattle.kern_roots.proofs.ChangingPairs.{placed}
use Rattle.kern_roots.proofs.ChangingLayout.{bucket_behind}
use Rattle.kern_roots.proofs.ChangingChain.{next_in, bucket_below}
use Rattle.kern_roots.proofs.ChangingEntries.{coffer_is_there}
use Rattle.kern_roots.proofs.ChangingBuckets.{holds_at}
use Rattle.kern_roots.proofs.ChangingAdded.{length_words}
use Rattle.kern_roots.proofs.ChangingDrop.{leads, leading_apart, length_no_words}

abbrev Behind : ℕ → List (ℕ × ℕ) → Type 0
Behind addr pairs = AllByRecursion {X = ℕ × ℕ} (λ q. addr < q.0) pairs

abbrev Rising : List (ℕ × ℕ) → Type 0
Rising [] = Unit {0}
Rising (p ∷ pairs) = Behind p.0 pairs × Rising pairs

in_order : (pairs : List (ℕ × ℕ)) → Rising pairs → AreInOrder pairs
in_order [] h i j d before inside = absurd (omega arith)
in_order (p ∷ pairs) h zero zero d before inside = absurd (omega arith)
in_order (p ∷ pairs) h zero (suc j) d before inside = All-from_recursion (λ (q : ℕ × ℕ). p.0 < q.0) pairs h.0 j d (omega arith)
in_order (p ∷ pairs) h (suc i) zero d before inside = absurd (omega arith)
in_order (p ∷ pairs) h (suc i) (suc j) d before inside = in_order pairs h.1 i j d (omega arith) (omega arith)

behind_placed : (start n addr : ℕ) (ws : List ℕ) → addr < word_of start n → Behind addr (placed start n ws)
behind_placed start n addr [] h = tt
behind_placed start n addr (w ∷ ws) h = (h, behind_placed start (n + 1) addr ws (omega arith))

rising_placed : (start n : ℕ) (ws : List ℕ) → Rising (placed start n ws)
rising_placed start n [] = tt
rising_placed start n (w ∷ ws) = (behind_placed start (n + 1) (word_of start n) ws (omega arith), rising_placed start (n + 1) ws)

behind_push : (addr : ℕ) (pairs : List (ℕ × ℕ)) (p : ℕ × ℕ) → Behind addr pairs → addr < p.0 → Behind addr (pairs ++ p ∷ [])
behind_push addr [] p h lt = (lt, tt)
behind_push addr (q ∷ pairs) p h lt = (h.0, behind_push addr pairs p h.1 lt)

-- words in their places, and a pair of a greater address
rising_push : (start n : ℕ) (ws : List ℕ) (p : ℕ × ℕ) → word_of start (n + length ws) ≤ p.0 → Rising (placed start n ws ++ p ∷ [])
rising_push start n [] p h = (tt, tt)
rising_push start n (w ∷ ws) p h =
    (behind_push (word_of start n) (placed start (n + 1) ws) p (behind_placed start (n + 1) (word_of start n) ws (omega arith)) (omega arith), rising_push start (n + 1) ws p (omega arith))

behind_with : (addr : ℕ) (p : ℕ × ℕ) (pairs : List (ℕ × ℕ)) → addr < p.0 → Behind addr pairs → Behind addr (with_pair p pairs)
behind_with addr p [] lt h = (lt, tt)
behind_with addr p (q ∷ pairs) lt h = by (nat_lt p.0 q.0) (behind_with addr p pairs lt h.1)
  where
    by : (b : Bool) → Behind addr (with_pair p pairs) → Behind addr (cond b (p ∷ q ∷ pairs) (q ∷ with_pair p pairs))
    by true more = (lt, h)
    by false more = (h.0, more)

further : (a b : ℕ) (pairs : List (ℕ × ℕ)) → a < b → Behind b pairs → Behind a pairs
further a b [] lt h = tt
further a b (q ∷ pairs) lt h = let first = h.0 in (omega arith, further a b pairs lt h.1)

-- a pair of another address, in its place
rising_with : (p : ℕ × ℕ) (pairs : List (ℕ × ℕ)) → Rising pairs → AllByRecursion {X = ℕ × ℕ} (λ q. q.0 ≡ p.0 → ⊥) pairs → Rising (with_pair p pairs)
rising_with p [] h apart = (tt, tt)
rising_with p (q ∷ pairs) h apart = by (cases_Bool (nat_lt p.0 q.0)) (rising_with p pairs h.1 apart.1)
  where
    by : (nat_lt p.0 q.0 ≡ true) ⊎ (nat_lt p.0 q.0 ≡ false) → Rising (with_pair p pairs) → Rising (cond (nat_lt p.0 q.0) (p ∷ q ∷ pairs) (q ∷ with_pair p pairs))
    by (inl t) more =
        let lt = ltb-true p.0 q.0 t in
        subst (λ (b : Bool). Rising (cond b (p ∷ q ∷ pairs) (q ∷ with_pair p pairs))) (sym t) ((lt, further p.0 q.0 pairs lt h.0), h)
    by (inr t) more =
        let le = ltb-false p.0 q.0 t in
        let ne = apart.0 in
        subst (λ (b : Bool). Rising (cond b (p ∷ q ∷ pairs) (q ∷ with_pair p pairs))) (sym t) (behind_with q.0 p pairs (omega arith) h.0, more)

apart_placed : (start n addr : ℕ) (ws : List ℕ) → ((k : ℕ) → n ≤ k → k < n + length ws → word_of start k ≡ addr → ⊥) → AllByRecursion {X = ℕ × ℕ} (λ q. q.0 ≡ addr → ⊥) (placed start n ws)
apart_placed start n addr [] apart = tt
apart_placed start n addr (w ∷ ws) apart = (apart n (omega arith) (omega arith), apart_placed start (n + 1) addr ws (λ k l h. apart k (omega arith) (omega arith)))

added_in_order : (pages : ℕ) (at : ℕ → ℕ) (c : Coffer) → 1 ≤ c.id → c.id ≤ 256 → AreInOrder (added_pairs pages at c)
added_in_order pages at c l m =
    let bucket = path_bucket pages (bucket_of c.path) in
    let ws = entry_words c (at bucket) in
    let long = length_words c (at bucket) in
    let behind = bucket_behind pages c.id (bucket_of c.path) l m in
    in_order (added_pairs pages at c) (rising_push (coffer_entry pages c.id) 0 ws (bucket, c.id) (omega arith))

dropped_in_order : (pages : ℕ) (at : ℕ → ℕ) (id : ℕ) → PassesRoots pages at → 1 ≤ id → id ≤ 256 → AreInOrder (dropped_pairs pages at id)
dropped_in_order pages at id passes l m =
    let lead = leads pages at id (holds_at pages at (bucket_of (path_in pages at id)) (passes.buckets (bucket_of (path_in pages at id)) (bucket_below (path_in pages at id)))) in
    let long = length_no_words in
    in_order (dropped_pairs pages at id)
    (rising_with (leading_word pages at id, next_in pages at id) (placed (coffer_entry pages id) 0 no_words) (rising_placed (coffer_entry pages id) 0 no_words)
    (apart_placed (coffer_entry pages id) 0 (leading_word pages at id) no_words (λ k g h e. leading_apart pages at id l m lead k (omega arith) e)))

pub order_is : OrderLaw
order_is pages at passes = record {
  added = λ c l m. added_in_order pages at c l m;
  dropped = λ id used. let r = coffer_is_there pages at id used in dropped_in_order pages at id passes r.0 r.1;
  perm = λ id perm. in_order (perm_pairs pages id perm) (rising_placed (coffer_uid (coffer_entry pages id)) 0 (perm.uid ∷ perm.gid ∷ perm.mode ∷ []));
}
