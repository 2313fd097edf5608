-- A coffer comes: its bucket's chain, and the others.
use Rattle.std.proofs.Common.{◌≡◌, ℕ, ◌<◌, ◌≤◌, ◌⊎◌, List, ◌∷◌, true, false, not, refl, ap, sym, subst, ◌∙◌, inl, inr, arith}
use Rattle.std.proofs.lemmas.Bool.{cases_eq, true≢false, and_from, not_from_false, false_from_ne_true}
use Rattle.zo_layout.specs.Layout.{path_bucket, bucket_of}
use Rattle.kern_model.specs.KernelTables.{is_there, stands_in, path_in, chain_in, is_in_chain, none_twice, belongs, bucket_fails}
use Rattle.kern_roots.proofs.ChangingChain.{next_in}
use Rattle.kern_roots.proofs.ChangingLists.{in_first, in_rest, in_cases}
use Rattle.kern_roots.proofs.ChangingEntries.{same_state, same_path_in}
use Rattle.kern_roots.proofs.ChangingBuckets.{Holds, holds_at, holds_from, chain_short, belongs_parts, belongs_from}
use Rattle.kern_roots.proofs.ChangingMoves.{bucket_stays, pushed}
use Rattle.kern_roots.proofs.ChangingSets.{OthersStay}

-- A coffer comes to the front of a bucket's chain.
pub record Arrives (pages id bucket : ℕ) (at after : ℕ → ℕ) : Type 0 where
  pub least : 1 ≤ id
  pub most : id ≤ 256
  pub free : stands_in pages at id ≡ false
  pub there : stands_in pages after id ≡ true
  pub hashed : bucket_of (path_in pages after id) ≡ bucket
  pub others : OthersStay pages id at after
  pub nexts : (other : ℕ) → 1 ≤ other → other ≤ 256 → (other ≡ id → ⊥) → next_in pages after other ≡ next_in pages at other
  pub head : after (path_bucket pages bucket) ≡ id
  pub next : next_in pages after id ≡ at (path_bucket pages bucket)
  pub buckets : (b : ℕ) → b < 256 → (b ≡ bucket → ⊥) → after (path_bucket pages b) ≡ at (path_bucket pages b)

-- a coffer that was there before isn't the new one
was_other : (pages id bucket : ℕ) (at after : ℕ → ℕ) → Arrives pages id bucket at after → (b x : ℕ) → belongs pages at b x ≡ true → x ≡ id → ⊥
was_other pages id bucket at after a b x h e =
    true≢false (sym (belongs_parts pages at b x h).there ∙ ap (stands_in pages at) e ∙ a.free)

stays_in : (pages id bucket : ℕ) (at after : ℕ → ℕ) → Arrives pages id bucket at after → (b x : ℕ) → belongs pages at b x ≡ true → belongs pages after b x ≡ true
stays_in pages id bucket at after a b x h =
    let r = belongs_parts pages at b x h in
    let same = a.others x r.least r.most (was_other pages id bucket at after a b x h) in
    belongs_from pages after b x (record {
      least = r.least;
      most = r.most;
      there = ap is_there (same_state pages at after x same) ∙ r.there;
      hashed = ap bucket_of (same_path_in pages at after x (λ i g k. same i k (omega arith))) ∙ r.hashed;
    })

came_from : (pages id bucket : ℕ) (at after : ℕ → ℕ) → Arrives pages id bucket at after → (b x : ℕ) → (x ≡ id → ⊥) → belongs pages after b x ≡ true → belongs pages at b x ≡ true
came_from pages id bucket at after a b x ne h =
    let r = belongs_parts pages after b x h in
    let same = a.others x r.least r.most ne in
    belongs_from pages at b x (record {
      least = r.least;
      most = r.most;
      there = sym (ap is_there (same_state pages at after x same)) ∙ r.there;
      hashed = ap bucket_of (sym (same_path_in pages at after x (λ i g k. same i k (omega arith)))) ∙ r.hashed;
    })

own_bucket : (pages id bucket : ℕ) (at after : ℕ → ℕ) → Arrives pages id bucket at after → bucket_fails pages at bucket ≡ false → bucket_fails pages after bucket ≡ false
own_bucket pages id bucket at after a passes =
    holds_from pages after bucket (record {
      each = λ x i. each x (in_cases x id old (sym (ap (is_in_chain x) chain) ∙ i));
      once = ap none_twice chain ∙ and_from (not (is_in_chain id old)) (none_twice old) (not_from_false (is_in_chain id old) absent) h.once;
      whole = λ x b. ap (is_in_chain x) chain ∙ whole x b (cases_eq x id);
    })
  where
    old : List ℕ
    old = chain_in pages at bucket

    h : Holds pages at bucket old
    h = holds_at pages at bucket passes

    some : id ≡ 0 → ⊥
    some e = let l = a.least in omega arith

    chain : chain_in pages after bucket ≡ id ∷ old
    chain = pushed pages at after bucket id some (chain_short pages at bucket old h) a.head a.next
        (λ x i. let b = belongs_parts pages at bucket x (h.each x i) in
        a.nexts x b.least b.most (was_other pages id bucket at after a bucket x (h.each x i)))

    absent : is_in_chain id old ≡ false
    absent = false_from_ne_true (is_in_chain id old) (λ i. was_other pages id bucket at after a bucket id (h.each id i) refl)

    each : (x : ℕ) → (x ≡ id) ⊎ (is_in_chain x old ≡ true) → belongs pages after bucket x ≡ true
    each x (inl e) = subst (λ (k : ℕ). belongs pages after bucket k ≡ true) (sym e)
        (belongs_from pages after bucket id (record { least = a.least; most = a.most; there = a.there; hashed = a.hashed }))
    each x (inr i) = stays_in pages id bucket at after a bucket x (h.each x i)

    whole : (x : ℕ) → belongs pages after bucket x ≡ true → (x ≡ id) ⊎ (x ≡ id → ⊥) → is_in_chain x (id ∷ old) ≡ true
    whole x b (inl e) = ap (λ (k : ℕ). is_in_chain k (id ∷ old)) e ∙ in_first id old
    whole x b (inr ne) = in_rest x id old (h.whole x (came_from pages id bucket at after a bucket x ne b))

pub arrived : (pages id bucket : ℕ) (at after : ℕ → ℕ) → Arrives pages id bucket at after → (b : ℕ) → b < 256 → bucket_fails pages at b ≡ false → bucket_fails pages after b ≡ false
arrived pages id bucket at after a b h passes = by (cases_eq b bucket)
  where
    elsewhere : (b ≡ bucket → ⊥) → (x : ℕ) → belongs pages after b x ≡ true → (x ≡ id) ⊎ (x ≡ id → ⊥) → belongs pages at b x ≡ true
    elsewhere ne x i (inl e) = absurd (ne (sym (belongs_parts pages after b x i).hashed ∙ ap (λ (k : ℕ). bucket_of (path_in pages after k)) e ∙ a.hashed))
    elsewhere ne x i (inr nx) = came_from pages id bucket at after a b x nx i

    by : (b ≡ bucket) ⊎ (b ≡ bucket → ⊥) → bucket_fails pages after b ≡ false
    by (inl e) =
        subst (λ (k : ℕ). bucket_fails pages after k ≡ false) (sym e)
        (own_bucket pages id bucket at after a (sym (ap (bucket_fails pages at) e) ∙ passes))
    by (inr ne) =
        bucket_stays pages at after b (a.buckets b h ne)
        (λ x i. let r = belongs_parts pages at b x i in a.nexts x r.least r.most (was_other pages id bucket at after a b x i))
        (stays_in pages id bucket at after a b)
        (λ x i. elsewhere ne x i (cases_eq x id))
        passes
