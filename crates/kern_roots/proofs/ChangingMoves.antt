-- How a bucket's chain changes: not at all, by a coffer at its front, or by one that leaves it.
use Rattle.std.proofs.Common.{◌≡◌, ℕ, zero, suc, ◌<◌, ◌≤◌, ◌⊎◌, List, [], ◌∷◌, length, Bool, true, false, not, cond, refl, ap, sym, subst, ◌∙◌, inl, inr, arith, eq-eqb, ne_eqb}
use Rattle.std.proofs.lemmas.Bool.{cases_eq, true≢false}
use Rattle.zo_layout.specs.Layout.{coffer_entry, coffer_next, path_bucket}
use Rattle.kern_model.specs.KernelTables.{chain_from, chain_in, longest_chain, is_in_chain, none_twice, belongs, bucket_fails}
use Rattle.kern_model.specs.PathMap.{leads_to}
use Rattle.kern_roots.proofs.ChangingChain.{next_in}
use Rattle.kern_roots.proofs.ChangingLists.{in_first, in_rest, in_cases}
use Rattle.kern_roots.proofs.ChangingBuckets.{holds_at, holds_from, not_in_rest, rest_once, differs, without, without_absent, same_chain, more_steps, fewer_steps, step_is, stop_is}

-- A bucket whose chain's words stay, and to which the same coffers belong, passes again.
pub bucket_stays : (pages : ℕ) (at after : ℕ → ℕ) (bucket : ℕ) → after (path_bucket pages bucket) ≡ at (path_bucket pages bucket)
    → ((x : ℕ) → belongs pages at bucket x ≡ true → next_in pages after x ≡ next_in pages at x)
    → ((x : ℕ) → belongs pages at bucket x ≡ true → belongs pages after bucket x ≡ true)
    → ((x : ℕ) → belongs pages after bucket x ≡ true → belongs pages at bucket x ≡ true)
    → bucket_fails pages at bucket ≡ false → bucket_fails pages after bucket ≡ false
bucket_stays pages at after bucket head next stay come passes =
    let h = holds_at pages at bucket passes in
    let chain : chain_in pages after bucket ≡ chain_in pages at bucket =
    ap (chain_from (next_in pages after) longest_chain) head
    ∙ same_chain (next_in pages at) (next_in pages after) longest_chain (at (path_bucket pages bucket)) (λ x i. next x (h.each x i)) in
    holds_from pages after bucket (record {
      each = λ x i. stay x (h.each x (sym (ap (is_in_chain x) chain) ∙ i));
      once = ap none_twice chain ∙ h.once;
      whole = λ x b. ap (is_in_chain x) chain ∙ h.whole x (come x b);
    })

pub longest : longest_chain ≡ suc 256
unfolding longest_chain
longest = refl

-- A coffer is put before the first one of a chain.
pub pushed : (pages : ℕ) (at after : ℕ → ℕ) (bucket id : ℕ) → (id ≡ 0 → ⊥) → length (chain_in pages at bucket) ≤ 256
    → after (path_bucket pages bucket) ≡ id → next_in pages after id ≡ at (path_bucket pages bucket)
    → ((x : ℕ) → is_in_chain x (chain_in pages at bucket) ≡ true → next_in pages after x ≡ next_in pages at x)
    → chain_in pages after bucket ≡ id ∷ chain_in pages at bucket
pushed pages at after bucket id some short head first same =
    let f = next_in pages at in
    let g = next_in pages after in
    let h = at (path_bucket pages bucket) in
    let all : chain_from f (suc 256) h ≡ chain_in pages at bucket = ap (λ (n : ℕ). chain_from f n h) (sym longest) in
    let fewer : chain_from f 256 h ≡ chain_in pages at bucket =
    fewer_steps f 256 h (subst (λ (xs : List ℕ). length xs ≤ 256) (sym all) short) ∙ all in
    ap (λ (n : ℕ). chain_from g n (after (path_bucket pages bucket))) longest
    ∙ ap (chain_from g (suc 256)) head
    ∙ step_is g 256 id some
    ∙ ap (λ (k : ℕ). id ∷ chain_from g 256 k) first
    ∙ ap (λ (xs : List ℕ). id ∷ xs) (same_chain f g 256 h (λ x i. same x (sym (ap (is_in_chain x) fewer) ∙ i)) ∙ fewer)

-- The word that leads to a coffer is the first one, or that of another coffer of the chain.
pub leads_is : (pages place : ℕ) (xs : List ℕ) (id : ℕ)
    → (leads_to pages place xs id ≡ place) ⊎ ((x : ℕ) × (is_in_chain x xs ≡ true) × (x ≡ id → ⊥) × (leads_to pages place xs id ≡ coffer_next (coffer_entry pages x)))
leads_is pages place [] id = inl refl
leads_is pages place (c ∷ xs) id = by (cases_eq c id) (leads_is pages (coffer_next (coffer_entry pages c)) xs id)
  where
    step : (c ≡ id → ⊥) → leads_to pages place (c ∷ xs) id ≡ leads_to pages (coffer_next (coffer_entry pages c)) xs id
    step ne = ap (λ (b : Bool). cond b place (leads_to pages (coffer_next (coffer_entry pages c)) xs id)) (ne_eqb c id ne)

    by : (c ≡ id) ⊎ (c ≡ id → ⊥)
        → (leads_to pages (coffer_next (coffer_entry pages c)) xs id ≡ coffer_next (coffer_entry pages c))
        ⊎ ((x : ℕ) × (is_in_chain x xs ≡ true) × (x ≡ id → ⊥) × (leads_to pages (coffer_next (coffer_entry pages c)) xs id ≡ coffer_next (coffer_entry pages x)))
        → (leads_to pages place (c ∷ xs) id ≡ place) ⊎ ((x : ℕ) × (is_in_chain x (c ∷ xs) ≡ true) × (x ≡ id → ⊥) × (leads_to pages place (c ∷ xs) id ≡ coffer_next (coffer_entry pages x)))
    by (inl e) more = inl (ap (λ (b : Bool). cond b place (leads_to pages (coffer_next (coffer_entry pages c)) xs id)) (eq-eqb c id e))
    by (inr ne) (inl e) = inr (c, in_first c xs, ne, step ne ∙ e)
    by (inr ne) (inr (x, i, other, e)) = inr (x, in_rest x c xs i, other, step ne ∙ e)

-- A coffer leaves a chain: the word that led to it now leads past it, and the other words of the chain stay.
pub record Leaves (pages : ℕ) (at after : ℕ → ℕ) (id place head : ℕ) (chain : List ℕ) : Type 0 where
  pub once : none_twice chain ≡ true
  pub there : is_in_chain id chain ≡ true
  pub past : after (leads_to pages place chain id) ≡ next_in pages at id
  pub next : (x : ℕ) → is_in_chain x chain ≡ true → (x ≡ id → ⊥) → (coffer_next (coffer_entry pages x) ≡ leads_to pages place chain id → ⊥) → next_in pages after x ≡ next_in pages at x
  pub first : (place ≡ leads_to pages place chain id → ⊥) → after place ≡ head
  pub apart : (x : ℕ) → is_in_chain x chain ≡ true → coffer_next (coffer_entry pages x) ≡ place → ⊥
  pub single : (x y : ℕ) → is_in_chain x chain ≡ true → is_in_chain y chain ≡ true → coffer_next (coffer_entry pages x) ≡ coffer_next (coffer_entry pages y) → x ≡ y

leaves_first : (pages : ℕ) (at after : ℕ → ℕ) (id n place head : ℕ) (rest : List ℕ) → head ≡ id → rest ≡ chain_from (next_in pages at) n (next_in pages at head) → length rest < n
    → Leaves pages at after id place head (head ∷ rest) → chain_from (next_in pages after) (suc n) (after place) ≡ without id (head ∷ rest)
leaves_first pages at after id n place head rest e is short l =
    ap (chain_from g (suc n)) arrives
    ∙ same_chain f g (suc n) (f head) stays
    ∙ behind
    ∙ sym (ap (λ (b : Bool). cond (not b) (head ∷ without id rest) (without id rest)) (eq-eqb head id e) ∙ without_absent id rest absent)
  where
    f : ℕ → ℕ
    f = next_in pages at

    g : ℕ → ℕ
    g = next_in pages after

    lead : leads_to pages place (head ∷ rest) id ≡ place
    lead = ap (λ (b : Bool). cond b place (leads_to pages (coffer_next (coffer_entry pages head)) rest id)) (eq-eqb head id e)

    arrives : after place ≡ f head
    arrives = ap after (sym lead) ∙ l.past ∙ ap f (sym e)

    behind : chain_from f (suc n) (f head) ≡ rest
    behind = more_steps f n (f head) (subst (λ (xs : List ℕ). length xs < n) is short) ∙ sym is

    absent : is_in_chain id rest ≡ false
    absent = ap (λ (k : ℕ). is_in_chain k rest) (sym e) ∙ not_in_rest head rest l.once

    stays : (x : ℕ) → is_in_chain x (chain_from f (suc n) (f head)) ≡ true → g x ≡ f x
    stays x i =
        let inside : is_in_chain x rest ≡ true = sym (ap (is_in_chain x) behind) ∙ i in
        l.next x (in_rest x head rest inside) (λ q. differs head x rest l.once inside (q ∙ sym e)) (λ q. l.apart x (in_rest x head rest inside) (q ∙ lead))

leaves_later : (pages : ℕ) (at after : ℕ → ℕ) (id n place head : ℕ) (rest : List ℕ) → (head ≡ 0 → ⊥) → (head ≡ id → ⊥)
    → Leaves pages at after id place head (head ∷ rest)
    → (Leaves pages at after id (coffer_next (coffer_entry pages head)) (next_in pages at head) rest
    → chain_from (next_in pages after) n (after (coffer_next (coffer_entry pages head))) ≡ without id rest)
    → chain_from (next_in pages after) (suc n) (after place) ≡ without id (head ∷ rest)
leaves_later pages at after id n place head rest ne other l more =
    ap (chain_from (next_in pages after) (suc n)) (l.first (λ q. elsewhere (leads_is pages (coffer_next (coffer_entry pages head)) rest id) (q ∙ lead)))
    ∙ step_is (next_in pages after) n head ne
    ∙ ap (λ (xs : List ℕ). head ∷ xs) (more (record {
      once = rest_once head rest l.once;
      there = there (in_cases id head rest l.there);
      past = ap after (sym lead) ∙ l.past;
      next = λ x i differs_from apart_from. l.next x (in_rest x head rest i) differs_from (λ q. apart_from (q ∙ lead));
      first = λ apart_from. l.next head (in_first head rest) other (λ q. apart_from (q ∙ lead));
      apart = λ x i q. differs head x rest l.once i (l.single x head (in_rest x head rest i) (in_first head rest) q);
      single = λ x y i j q. l.single x y (in_rest x head rest i) (in_rest y head rest j) q;
    }))
    ∙ sym (ap (λ (b : Bool). cond (not b) (head ∷ without id rest) (without id rest)) (ne_eqb head id other))
  where
    lead : leads_to pages place (head ∷ rest) id ≡ leads_to pages (coffer_next (coffer_entry pages head)) rest id
    lead = ap (λ (b : Bool). cond b place (leads_to pages (coffer_next (coffer_entry pages head)) rest id)) (ne_eqb head id other)

    there : (id ≡ head) ⊎ (is_in_chain id rest ≡ true) → is_in_chain id rest ≡ true
    there (inl e) = absurd (other (sym e))
    there (inr i) = i

    elsewhere : (leads_to pages (coffer_next (coffer_entry pages head)) rest id ≡ coffer_next (coffer_entry pages head))
        ⊎ ((x : ℕ) × (is_in_chain x rest ≡ true) × (x ≡ id → ⊥) × (leads_to pages (coffer_next (coffer_entry pages head)) rest id ≡ coffer_next (coffer_entry pages x)))
        → place ≡ leads_to pages (coffer_next (coffer_entry pages head)) rest id → ⊥
    elsewhere (inl e) q = l.apart head (in_first head rest) (sym (q ∙ e))
    elsewhere (inr (x, i, ne, e)) q = l.apart x (in_rest x head rest i) (sym (q ∙ e))

pub removed : (pages : ℕ) (at after : ℕ → ℕ) (id n place head : ℕ) → length (chain_from (next_in pages at) n head) < n
    → Leaves pages at after id place head (chain_from (next_in pages at) n head)
    → chain_from (next_in pages after) n (after place) ≡ without id (chain_from (next_in pages at) n head)
removed pages at after id zero place head short l = absurd (omega arith)
removed pages at after id (suc n) place head short l = by (cases_eq head 0) (cases_eq head id) (removed pages at after id n (coffer_next (coffer_entry pages head)) (next_in pages at head))
  where
    rest : List ℕ
    rest = chain_from (next_in pages at) n (next_in pages at head)

    by : (head ≡ 0) ⊎ (head ≡ 0 → ⊥) → (head ≡ id) ⊎ (head ≡ id → ⊥)
        → (length rest < n → Leaves pages at after id (coffer_next (coffer_entry pages head)) (next_in pages at head) rest
        → chain_from (next_in pages after) n (after (coffer_next (coffer_entry pages head))) ≡ without id rest)
        → chain_from (next_in pages after) (suc n) (after place) ≡ without id (chain_from (next_in pages at) (suc n) head)
    by (inl z) o more = absurd (true≢false (sym l.there ∙ ap (is_in_chain id) (stop_is (next_in pages at) n head z)))
    by (inr ne) o more = end o
      where
        e : chain_from (next_in pages at) (suc n) head ≡ head ∷ rest
        e = step_is (next_in pages at) n head ne

        fits : length rest < n
        fits = let long = ap (λ (xs : List ℕ). length xs) e in omega arith

        moved : Leaves pages at after id place head (head ∷ rest)
        moved = subst (Leaves pages at after id place head) e l

        end : (head ≡ id) ⊎ (head ≡ id → ⊥) → chain_from (next_in pages after) (suc n) (after place) ≡ without id (chain_from (next_in pages at) (suc n) head)
        end (inl here) = leaves_first pages at after id n place head rest here refl fits moved ∙ ap (without id) (sym e)
        end (inr other) = leaves_later pages at after id n place head rest ne other moved (more fits) ∙ ap (without id) (sym e)
