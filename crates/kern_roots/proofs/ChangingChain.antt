-- The chain of a path bucket, coffer by coffer.
use Rattle.std.proofs.Common.{◌≡◌, ℕ, suc, ◌+◌, ◌-◌, ◌<◌, ◌≤◌, List, [], ◌∷◌, Bool, true, false, cond, refl, ap, sym, ◌∙◌, arith, eq-eqb, ne_eqb}
use Rattle.std.specs.List.{list_all}
use Rattle.std.proofs.lemmas.Bool.{not-false, and_parts, and_from, leb-true}
use Rattle.std.proofs.lemmas.Nat.{mod_below}
use Rattle.zo_layout.specs.Layout.{coffer_entry, coffer_next, path_bucket, bucket_of, name_hash}
use Rattle.kern_model.specs.KernelTables.{chain_from, chain_in, longest_chain, is_id, belongs, bucket_fails}
use Rattle.kern_model.specs.PathMap.{leads_to}

-- the word behind a coffer in its chain
abbrev pub next_in : ℕ → (ℕ → ℕ) → ℕ → ℕ
next_in pages at id = at (coffer_next (coffer_entry pages id))

-- what is left of a chain after some steps
unfoldable pub chain_after : ℕ → (ℕ → ℕ) → ℕ → ℕ → List ℕ
chain_after pages at steps head = chain_from (next_in pages at) (257 - steps) head

longest_is : longest_chain ≡ 257 - 0
unfolding longest_chain
longest_is = refl

pub chain_start : (pages : ℕ) (at : ℕ → ℕ) (bucket : ℕ) → chain_in pages at bucket ≡ chain_after pages at 0 (at (path_bucket pages bucket))
unfolding chain_after
chain_start pages at bucket = ap (λ (n : ℕ). chain_from (next_in pages at) n (at (path_bucket pages bucket))) longest_is

pub chain_step : (pages : ℕ) (at : ℕ → ℕ) (steps head : ℕ) → steps < 257 → (head ≡ 0 → ⊥)
    → chain_after pages at steps head ≡ head ∷ chain_after pages at (steps + 1) (next_in pages at head)
unfolding chain_after
chain_step pages at steps head h ne =
    let e : 257 - steps ≡ suc (257 - (steps + 1)) = omega arith in
    ap (λ (n : ℕ). chain_from (next_in pages at) n head) e
    ∙ ap (λ (b : Bool). cond b [] (head ∷ chain_from (next_in pages at) (257 - (steps + 1)) (next_in pages at head))) (ne_eqb head 0 ne)

pub chain_stop : (pages : ℕ) (at : ℕ → ℕ) (steps head : ℕ) → steps < 257 → head ≡ 0 → chain_after pages at steps head ≡ []
unfolding chain_after
chain_stop pages at steps head h z =
    let e : 257 - steps ≡ suc (257 - (steps + 1)) = omega arith in
    ap (λ (n : ℕ). chain_from (next_in pages at) n head) e
    ∙ ap (λ (b : Bool). cond b [] (head ∷ chain_from (next_in pages at) (257 - (steps + 1)) (next_in pages at head))) (eq-eqb head 0 z)

pub chain_end : (pages : ℕ) (at : ℕ → ℕ) (steps head : ℕ) → 257 ≤ steps → chain_after pages at steps head ≡ []
unfolding chain_after
chain_end pages at steps head h =
    let e : 257 - steps ≡ 0 = omega arith in
    ap (λ (n : ℕ). chain_from (next_in pages at) n head) e

-- A sound bucket's chain has numbers of coffers only.
all_weaker : {X : Type 0} (p q : X → Bool) → ((x : X) → p x ≡ true → q x ≡ true) → (xs : List X) → list_all p xs ≡ true → list_all q xs ≡ true
all_weaker p q w [] h = refl
all_weaker p q w (x ∷ xs) h = and_from (q x) (list_all q xs) (w x (and_parts (p x) (list_all p xs) h).0) (all_weaker p q w xs (and_parts (p x) (list_all p xs) h).1)

pub ids_in_bucket : (pages : ℕ) (at : ℕ → ℕ) (bucket : ℕ) → bucket_fails pages at bucket ≡ false → list_all is_id (chain_in pages at bucket) ≡ true
ids_in_bucket pages at bucket passes =
    all_weaker (belongs pages at bucket) is_id (λ id b. (and_parts _ _ (and_parts _ _ b).0).0) (chain_in pages at bucket)
    (and_parts _ _ (and_parts _ _ (not-false _ passes)).0).0

-- The head of a chain of coffers' numbers is such a number, and what is left behind it are such numbers too.

head_of : (p : ℕ → Bool) (xs ys : List ℕ) (x : ℕ) → xs ≡ x ∷ ys → list_all p xs ≡ true → (p x ≡ true) × (list_all p ys ≡ true)
head_of p xs ys x e h = and_parts (p x) (list_all p ys) (sym (ap (list_all p) e) ∙ h)

pub is_id_most : (id : ℕ) → is_id id ≡ true → (1 ≤ id) × (id ≤ 256)
is_id_most id h = (leb-true 1 id (and_parts _ _ h).0, leb-true id 256 (and_parts _ _ h).1)

pub head_in_table : (pages : ℕ) (at : ℕ → ℕ) (steps head : ℕ) → steps < 257 → (head ≡ 0 → ⊥) → list_all is_id (chain_after pages at steps head) ≡ true → is_id head ≡ true
head_in_table pages at steps head h ne all = (head_of is_id _ _ head (chain_step pages at steps head h ne) all).0

pub head_is_id : (pages : ℕ) (at : ℕ → ℕ) (steps head : ℕ) → steps < 257 → (head ≡ 0 → ⊥) → list_all is_id (chain_after pages at steps head) ≡ true → (1 ≤ head) × (head ≤ 256)
head_is_id pages at steps head h ne all = is_id_most head (head_in_table pages at steps head h ne all)

pub rest_are_ids : (pages : ℕ) (at : ℕ → ℕ) (steps head next : ℕ) → steps < 257 → (head ≡ 0 → ⊥) → next ≡ next_in pages at head
    → list_all is_id (chain_after pages at steps head) ≡ true → list_all is_id (chain_after pages at (steps + 1) next) ≡ true
rest_are_ids pages at steps head next h ne e all =
    ap (λ (n : ℕ). list_all is_id (chain_after pages at (steps + 1) n)) e ∙ (head_of is_id _ _ head (chain_step pages at steps head h ne) all).1

-- The word that leads to a coffer, on the way along the chain.

pub leads_stop : (pages : ℕ) (at : ℕ → ℕ) (steps place head id : ℕ) → steps < 257 → head ≡ 0 → leads_to pages place (chain_after pages at steps head) id ≡ place
leads_stop pages at steps place head id h z = ap (λ (xs : List ℕ). leads_to pages place xs id) (chain_stop pages at steps head h z)

pub leads_end : (pages : ℕ) (at : ℕ → ℕ) (steps place head id : ℕ) → 257 ≤ steps → leads_to pages place (chain_after pages at steps head) id ≡ place
leads_end pages at steps place head id h = ap (λ (xs : List ℕ). leads_to pages place xs id) (chain_end pages at steps head h)

pub leads_here : (pages : ℕ) (at : ℕ → ℕ) (steps place head id : ℕ) → steps < 257 → (head ≡ 0 → ⊥) → head ≡ id → leads_to pages place (chain_after pages at steps head) id ≡ place
leads_here pages at steps place head id h ne e =
    ap (λ (xs : List ℕ). leads_to pages place xs id) (chain_step pages at steps head h ne)
    ∙ ap (λ (b : Bool). cond b place (leads_to pages (coffer_next (coffer_entry pages head)) (chain_after pages at (steps + 1) (next_in pages at head)) id)) (eq-eqb head id e)

pub leads_past : (pages : ℕ) (at : ℕ → ℕ) (steps place head id next following : ℕ) → steps < 257 → (head ≡ 0 → ⊥) → (head ≡ id → ⊥) → next ≡ coffer_next (coffer_entry pages head)
    → following ≡ next_in pages at head → leads_to pages next (chain_after pages at (steps + 1) following) id ≡ leads_to pages place (chain_after pages at steps head) id
leads_past pages at steps place head id next following h ne other e f =
    ap (λ (a : ℕ). leads_to pages a (chain_after pages at (steps + 1) following) id) e
    ∙ ap (λ (n : ℕ). leads_to pages (coffer_next (coffer_entry pages head)) (chain_after pages at (steps + 1) n) id) f
    ∙ sym (ap (λ (xs : List ℕ). leads_to pages place xs id) (chain_step pages at steps head h ne)
    ∙ ap (λ (b : Bool). cond b place (leads_to pages (coffer_next (coffer_entry pages head)) (chain_after pages at (steps + 1) (next_in pages at head)) id)) (ne_eqb head id other))

pub bucket_below : (path : List ℕ) → bucket_of path < 256
bucket_below path = mod_below (name_hash path) 256 (omega arith)
