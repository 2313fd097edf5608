-- The rules of coffers and path buckets, where these read the same and owners have changed.
use Rattle.std.proofs.Common.{◌≡◌, ◌⊎◌, inl, inr, ℕ, ◌+◌, ◌*◌, ◌<◌, ◌≤◌, Bool, true, false, cond, not, List, [], ◌∷◌, ◌++◌, take, filter, refl, sym, ap, ◌∙◌, arith, suc, zero, nat_eq}
use Rattle.std.specs.Prelude.{◌&&◌, ◌||◌, nat_lt, nat_le, codes}
use Rattle.std.specs.List.{range_with_len, flat_map, list_any, list_all}
use Rattle.std.specs.Int.{w64, to_le_bytes}
use Rattle.std.proofs.lemmas.Bool.{cases_Bool, eq-eqb, eqb-true, ltb-true, leb-true, and_parts, and_from, or_parts, not-false}
use Rattle.zo_layout.specs.Layout.{coffer_entry, coffer_state, coffer_uid, coffer_gid, coffer_mode, coffer_control, coffer_root, coffer_next, coffer_path_length, coffer_kind, coffer_path_word, path_bucket, bucket_of}
use Rattle.tr_types.specs.Paths.{same_text, is_path_text}
use Rattle.kern_model.specs.KernelTables.{Coffer, owner_in, all_ids, longest_chain, chain_from, chain_in, path_length, path_in, path_bytes, coffer_in, stands_in, is_there, is_id, is_mode, coffer_fails, path_fails, pages_fail, path_stands_twice, owns, entry_fails, bucket_fails, belongs, is_in_chain, none_twice}
use Rattle.kern_owner.specs.Laws.{SameCoffers}
use Rattle.kern_owner.proofs.AmongLemmas.{filter_agree_in}

-- Lists over rows of numbers.

all_ids_agree : (p q : ℕ → Bool) → ((id : ℕ) → 1 ≤ id → id ≤ 256 → p id ≡ q id) → filter p all_ids ≡ filter q all_ids
unfolding all_ids
all_ids_agree p q agree = filter_agree_in p q 1 256 (λ id low high. agree id low (omega arith))

any_agree_in : (f g p : ℕ → Bool) (a n : ℕ) → ((i : ℕ) → a ≤ i → i < a + n → f i ≡ g i) → list_any f (filter p (range_with_len a n)) ≡ list_any g (filter p (range_with_len a n))
any_agree_in f g p a zero agree = refl
any_agree_in f g p a (suc n) agree =
    by (p a) (agree a (omega arith) (omega arith)) (any_agree_in f g p (a + 1) n (λ i low high. agree i (omega arith) (omega arith)))
  where
    by : (b : Bool) → f a ≡ g a → list_any f (filter p (range_with_len (a + 1) n)) ≡ list_any g (filter p (range_with_len (a + 1) n))
        → list_any f (cond b (a ∷ filter p (range_with_len (a + 1) n)) (filter p (range_with_len (a + 1) n))) ≡ list_any g (cond b (a ∷ filter p (range_with_len (a + 1) n)) (filter p (range_with_len (a + 1) n)))
    by true here later = λ j. here j || later j
    by false here later = later

any_ids_agree : (f g p : ℕ → Bool) → ((id : ℕ) → 1 ≤ id → id ≤ 256 → f id ≡ g id) → list_any f (filter p all_ids) ≡ list_any g (filter p all_ids)
unfolding all_ids
any_ids_agree f g p agree = any_agree_in f g p 1 256 (λ id low high. agree id low (omega arith))

bytes_agree : (f g : ℕ → List ℕ) (a n : ℕ) → ((i : ℕ) → a ≤ i → i < a + n → f i ≡ g i) → flat_map f (range_with_len a n) ≡ flat_map g (range_with_len a n)
bytes_agree f g a zero agree = refl
bytes_agree f g a (suc n) agree =
    let here = agree a (omega arith) (omega arith) in
    let later = bytes_agree f g (a + 1) n (λ i low high. agree i (omega arith) (omega arith)) in
    λ j. here j ++ later j

-- What is read of an entry.

-- word k of an entry
word_same : (pages : ℕ) (at after : ℕ → ℕ) → SameCoffers pages at after → (id addr k : ℕ) → 1 ≤ id → id ≤ 256 → k < 64 → addr ≡ coffer_entry pages id + 8 * k → after addr ≡ at addr
word_same pages at after same id addr k low high lt is = same addr (omega arith) (omega arith) (omega arith)

stands_same : (pages : ℕ) (at after : ℕ → ℕ) → SameCoffers pages at after → (id : ℕ) → 1 ≤ id → id ≤ 256 → stands_in pages after id ≡ stands_in pages at id
stands_same pages at after same id low high = ap is_there (word_same pages at after same id (coffer_state (coffer_entry pages id)) 0 low high (omega arith) (omega arith))

length_same : (pages : ℕ) (at after : ℕ → ℕ) → SameCoffers pages at after → (id : ℕ) → 1 ≤ id → id ≤ 256 → path_length pages after id ≡ path_length pages at id
length_same pages at after same id low high = word_same pages at after same id (coffer_path_length (coffer_entry pages id)) 7 low high (omega arith) (omega arith)

path_same : (pages : ℕ) (at after : ℕ → ℕ) → SameCoffers pages at after → (id : ℕ) → 1 ≤ id → id ≤ 256 → path_in pages after id ≡ path_in pages at id
path_same pages at after same id low high =
    let size = length_same pages at after same id low high in
    let bytes : path_bytes pages after id ≡ path_bytes pages at id =
    bytes_agree (λ i. to_le_bytes w64 (after (coffer_path_word (coffer_entry pages id) i))) (λ i. to_le_bytes w64 (at (coffer_path_word (coffer_entry pages id) i))) 0 55
    (λ i from to. ap (λ (w : ℕ). to_le_bytes w64 w) (word_same pages at after same id (coffer_path_word (coffer_entry pages id) i) (9 + i) low high (omega arith) (omega arith)))
    in
    λ j. cond (nat_le (size j) 440) (take (size j) (bytes j)) []

coffer_same : (pages : ℕ) (at after : ℕ → ℕ) → SameCoffers pages at after → (id : ℕ) → 1 ≤ id → id ≤ 256 → coffer_in pages after id ≡ coffer_in pages at id
coffer_same pages at after same id low high =
    let path = path_same pages at after same id low high in
    let uid = word_same pages at after same id (coffer_uid (coffer_entry pages id)) 1 low high (omega arith) (omega arith) in
    let gid = word_same pages at after same id (coffer_gid (coffer_entry pages id)) 2 low high (omega arith) (omega arith) in
    let mode = word_same pages at after same id (coffer_mode (coffer_entry pages id)) 3 low high (omega arith) (omega arith) in
    let state = word_same pages at after same id (coffer_state (coffer_entry pages id)) 0 low high (omega arith) (omega arith) in
    let kind = word_same pages at after same id (coffer_kind (coffer_entry pages id)) 8 low high (omega arith) (omega arith) in
    let control = word_same pages at after same id (coffer_control (coffer_entry pages id)) 4 low high (omega arith) (omega arith) in
    let root = word_same pages at after same id (coffer_root (coffer_entry pages id)) 5 low high (omega arith) (omega arith) in
    λ j. record { id = id; path = path j; perm = record { uid = uid j; gid = gid j; mode = mode j }; state = state j; kind = kind j; control = control j; root = root j }

path_fails_same : (pages : ℕ) (at after : ℕ → ℕ) → SameCoffers pages at after → (id : ℕ) → 1 ≤ id → id ≤ 256 → path_fails pages after id ≡ path_fails pages at id
path_fails_same pages at after same id low high =
    let size = length_same pages at after same id low high in
    let path = path_same pages at after same id low high in
    λ j. not (nat_le (size j) 440 && is_path_text (path j))

twice_same : (pages : ℕ) (at after : ℕ → ℕ) → SameCoffers pages at after → (id : ℕ) → 1 ≤ id → id ≤ 256 → path_stands_twice pages after id ≡ path_stands_twice pages at id
twice_same pages at after same id low high =
    ap (λ (ids : List ℕ). list_any (λ other. not (nat_eq other id) && same_text (path_in pages after other) (path_in pages after id)) ids)
    (all_ids_agree (stands_in pages after) (stands_in pages at) (stands_same pages at after same))
    ∙ any_ids_agree (λ other. not (nat_eq other id) && same_text (path_in pages after other) (path_in pages after id)) (λ other. not (nat_eq other id) && same_text (path_in pages at other) (path_in pages at id)) (stands_in pages at)
    (λ other from to.
    let theirs = path_same pages at after same other from to in
    let its = path_same pages at after same id low high in
    λ j. not (nat_eq other id) && same_text (theirs j) (its j))

-- The rule of an entry.

or_none : (x y : Bool) → x ≡ false → y ≡ false → (x || y) ≡ false
or_none x y first second = ap (λ (b : Bool). b || y) first ∙ second

-- what is wrong with an entry, where its pages are tested anew
tested_anew : (first path kind pages twice root path_now pages_now twice_now : Bool) → (first || path || kind || pages || twice || root) ≡ false
    → path_now ≡ path → pages_now ≡ false → twice_now ≡ twice → (first || path_now || kind || pages_now || twice_now || root) ≡ false
tested_anew first path kind pages twice root path_now pages_now twice_now passes path_is pages_pass twice_is =
    let p5 = or_parts (first || path || kind || pages || twice) root passes in
    let p4 = or_parts (first || path || kind || pages) twice p5.0 in
    let p3 = or_parts (first || path || kind) pages p4.0 in
    let p2 = or_parts (first || path) kind p3.0 in
    let p1 = or_parts first path p2.0 in
    or_none (first || path_now || kind || pages_now || twice_now) root
    (or_none (first || path_now || kind || pages_now) twice_now
    (or_none (first || path_now || kind) pages_now
    (or_none (first || path_now) kind (or_none first path_now p1.0 (path_is ∙ p1.1)) p2.1)
    pages_pass)
    (twice_is ∙ p4.1))
    p5.1

-- the coffer's two pages stay its own
pages_pass : (pages : ℕ) (at after : ℕ → ℕ) (c : Coffer) → ((page : ℕ) → (page ≡ c.control) ⊎ (page ≡ c.root) → page < pages → owner_in pages at page ≡ c.id → owner_in pages after page ≡ c.id)
    → pages_fail pages at c ≡ false → pages_fail pages after c ≡ false
pages_pass pages at after c kept passes =
    let parts = or_parts (not (owns pages at c.id c.control && owns pages at c.id c.root)) (nat_eq c.control c.root) passes in
    let both = and_parts (owns pages at c.id c.control) (owns pages at c.id c.root) (not-false (owns pages at c.id c.control && owns pages at c.id c.root) parts.0) in
    or_none (not (owns pages after c.id c.control && owns pages after c.id c.root)) (nat_eq c.control c.root)
    (ap not (and_from (owns pages after c.id c.control) (owns pages after c.id c.root) (still c.control (inl refl) both.0) (still c.root (inr refl) both.1)))
    parts.1
  where
    still : (page : ℕ) → (page ≡ c.control) ⊎ (page ≡ c.root) → owns pages at c.id page ≡ true → owns pages after c.id page ≡ true
    still page which owned =
        let parts = and_parts (nat_lt page pages) (nat_eq (owner_in pages at page) c.id) owned in
        and_from (nat_lt page pages) (nat_eq (owner_in pages after page) c.id) parts.0
        (eq-eqb (owner_in pages after page) c.id (kept page which (ltb-true page pages parts.0) (eqb-true (owner_in pages at page) c.id parts.1)))

coffer_stays : (pages : ℕ) (at after : ℕ → ℕ) (c : Coffer) → path_fails pages after c.id ≡ path_fails pages at c.id → path_stands_twice pages after c.id ≡ path_stands_twice pages at c.id
    → pages_fail pages after c ≡ false → coffer_fails pages at c ≡ false → coffer_fails pages after c ≡ false
coffer_stays pages at after c path twice its_pages passes =
    tested_anew (not (nat_le c.perm.uid 4294967295) || not (nat_le c.perm.gid 4294967295) || not (is_mode c.perm.mode)) (path_fails pages at c.id) (not (nat_eq c.kind 0))
    (pages_fail pages at c) (path_stands_twice pages at c.id) (nat_eq c.id 1 && not (same_text c.path (codes "/")))
    (path_fails pages after c.id) (pages_fail pages after c) (path_stands_twice pages after c.id) passes path its_pages twice

-- the pages of a coffer that breaks no rule pass
pages_passed : (pages : ℕ) (at : ℕ → ℕ) (c : Coffer) → coffer_fails pages at c ≡ false → pages_fail pages at c ≡ false
pages_passed pages at c passes =
    let first = not (nat_le c.perm.uid 4294967295) || not (nat_le c.perm.gid 4294967295) || not (is_mode c.perm.mode) in
    let p5 = or_parts (first || path_fails pages at c.id || not (nat_eq c.kind 0) || pages_fail pages at c || path_stands_twice pages at c.id) (nat_eq c.id 1 && not (same_text c.path (codes "/"))) passes in
    let p4 = or_parts (first || path_fails pages at c.id || not (nat_eq c.kind 0) || pages_fail pages at c) (path_stands_twice pages at c.id) p5.0 in
    (or_parts (first || path_fails pages at c.id || not (nat_eq c.kind 0)) (pages_fail pages at c) p4.0).1

pub entry_stays : (pages : ℕ) (at after : ℕ → ℕ) → SameCoffers pages at after → (id : ℕ) → 1 ≤ id → id ≤ 256
    → (stands_in pages at id ≡ true → (page : ℕ) → (page ≡ at (coffer_control (coffer_entry pages id))) ⊎ (page ≡ at (coffer_root (coffer_entry pages id))) → page < pages → owner_in pages at page ≡ id → owner_in pages after page ≡ id)
    → entry_fails pages at id ≡ false → entry_fails pages after id ≡ false
entry_stays pages at after same id low high kept passes = reads ∙ by (cases_Bool (stands_in pages at id))
  where
    reads : entry_fails pages after id ≡ cond (stands_in pages at id) (coffer_fails pages after (coffer_in pages at id)) (not (nat_eq (at (coffer_state (coffer_entry pages id))) 0) || nat_eq id 1)
    reads =
        let stands = stands_same pages at after same id low high in
        let coffer = coffer_same pages at after same id low high in
        let state = word_same pages at after same id (coffer_state (coffer_entry pages id)) 0 low high (omega arith) (omega arith) in
        λ j. cond (stands j) (coffer_fails pages after (coffer j)) (not (nat_eq (state j) 0) || nat_eq id 1)

    by : (stands_in pages at id ≡ true) ⊎ (stands_in pages at id ≡ false)
        → cond (stands_in pages at id) (coffer_fails pages after (coffer_in pages at id)) (not (nat_eq (at (coffer_state (coffer_entry pages id))) 0) || nat_eq id 1) ≡ false
    by (inl stands) =
        let before = sym (ap (λ (b : Bool). cond b (coffer_fails pages at (coffer_in pages at id)) (not (nat_eq (at (coffer_state (coffer_entry pages id))) 0) || nat_eq id 1)) stands) ∙ passes in
        ap (λ (b : Bool). cond b (coffer_fails pages after (coffer_in pages at id)) (not (nat_eq (at (coffer_state (coffer_entry pages id))) 0) || nat_eq id 1)) stands
        ∙ coffer_stays pages at after (coffer_in pages at id) (path_fails_same pages at after same id low high) (twice_same pages at after same id low high)
        (pages_pass pages at after (coffer_in pages at id) (kept stands) (pages_passed pages at (coffer_in pages at id) before)) before
    by (inr gone) =
        ap (λ (b : Bool). cond b (coffer_fails pages after (coffer_in pages at id)) (not (nat_eq (at (coffer_state (coffer_entry pages id))) 0) || nat_eq id 1)) gone
        ∙ sym (ap (λ (b : Bool). cond b (coffer_fails pages at (coffer_in pages at id)) (not (nat_eq (at (coffer_state (coffer_entry pages id))) 0) || nat_eq id 1)) gone)
        ∙ passes

-- The rule of a path bucket.

belongs_same : (pages : ℕ) (at after : ℕ → ℕ) → SameCoffers pages at after → (bucket id : ℕ) → 1 ≤ id → id ≤ 256 → belongs pages after bucket id ≡ belongs pages at bucket id
belongs_same pages at after same bucket id low high =
    let stands = stands_same pages at after same id low high in
    let path = path_same pages at after same id low high in
    λ j. is_id id && stands j && nat_eq (bucket_of (path j)) bucket

is_id_bounds : (id : ℕ) → is_id id ≡ true → (1 ≤ id) × (id ≤ 256)
is_id_bounds id is =
    let parts = and_parts (nat_le 1 id) (nat_le id 256) is in
    (leb-true 1 id parts.0, leb-true id 256 parts.1)

member_bounds : (pages : ℕ) (at : ℕ → ℕ) (bucket id : ℕ) → belongs pages at bucket id ≡ true → (1 ≤ id) × (id ≤ 256)
member_bounds pages at bucket id is =
    is_id_bounds id (and_parts (is_id id) (stands_in pages at id) (and_parts (is_id id && stands_in pages at id) (nat_eq (bucket_of (path_in pages at id)) bucket) is).0).0

-- a list of members is one as before
members_same : (pages : ℕ) (at after : ℕ → ℕ) → SameCoffers pages at after → (bucket : ℕ) (ids : List ℕ) → list_all (belongs pages at bucket) ids ≡ true → list_all (belongs pages after bucket) ids ≡ true
members_same pages at after same bucket [] all = refl
members_same pages at after same bucket (id ∷ ids) all =
    let parts = and_parts (belongs pages at bucket id) (list_all (belongs pages at bucket) ids) all in
    let bounds = member_bounds pages at bucket id parts.0 in
    and_from (belongs pages after bucket id) (list_all (belongs pages after bucket) ids) (belongs_same pages at after same bucket id bounds.0 bounds.1 ∙ parts.0)
    (members_same pages at after same bucket ids parts.1)

-- a chain of members is the same
abbrev next_in : ℕ → (ℕ → ℕ) → ℕ → ℕ
next_in pages at id = at (coffer_next (coffer_entry pages id))

links_same : (pages : ℕ) (at after : ℕ → ℕ) → SameCoffers pages at after → (bucket fuel id : ℕ) → list_all (belongs pages at bucket) (chain_from (next_in pages at) fuel id) ≡ true
    → chain_from (next_in pages after) fuel id ≡ chain_from (next_in pages at) fuel id
links_same pages at after same bucket zero id all = refl
links_same pages at after same bucket (suc fuel) id all = by (cases_Bool (nat_eq id 0)) (λ later. links_same pages at after same bucket fuel (next_in pages at id) later)
  where
    by : (nat_eq id 0 ≡ true) ⊎ (nat_eq id 0 ≡ false)
        → (list_all (belongs pages at bucket) (chain_from (next_in pages at) fuel (next_in pages at id)) ≡ true → chain_from (next_in pages after) fuel (next_in pages at id) ≡ chain_from (next_in pages at) fuel (next_in pages at id))
        → cond (nat_eq id 0) [] (id ∷ chain_from (next_in pages after) fuel (next_in pages after id)) ≡ cond (nat_eq id 0) [] (id ∷ chain_from (next_in pages at) fuel (next_in pages at id))
    by (inl ends) rest =
        ap (λ (b : Bool). cond b [] (id ∷ chain_from (next_in pages after) fuel (next_in pages after id))) ends
        ∙ sym (ap (λ (b : Bool). cond b [] (id ∷ chain_from (next_in pages at) fuel (next_in pages at id))) ends)
    by (inr goes) rest =
        let here = sym (ap (λ (b : Bool). list_all (belongs pages at bucket) (cond b [] (id ∷ chain_from (next_in pages at) fuel (next_in pages at id)))) goes) ∙ all in
        let parts = and_parts (belongs pages at bucket id) (list_all (belongs pages at bucket) (chain_from (next_in pages at) fuel (next_in pages at id))) here in
        let bounds = member_bounds pages at bucket id parts.0 in
        let next = word_same pages at after same id (coffer_next (coffer_entry pages id)) 6 bounds.0 bounds.1 (omega arith) (omega arith) in
        ap (λ (n : ℕ). cond (nat_eq id 0) [] (id ∷ chain_from (next_in pages after) fuel n)) next
        ∙ ap (λ (ids : List ℕ). cond (nat_eq id 0) [] (id ∷ ids)) (rest parts.1)

pub bucket_stays : (pages : ℕ) (at after : ℕ → ℕ) → SameCoffers pages at after → (bucket : ℕ) → bucket < 256 → bucket_fails pages at bucket ≡ false → bucket_fails pages after bucket ≡ false
bucket_stays pages at after same bucket lt passes =
    let all = not-false (list_all (belongs pages at bucket) (chain_in pages at bucket) && none_twice (chain_in pages at bucket) && list_all (λ id. is_in_chain id (chain_in pages at bucket)) (filter (belongs pages at bucket) all_ids)) passes in
    let first = and_parts (list_all (belongs pages at bucket) (chain_in pages at bucket) && none_twice (chain_in pages at bucket)) (list_all (λ id. is_in_chain id (chain_in pages at bucket)) (filter (belongs pages at bucket) all_ids)) all in
    let members = and_parts (list_all (belongs pages at bucket) (chain_in pages at bucket)) (none_twice (chain_in pages at bucket)) first.0 in
    let head = same (path_bucket pages bucket) (omega arith) (omega arith) (omega arith) in
    let chain : chain_in pages after bucket ≡ chain_in pages at bucket =
    ap (λ (id : ℕ). chain_from (next_in pages after) longest_chain id) head ∙ links_same pages at after same bucket longest_chain (at (path_bucket pages bucket)) members.0
    in
    let wanted = all_ids_agree (belongs pages after bucket) (belongs pages at bucket) (belongs_same pages at after same bucket) in
    ap (λ (ids : List ℕ). not (list_all (belongs pages after bucket) ids && none_twice ids && list_all (λ id. is_in_chain id ids) (filter (belongs pages after bucket) all_ids))) chain
    ∙ ap (λ (ids : List ℕ). not (list_all (belongs pages after bucket) (chain_in pages at bucket) && none_twice (chain_in pages at bucket) && list_all (λ id. is_in_chain id (chain_in pages at bucket)) ids)) wanted
    ∙ ap not (and_from (list_all (belongs pages after bucket) (chain_in pages at bucket) && none_twice (chain_in pages at bucket)) (list_all (λ id. is_in_chain id (chain_in pages at bucket)) (filter (belongs pages at bucket) all_ids))
    (and_from (list_all (belongs pages after bucket) (chain_in pages at bucket)) (none_twice (chain_in pages at bucket)) (members_same pages at after same bucket (chain_in pages at bucket) members.0) members.1)
    first.1)
