-- In a new image no rule of the kernel's pages fails.
use Rattle.std.proofs.Common.{length, ◌≡◌, ◌≢◌, ◌⊎◌, inl, inr, ℕ, ◌+◌, ◌-◌, ◌*◌, ◌/◌, ◌%◌, ◌<◌, ◌≤◌, Bool, true, false, cond, not, List, [], ◌∷◌, ◌++◌, map, take, filter, refl, sym, ap, subst, ◌∙◌, arith, suc, zero, nat_eq}
use Rattle.std.specs.Prelude.{◌&&◌, ◌||◌, nat_lt, nat_le, All, codes}
use Rattle.std.specs.List.{range_with_len, flat_map, list_any, list_all}
use Rattle.std.specs.Int.{w64, to_le_bytes}
use Rattle.std.proofs.lemmas.Bool.{cases_eq, cases_lt, ne_eqb, eq-eqb, lt-ltb, le-ltb}
use Rattle.std.proofs.lemmas.List.Elements.{All-nil}
use Rattle.std.proofs.lemmas.List.FromFn.{get_or-map-range_with_len}
use Rattle.pm_words.specs.Word.{Word}
use Rattle.pm_words.specs.Memory.{word_at, all_durable}
use Rattle.pm_words.proofs.WordLemmas.{word_at_all_durable}
use Rattle.zo_layout.specs.Layout.{page_at, word_of, kernel_pages, owner_table, coffer_table, bucket_page, owner_word, root_control, root_page, signature_word, version_word, count_word, committed_word, pair_capacity, coffer_entry, coffer_state, coffer_uid, coffer_gid, coffer_mode, coffer_control, coffer_root, coffer_next, coffer_path_length, coffer_kind, coffer_path_word, path_bucket, bucket_of}
use Rattle.kern_model.specs.NewImage.{new_image, new_word, word_in_page, superblock_word, owner_in_new, owner_table_word, coffer_word, bucket_word}
use Rattle.tr_types.specs.Paths.{same_text, is_path_text}
use Rattle.kern_model.specs.KernelView.{pages_of}
use Rattle.kern_model.specs.Journal.{IsHome, committed, committed_count, pair_at, laid_over, kernel_word}
use Rattle.kern_model.specs.KernelTables.{Coffer, owner_in, all_ids, longest_chain, chain_from, chain_in, path_in, path_bytes, coffer_in, coffers_in, stands_in, is_there, is_id, owner_fails, coffer_fails, path_fails, pages_fail, path_stands_twice, owns, entry_fails, bucket_fails, belongs, is_in_chain, none_twice}
use Rattle.kern_model.specs.KernelRules.{IsSoundKernel}
use Rattle.kern_model.proofs.FreePages.{pages_are, owner_new, size_new, size_opened}

-- What is read of the coffer table of a new image, and of all its tables.
abbrev pub IsNewEntries : ℕ → (ℕ → ℕ) → Type 0
IsNewEntries pages at = (i : ℕ) → i < 16384 → at (word_of (page_at (coffer_table pages)) i) ≡ coffer_word pages i

pub record IsNewTables (pages : ℕ) (at : ℕ → ℕ) : Type 0 where
  pub owners : (page : ℕ) → page < pages → at (owner_word pages page) ≡ owner_in_new pages page
  pub entries : (i : ℕ) → i < 16384 → at (word_of (page_at (coffer_table pages)) i) ≡ coffer_word pages i
  pub buckets : (bucket : ℕ) → bucket < 512 → at (path_bucket pages bucket) ≡ bucket_word bucket

-- The owner table.

owner_kernel : (pages page : ℕ) → page < kernel_pages pages → owner_in_new pages page ≡ 65535
owner_kernel pages page lt = ap (λ (t : Bool). cond t 65535 (cond (nat_lt page (kernel_pages pages + 2)) 1 0)) (lt-ltb page (kernel_pages pages) lt)

owner_root : (pages page : ℕ) → kernel_pages pages ≤ page → page < kernel_pages pages + 2 → owner_in_new pages page ≡ 1
owner_root pages page low high =
    ap (λ (t : Bool). cond t 65535 (cond (nat_lt page (kernel_pages pages + 2)) 1 0)) (le-ltb page (kernel_pages pages) low)
    ∙ ap (λ (t : Bool). cond t 1 0) (lt-ltb page (kernel_pages pages + 2) high)

owner_none : (pages page : ℕ) → kernel_pages pages + 2 ≤ page → owner_in_new pages page ≡ 0
owner_none pages page low =
    ap (λ (t : Bool). cond t 65535 (cond (nat_lt page (kernel_pages pages + 2)) 1 0)) (le-ltb page (kernel_pages pages) (omega arith))
    ∙ ap (λ (t : Bool). cond t 1 0) (le-ltb page (kernel_pages pages + 2) low)

-- The coffer table: only its first entry says something.

later_word : (pages i : ℕ) → 10 ≤ i → coffer_word pages i ≡ 0
later_word pages i le =
    ap (λ (b : Bool). cond b 1 (cond (nat_eq i 3) 438 (cond (nat_eq i 4) (root_control pages) (cond (nat_eq i 5) (root_page pages) (cond (nat_eq i 7) 1 (cond (nat_eq i 9) 47 0)))))) (ne_eqb i 0 (λ e. omega arith))
    ∙ ap (λ (b : Bool). cond b 438 (cond (nat_eq i 4) (root_control pages) (cond (nat_eq i 5) (root_page pages) (cond (nat_eq i 7) 1 (cond (nat_eq i 9) 47 0))))) (ne_eqb i 3 (λ e. omega arith))
    ∙ ap (λ (b : Bool). cond b (root_control pages) (cond (nat_eq i 5) (root_page pages) (cond (nat_eq i 7) 1 (cond (nat_eq i 9) 47 0)))) (ne_eqb i 4 (λ e. omega arith))
    ∙ ap (λ (b : Bool). cond b (root_page pages) (cond (nat_eq i 7) 1 (cond (nat_eq i 9) 47 0))) (ne_eqb i 5 (λ e. omega arith))
    ∙ ap (λ (b : Bool). cond b 1 (cond (nat_eq i 9) 47 0)) (ne_eqb i 7 (λ e. omega arith))
    ∙ ap (λ (b : Bool). cond b 47 0) (ne_eqb i 9 (λ e. omega arith))

-- word k of the first entry
first_entry : (pages : ℕ) (at : ℕ → ℕ) → IsNewEntries pages at → (addr k : ℕ) → k < 64 → addr ≡ word_of (page_at (coffer_table pages)) k → at addr ≡ coffer_word pages k
first_entry pages at new addr k lt is = ap at is ∙ new k (omega arith)

pub root_stands : (pages : ℕ) (at : ℕ → ℕ) → IsNewEntries pages at → stands_in pages at 1 ≡ true
root_stands pages at new = ap is_there (first_entry pages at new (coffer_state (coffer_entry pages 1)) 0 (omega arith) (omega arith))

no_other : (pages : ℕ) (at : ℕ → ℕ) → IsNewEntries pages at → (id : ℕ) → 2 ≤ id → id ≤ 256 → at (coffer_state (coffer_entry pages id)) ≡ 0
no_other pages at new id low high = new (64 * (id - 1)) (omega arith) ∙ later_word pages (64 * (id - 1)) (omega arith)

none_stands : (pages : ℕ) (at : ℕ → ℕ) → IsNewEntries pages at → (id : ℕ) → 2 ≤ id → id ≤ 256 → stands_in pages at id ≡ false
none_stands pages at new id low high = ap is_there (no_other pages at new id low high)

-- a test that holds of the first of a row alone
filter_none : (test : ℕ → Bool) (a n : ℕ) → ((i : ℕ) → a ≤ i → i < a + n → test i ≡ false) → filter test (range_with_len a n) ≡ []
filter_none test a zero none = refl
filter_none test a (suc n) none =
    ap (λ (b : Bool). cond b (a ∷ filter test (range_with_len (a + 1) n)) (filter test (range_with_len (a + 1) n))) (none a (omega arith) (omega arith))
    ∙ filter_none test (a + 1) n (λ i low high. none i (omega arith) (omega arith))

filter_first : (test : ℕ → Bool) (n : ℕ) → ((i : ℕ) → 2 ≤ i → i < 2 + n → test i ≡ false) → filter test (range_with_len 1 (suc n)) ≡ cond (test 1) (1 ∷ []) []
filter_first test n none = ap (λ (xs : List ℕ). cond (test 1) (1 ∷ xs) xs) (filter_none test (1 + 1) n (λ i low high. none i (omega arith) (omega arith)))

-- of the numbers of coffers only 1 can pass
among_ids : (test : ℕ → Bool) → ((i : ℕ) → 2 ≤ i → i ≤ 256 → test i ≡ false) → filter test all_ids ≡ cond (test 1) (1 ∷ []) []
unfolding all_ids
among_ids test none = filter_first test 255 (λ i low high. none i low (omega arith))

root_path : (pages : ℕ) (at : ℕ → ℕ) → IsNewEntries pages at → path_in pages at 1 ≡ codes "/"
root_path pages at new =
    ap (λ (n : ℕ). cond (nat_le n 440) (take n (path_bytes pages at 1)) []) (first_entry pages at new (coffer_path_length (coffer_entry pages 1)) 7 (omega arith) (omega arith))
    ∙ ap (λ (w : ℕ). take 1 (to_le_bytes w64 w ++ flat_map (λ i. to_le_bytes w64 (at (coffer_path_word (coffer_entry pages 1) i))) (range_with_len 1 54)))
    (first_entry pages at new (coffer_path_word (coffer_entry pages 1) 0) 9 (omega arith) (omega arith))

root_path_passes : (pages : ℕ) (at : ℕ → ℕ) → IsNewTables pages at → path_fails pages at 1 ≡ false
root_path_passes pages at new =
    ap (λ (n : ℕ). not (nat_le n 440 && is_path_text (path_in pages at 1))) (first_entry pages at new.entries (coffer_path_length (coffer_entry pages 1)) 7 (omega arith) (omega arith))
    ∙ ap (λ (path : List ℕ). not (is_path_text path)) (root_path pages at new.entries)

root_owns : (pages : ℕ) (at : ℕ → ℕ) → IsNewTables pages at → (page : ℕ) → kernel_pages pages ≤ page → page < kernel_pages pages + 2 → page < pages → owns pages at 1 page ≡ true
root_owns pages at new page low high lt =
    ap (λ (b : Bool). b && nat_eq (owner_in pages at page) 1) (lt-ltb page pages lt)
    ∙ ap (λ (o : ℕ). nat_eq o 1) (new.owners page lt ∙ owner_root pages page low high)

-- the root coffer as its entry says it
root_coffer : ℕ → Coffer
root_coffer pages = record { id = 1; path = codes "/"; perm = record { uid = 0; gid = 0; mode = 438 }; state = 1; kind = 0; control = root_control pages; root = root_page pages }

root_is : (pages : ℕ) (at : ℕ → ℕ) → IsNewEntries pages at → coffer_in pages at 1 ≡ root_coffer pages
unfolding root_coffer
root_is pages at new =
    let path = root_path pages at new in
    let uid = first_entry pages at new (coffer_uid (coffer_entry pages 1)) 1 (omega arith) (omega arith) in
    let gid = first_entry pages at new (coffer_gid (coffer_entry pages 1)) 2 (omega arith) (omega arith) in
    let mode = first_entry pages at new (coffer_mode (coffer_entry pages 1)) 3 (omega arith) (omega arith) in
    let state = first_entry pages at new (coffer_state (coffer_entry pages 1)) 0 (omega arith) (omega arith) in
    let kind = first_entry pages at new (coffer_kind (coffer_entry pages 1)) 8 (omega arith) (omega arith) in
    let control = first_entry pages at new (coffer_control (coffer_entry pages 1)) 4 (omega arith) (omega arith) in
    let root = first_entry pages at new (coffer_root (coffer_entry pages 1)) 5 (omega arith) (omega arith) in
    λ i. record { id = 1; path = path i; perm = record { uid = uid i; gid = gid i; mode = mode i }; state = state i; kind = kind i; control = control i; root = root i }

-- no other coffer is there
pub one_coffer : (pages : ℕ) (at : ℕ → ℕ) → IsNewEntries pages at → coffers_in pages at ≡ record { id = 1; path = codes "/"; perm = record { uid = 0; gid = 0; mode = 438 }; state = 1; kind = 0; control = root_control pages; root = root_page pages } ∷ []
unfolding root_coffer
one_coffer pages at new =
    ap (map (coffer_in pages at)) (among_ids (stands_in pages at) (none_stands pages at new) ∙ ap (λ (b : Bool). cond b (1 ∷ []) []) (root_stands pages at new))
    ∙ ap (λ (c : Coffer). c ∷ []) (root_is pages at new)

once : (pages : ℕ) (at : ℕ → ℕ) → IsNewTables pages at → path_stands_twice pages at 1 ≡ false
once pages at new =
    ap (λ (ids : List ℕ). list_any (λ other. not (nat_eq other 1) && same_text (path_in pages at other) (path_in pages at 1)) ids)
    (among_ids (stands_in pages at) (none_stands pages at new.entries) ∙ ap (λ (b : Bool). cond b (1 ∷ []) []) (root_stands pages at new.entries))

or_none : (x y : Bool) → x ≡ false → y ≡ false → (x || y) ≡ false
or_none x y first second = ap (λ (b : Bool). b || y) first ∙ second

root_pages_pass : (pages : ℕ) (at : ℕ → ℕ) → 64 ≤ pages → IsNewTables pages at → pages_fail pages at (root_coffer pages) ≡ false
unfolding root_coffer
root_pages_pass pages at least new =
    or_none (not (owns pages at 1 (root_control pages) && owns pages at 1 (root_page pages))) (nat_eq (root_control pages) (root_page pages))
    (ap (λ (b : Bool). not (b && owns pages at 1 (root_page pages))) (root_owns pages at new (root_control pages) (omega arith) (omega arith) (omega arith))
    ∙ ap not (root_owns pages at new (root_page pages) (omega arith) (omega arith) (omega arith)))
    (ne_eqb (root_control pages) (root_page pages) (λ e. omega arith))

root_passes : (pages : ℕ) (at : ℕ → ℕ) → 64 ≤ pages → IsNewTables pages at → coffer_fails pages at (coffer_in pages at 1) ≡ false
unfolding root_coffer
root_passes pages at least new =
    ap (λ (c : Coffer). coffer_fails pages at c) (root_is pages at new.entries)
    ∙ or_none (path_fails pages at 1 || false || pages_fail pages at (root_coffer pages) || path_stands_twice pages at 1) false
    (or_none (path_fails pages at 1 || false || pages_fail pages at (root_coffer pages)) (path_stands_twice pages at 1)
    (or_none (path_fails pages at 1 || false) (pages_fail pages at (root_coffer pages))
    (or_none (path_fails pages at 1) false (root_path_passes pages at new) refl)
    (root_pages_pass pages at least new))
    (once pages at new))
    refl

-- The three rules.

abbrev owner_test : ℕ → (ℕ → ℕ) → Bool → ℕ → Bool
owner_test pages at below owner = cond below (not (nat_eq owner 65535)) (not (nat_eq owner 0 || (is_id owner && stands_in pages at owner)))

pub new_owners : (pages : ℕ) (at : ℕ → ℕ) → IsNewTables pages at → (page : ℕ) → page < pages → owner_fails pages at page ≡ false
new_owners pages at new page lt = by (cases_lt page (kernel_pages pages)) (cases_lt page (kernel_pages pages + 2))
  where
    by : (page < kernel_pages pages) ⊎ (kernel_pages pages ≤ page) → (page < kernel_pages pages + 2) ⊎ (kernel_pages pages + 2 ≤ page) → owner_fails pages at page ≡ false
    by (inl below) either =
        ap (λ (b : Bool). owner_test pages at b (owner_in pages at page)) (lt-ltb page (kernel_pages pages) below)
        ∙ ap (λ (o : ℕ). owner_test pages at true o) (new.owners page lt ∙ owner_kernel pages page below)
    by (inr behind) (inl first) =
        ap (λ (b : Bool). owner_test pages at b (owner_in pages at page)) (le-ltb page (kernel_pages pages) behind)
        ∙ ap (λ (o : ℕ). owner_test pages at false o) (new.owners page lt ∙ owner_root pages page behind first)
        ∙ ap not (root_stands pages at new.entries)
    by (inr behind) (inr further) =
        ap (λ (b : Bool). owner_test pages at b (owner_in pages at page)) (le-ltb page (kernel_pages pages) behind)
        ∙ ap (λ (o : ℕ). owner_test pages at false o) (new.owners page lt ∙ owner_none pages page further)

pub new_entries : (pages : ℕ) (at : ℕ → ℕ) → 64 ≤ pages → IsNewTables pages at → (id : ℕ) → 1 ≤ id → id ≤ 256 → entry_fails pages at id ≡ false
new_entries pages at least new id low high = by (cases_eq id 1)
  where
    by : (id ≡ 1) ⊎ (id ≡ 1 → ⊥) → entry_fails pages at id ≡ false
    by (inl is) =
        ap (λ (n : ℕ). entry_fails pages at n) is
        ∙ ap (λ (b : Bool). cond b (coffer_fails pages at (coffer_in pages at 1)) (not (nat_eq (at (coffer_state (coffer_entry pages 1))) 0) || true)) (root_stands pages at new.entries)
        ∙ root_passes pages at least new
    by (inr isnt) =
        let further : 2 ≤ id = omega arith in
        ap (λ (b : Bool). cond b (coffer_fails pages at (coffer_in pages at id)) (not (nat_eq (at (coffer_state (coffer_entry pages id))) 0) || nat_eq id 1)) (none_stands pages at new.entries id further high)
        ∙ or_none (not (nat_eq (at (coffer_state (coffer_entry pages id))) 0)) (nat_eq id 1) (ap (λ (s : ℕ). not (nat_eq s 0)) (no_other pages at new.entries id further high)) (ne_eqb id 1 isnt)

-- which coffers belong to a bucket
new_members : (pages : ℕ) (at : ℕ → ℕ) → IsNewTables pages at → (bucket : ℕ) → filter (belongs pages at bucket) all_ids ≡ cond (nat_eq 254 bucket) (1 ∷ []) []
new_members pages at new bucket =
    among_ids (belongs pages at bucket) (λ i low high.
    ap (λ (b : Bool). is_id i && b && nat_eq (bucket_of (path_in pages at i)) bucket) (none_stands pages at new.entries i low high)
    ∙ never (is_id i) (nat_eq (bucket_of (path_in pages at i)) bucket))
    ∙ ap (λ (b : Bool). cond (b && nat_eq (bucket_of (path_in pages at 1)) bucket) (1 ∷ []) []) (root_stands pages at new.entries)
    ∙ ap (λ (path : List ℕ). cond (nat_eq (bucket_of path) bucket) (1 ∷ []) []) (root_path pages at new.entries)
  where
    never : (x y : Bool) → (x && false && y) ≡ false
    never true y = refl
    never false y = refl

chain_of_none : (next : ℕ → ℕ) → chain_from next longest_chain 0 ≡ []
unfolding longest_chain
chain_of_none next = refl

chain_of_root : (next : ℕ → ℕ) → next 1 ≡ 0 → chain_from next longest_chain 1 ≡ 1 ∷ []
unfolding longest_chain
chain_of_root next last = ap (λ (n : ℕ). 1 ∷ chain_from next 256 n) last

abbrev next_in : ℕ → (ℕ → ℕ) → ℕ → ℕ
next_in pages at id = at (coffer_next (coffer_entry pages id))

new_chain : (pages : ℕ) (at : ℕ → ℕ) → IsNewTables pages at → (bucket : ℕ) → bucket < 256 → chain_in pages at bucket ≡ cond (nat_eq 254 bucket) (1 ∷ []) []
new_chain pages at new bucket lt = by (cases_eq bucket 254)
  where
    by : (bucket ≡ 254) ⊎ (bucket ≡ 254 → ⊥) → chain_in pages at bucket ≡ cond (nat_eq 254 bucket) (1 ∷ []) []
    by (inl is) =
        ap (λ (head : ℕ). chain_from (next_in pages at) longest_chain head) (new.buckets bucket (omega arith) ∙ ap (λ (b : Bool). cond b 1 0) (eq-eqb bucket 254 is))
        ∙ chain_of_root (next_in pages at) (first_entry pages at new.entries (coffer_next (coffer_entry pages 1)) 6 (omega arith) (omega arith))
        ∙ sym (ap (λ (b : Bool). cond b (1 ∷ []) []) (eq-eqb 254 bucket (sym is)))
    by (inr isnt) =
        ap (λ (head : ℕ). chain_from (next_in pages at) longest_chain head) (new.buckets bucket (omega arith) ∙ ap (λ (b : Bool). cond b 1 0) (ne_eqb bucket 254 isnt))
        ∙ chain_of_none (next_in pages at)
        ∙ sym (ap (λ (b : Bool). cond b (1 ∷ []) []) (ne_eqb 254 bucket (λ e. isnt (sym e))))

abbrev bucket_test : ℕ → (ℕ → ℕ) → ℕ → List ℕ → List ℕ → Bool
bucket_test pages at bucket chain members = not (list_all (belongs pages at bucket) chain && none_twice chain && list_all (λ id. is_in_chain id chain) members)

pub new_buckets : (pages : ℕ) (at : ℕ → ℕ) → IsNewTables pages at → (bucket : ℕ) → bucket < 256 → bucket_fails pages at bucket ≡ false
new_buckets pages at new bucket lt =
    ap (λ (chain : List ℕ). bucket_test pages at bucket chain (filter (belongs pages at bucket) all_ids)) (new_chain pages at new bucket lt)
    ∙ ap (λ (members : List ℕ). bucket_test pages at bucket (cond (nat_eq 254 bucket) (1 ∷ []) []) members) (new_members pages at new bucket)
    ∙ by (cases_eq 254 bucket)
  where
    by : (254 ≡ bucket) ⊎ (254 ≡ bucket → ⊥) → bucket_test pages at bucket (cond (nat_eq 254 bucket) (1 ∷ []) []) (cond (nat_eq 254 bucket) (1 ∷ []) []) ≡ false
    by (inl is) =
        ap (λ (b : Bool). bucket_test pages at bucket (cond b (1 ∷ []) []) (cond b (1 ∷ []) [])) (eq-eqb 254 bucket is)
        ∙ ap (λ (b : Bool). not (((b && nat_eq (bucket_of (path_in pages at 1)) bucket) && true) && true && true)) (root_stands pages at new.entries)
        ∙ ap (λ (path : List ℕ). not ((nat_eq (bucket_of path) bucket && true) && true && true)) (root_path pages at new.entries)
        ∙ ap (λ (b : Bool). not ((b && true) && true && true)) (eq-eqb 254 bucket is)
    by (inr isnt) = ap (λ (b : Bool). bucket_test pages at bucket (cond b (1 ∷ []) []) (cond b (1 ∷ []) [])) (ne_eqb 254 bucket isnt)

-- What is read of the words of a new image.

present_new : (pages page i addr : ℕ) → 64 ≤ pages → pages ≤ 16384 → page < pages → i < 512 → addr ≡ word_of (page_at page) i
    → (word_at (all_durable (new_image pages)) addr).present ≡ word_in_page pages page i
present_new pages page i addr least most inside place is =
    let size = (size_new pages least most).whole in
    let start : 0 + addr / 8 ≡ addr / 8 = omega arith in
    let whole : addr / 8 / 512 ≡ page = omega arith in
    let rest : addr / 8 % 512 ≡ i = omega arith in
    ap (λ (w : Word). w.present) (word_at_all_durable (new_image pages) (addr / 8) (omega arith))
    ∙ get_or-map-range_with_len (new_word pages) 0 (512 * pages) (addr / 8) (addr / 8) 0 (omega arith) start
    ∙ ap (λ (p : ℕ). word_in_page pages p (addr / 8 % 512)) whole
    ∙ ap (λ (k : ℕ). word_in_page pages page k) rest

-- a word by the page that it is in
abbrev in_page : ℕ → ℕ → Bool → Bool → Bool → Bool → Bool → ℕ → ℕ
in_page pages i first journal owners coffers buckets owner =
    cond first (superblock_word pages i) (cond journal 0 (cond owners owner (cond coffers (coffer_word pages i) (cond buckets (bucket_word i) 0))))

pub new_committed : (pages : ℕ) → 64 ≤ pages → pages ≤ 16384 → committed_count (all_durable (new_image pages)) ≡ 0
new_committed pages least most =
    present_new pages 1 0 committed_word least most (omega arith) (omega arith) refl
    ∙ ap (λ (b : Bool). in_page pages 0 false b (nat_lt 1 (coffer_table pages)) (nat_eq 1 (coffer_table pages)) (nat_eq 1 (bucket_page pages)) (owner_table_word pages (512 * (1 - owner_table pages) + 0)))
    (lt-ltb 1 (owner_table pages) (omega arith))

none_committed : (pages : ℕ) → 64 ≤ pages → pages ≤ 16384 → committed (all_durable (new_image pages)) ≡ []
none_committed pages least most = ap (λ (n : ℕ). map (pair_at (all_durable (new_image pages))) (range_with_len 0 n)) (new_committed pages least most)

read_new : (pages : ℕ) → 64 ≤ pages → pages ≤ 16384 → (addr : ℕ) → kernel_word (all_durable (new_image pages)) addr ≡ (word_at (all_durable (new_image pages)) addr).present
read_new pages least most addr =
    ap (λ (pairs : List (ℕ × ℕ)). laid_over pairs addr (word_at (all_durable (new_image pages)) addr).present) (none_committed pages least most)

pub new_tables : (pages : ℕ) → 64 ≤ pages → pages ≤ 16384 → IsNewTables pages (kernel_word (all_durable (new_image pages)))
new_tables pages least most = record {
  owners = λ page lt.
      read_new pages least most (owner_word pages page)
      ∙ ap (λ (n : ℕ). (word_at (all_durable (new_image pages)) (owner_word n page)).present) (sym (pages_are (all_durable (new_image pages)) pages (size_opened pages least most).whole))
      ∙ owner_new pages page least most lt;
  entries = λ i lt.
      read_new pages least most (word_of (page_at (coffer_table pages)) i)
      ∙ present_new pages (coffer_table pages + i / 512) (i % 512) (word_of (page_at (coffer_table pages)) i) least most (omega arith) (omega arith) (omega arith)
      ∙ entry_word i lt (cases_lt i 512);
  buckets = λ bucket lt.
      read_new pages least most (path_bucket pages bucket)
      ∙ present_new pages (bucket_page pages) bucket (path_bucket pages bucket) least most (omega arith) lt refl
      ∙ behind_owners (bucket_page pages) bucket (omega arith)
      ∙ ap (λ (b : Bool). cond b (coffer_word pages bucket) (cond (nat_eq (bucket_page pages) (bucket_page pages)) (bucket_word bucket) 0)) (ne_eqb (bucket_page pages) (coffer_table pages) (λ e. omega arith))
      ∙ ap (λ (b : Bool). cond b (bucket_word bucket) 0) (eq-eqb (bucket_page pages) (bucket_page pages) refl);
}
  where
    behind_owners : (page i : ℕ) → coffer_table pages ≤ page → word_in_page pages page i ≡ cond (nat_eq page (coffer_table pages)) (coffer_word pages i) (cond (nat_eq page (bucket_page pages)) (bucket_word i) 0)
    behind_owners page i le =
        ap (λ (b : Bool). in_page pages i b (nat_lt page (owner_table pages)) (nat_lt page (coffer_table pages)) (nat_eq page (coffer_table pages)) (nat_eq page (bucket_page pages)) (owner_table_word pages (512 * (page - owner_table pages) + i)))
        (ne_eqb page 0 (λ e. omega arith))
        ∙ ap (λ (b : Bool). in_page pages i false b (nat_lt page (coffer_table pages)) (nat_eq page (coffer_table pages)) (nat_eq page (bucket_page pages)) (owner_table_word pages (512 * (page - owner_table pages) + i)))
        (le-ltb page (owner_table pages) (omega arith))
        ∙ ap (λ (b : Bool). in_page pages i false false b (nat_eq page (coffer_table pages)) (nat_eq page (bucket_page pages)) (owner_table_word pages (512 * (page - owner_table pages) + i)))
        (le-ltb page (coffer_table pages) le)

    entry_word : (i : ℕ) → i < 16384 → (i < 512) ⊎ (512 ≤ i) → word_in_page pages (coffer_table pages + i / 512) (i % 512) ≡ coffer_word pages i
    entry_word i lt (inl first) =
        let same : i % 512 ≡ i = omega arith in
        behind_owners (coffer_table pages + i / 512) (i % 512) (omega arith)
        ∙ ap (λ (b : Bool). cond b (coffer_word pages (i % 512)) (cond (nat_eq (coffer_table pages + i / 512) (bucket_page pages)) (bucket_word (i % 512)) 0)) (eq-eqb (coffer_table pages + i / 512) (coffer_table pages) (omega arith))
        ∙ ap (λ (k : ℕ). coffer_word pages k) same
    entry_word i lt (inr further) =
        behind_owners (coffer_table pages + i / 512) (i % 512) (omega arith)
        ∙ ap (λ (b : Bool). cond b (coffer_word pages (i % 512)) (cond (nat_eq (coffer_table pages + i / 512) (bucket_page pages)) (bucket_word (i % 512)) 0)) (ne_eqb (coffer_table pages + i / 512) (coffer_table pages) (λ e. omega arith))
        ∙ ap (λ (b : Bool). cond b (bucket_word (i % 512)) 0) (ne_eqb (coffer_table pages + i / 512) (bucket_page pages) (λ e. omega arith))
        ∙ sym (later_word pages i (omega arith))

pub new_is_sound : (pages : ℕ) → 64 ≤ pages → pages ≤ 16384 → IsSoundKernel (all_durable (new_image pages))
new_is_sound pages least most =
    let tables = new_tables pages least most in
    record {
      signature = present_new pages 0 0 signature_word least most (omega arith) (omega arith) refl;
      version = present_new pages 0 1 version_word least most (omega arith) (omega arith) refl;
      count = present_new pages 0 2 count_word least most (omega arith) (omega arith) refl ∙ sym count_is;
      pairs = record {
        readable = record {
          room = subst (λ (n : ℕ). n ≤ pair_capacity (pages_of (all_durable (new_image pages)))) (sym (new_committed pages least most)) (omega arith);
          homes = subst (λ (pairs : List (ℕ × ℕ)). All (λ p. IsHome (length (all_durable (new_image pages))) p.0) pairs) (sym (none_committed pages least most)) (All-nil (λ p. IsHome (length (all_durable (new_image pages))) p.0));
        };
        spares = subst (λ (pairs : List (ℕ × ℕ)). All (λ p. (p.0 ≢ signature_word) × (p.0 ≢ version_word) × (p.0 ≢ count_word)) pairs) (sym (none_committed pages least most))
            (All-nil (λ p. (p.0 ≢ signature_word) × (p.0 ≢ version_word) × (p.0 ≢ count_word)));
      };
      owners = subst (λ (n : ℕ). (page : ℕ) → page < n → owner_fails n (kernel_word (all_durable (new_image pages))) page ≡ false) (sym count_is) (new_owners pages (kernel_word (all_durable (new_image pages))) tables);
      entries = subst (λ (n : ℕ). (id : ℕ) → 1 ≤ id → id ≤ 256 → entry_fails n (kernel_word (all_durable (new_image pages))) id ≡ false) (sym count_is) (new_entries pages (kernel_word (all_durable (new_image pages))) least tables);
      buckets = subst (λ (n : ℕ). (bucket : ℕ) → bucket < 256 → bucket_fails n (kernel_word (all_durable (new_image pages))) bucket ≡ false) (sym count_is) (new_buckets pages (kernel_word (all_durable (new_image pages))) tables);
    }
  where
    count_is : pages_of (all_durable (new_image pages)) ≡ pages
    count_is = pages_are (all_durable (new_image pages)) pages (size_opened pages least most).whole
