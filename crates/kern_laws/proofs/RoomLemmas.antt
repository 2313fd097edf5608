-- Which words a row's pairs are for, and that the journal has room for them.
use Rattle.std.proofs.Common.{◌≡◌, ◌≢◌, ℕ, ◌+◌, ◌*◌, ◌%◌, ◌<◌, ◌≤◌, cond, List, [], ◌∷◌, length, sym, subst, arith, nat_eq, nat_lt}
use Rattle.std.specs.Prelude.{All, fold, ⊤}
use Rattle.std.specs.List.{AllByRecursion}
use Rattle.std.proofs.lemmas.Bool.{cond_both, eqb-true, eqb-false, ltb-true, ltb-false}
use Rattle.std.proofs.lemmas.List.Elements.{All-weaker, All-map, recursion_from_All}
use Rattle.zo_layout.specs.Layout.{page_at, kernel_pages, owner_table, owner_word, coffer_entry, signature_word, version_word, count_word, pair_capacity}
use Rattle.pm_words.specs.Word.{Word}
use Rattle.pm_words.specs.Memory.{HasPages}
use Rattle.kern_model.specs.KernelView.{pages_of}
use Rattle.kern_model.specs.Journal.{IsHome}
use Rattle.kern_model.specs.KernelCalls.{put_pair, in_order}
use Rattle.kern_model.specs.Commits.{IsOuter, MayCommit, IsWorking}
use Rattle.tr_types.specs.declared.kernel_call.Holder.{Holder}
use Rattle.kern_owner.specs.Owners.{owner_pairs}

-- How many pairs are left once they are in order.

length_put : (qs : List (ℕ × ℕ)) (p : ℕ × ℕ) → length (put_pair qs p) ≤ length qs + 1
length_put [] p = omega arith
length_put (q ∷ qs) p =
    let rest = length_put qs p in
    cond_both (nat_eq p.0 q.0) (p ∷ qs) (cond (nat_lt p.0 q.0) (p ∷ q ∷ qs) (q ∷ put_pair qs p)) (λ (ps : List (ℕ × ℕ)). length ps ≤ length (q ∷ qs) + 1)
    (λ same. omega arith)
    (λ differ. cond_both (nat_lt p.0 q.0) (p ∷ q ∷ qs) (q ∷ put_pair qs p) (λ (ps : List (ℕ × ℕ)). length ps ≤ length (q ∷ qs) + 1) (λ less. omega arith) (λ more. omega arith))

length_all_put : (qs pairs : List (ℕ × ℕ)) → length (fold put_pair qs pairs) ≤ length qs + length pairs
length_all_put qs [] = omega arith
length_all_put qs (p ∷ pairs) =
    let first = length_put qs p in
    let rest = length_all_put (put_pair qs p) pairs in
    omega arith

pub in_order_length : (pairs : List (ℕ × ℕ)) → length (in_order pairs) ≤ length pairs
in_order_length pairs = let all = length_all_put [] pairs in omega arith

-- Pairs for words between two addresses: in order, each word has one.

pub record IsWordIn (low top addr : ℕ) : Type 0 where
  pub least : low ≤ addr
  pub below : addr < top
  pub whole : addr % 8 ≡ 0

abbrev pub Rises : ℕ → ℕ → List (ℕ × ℕ) → Type 0
Rises top low [] = ⊤
Rises top low (q ∷ qs) = IsWordIn low top q.0 × Rises top (q.0 + 8) qs

put_rises : (top low : ℕ) (qs : List (ℕ × ℕ)) (p : ℕ × ℕ) → IsWordIn low top p.0 → Rises top low qs → Rises top low (put_pair qs p)
put_rises top low [] p is up = (is, tt)
put_rises top low (q ∷ qs) p is up =
    cond_both (nat_eq p.0 q.0) (p ∷ qs) (cond (nat_lt p.0 q.0) (p ∷ q ∷ qs) (q ∷ put_pair qs p)) (λ (ps : List (ℕ × ℕ)). Rises top low ps)
    (λ same. (is, subst (λ (n : ℕ). Rises top (n + 8) qs) (sym (eqb-true p.0 q.0 same)) up.1))
    (λ differ. cond_both (nat_lt p.0 q.0) (p ∷ q ∷ qs) (q ∷ put_pair qs p) (λ (ps : List (ℕ × ℕ)). Rises top low ps)
    (λ less.
    let lt = ltb-true p.0 q.0 less in
    let mine = is.whole in
    let its = up.0.whole in
    (is, (record { least = omega arith; below = up.0.below; whole = its }, up.1)))
    (λ more.
    let le = ltb-false p.0 q.0 more in
    let mine = is.whole in
    let its = up.0.whole in
    let past : q.0 + 8 ≤ p.0 = beyond p.0 q.0 le (eqb-false p.0 q.0 differ) mine its in
    (up.0, put_rises top (q.0 + 8) qs p (record { least = past; below = is.below; whole = mine }) up.1)))
  where
    beyond : (a b : ℕ) → b ≤ a → (a ≡ b → ⊥) → a % 8 ≡ 0 → b % 8 ≡ 0 → b + 8 ≤ a
    beyond a b le ne one two = omega arith

all_rise : (top low : ℕ) (qs pairs : List (ℕ × ℕ)) → AllByRecursion (λ (p : ℕ × ℕ). IsWordIn low top p.0) pairs → Rises top low qs → Rises top low (fold put_pair qs pairs)
all_rise top low qs [] all up = up
all_rise top low qs (p ∷ pairs) all up = all_rise top low (put_pair qs p) pairs all.1 (put_rises top low qs p all.0 up)

rising_fit : (top low : ℕ) (qs : List (ℕ × ℕ)) → low ≤ top → low % 8 ≡ 0 → top % 8 ≡ 0 → Rises top low qs → low + 8 * length qs ≤ top
rising_fit top low [] le one two up = omega arith
rising_fit top low (q ∷ qs) le one two up =
    let below = up.0.below in
    let least = up.0.least in
    let whole = up.0.whole in
    let rest = rising_fit top (q.0 + 8) qs (omega arith) (omega arith) two up.1 in
    omega arith

pub words_fit : (top low : ℕ) (pairs : List (ℕ × ℕ)) → low ≤ top → low % 8 ≡ 0 → top % 8 ≡ 0 → All (λ p. IsWordIn low top p.0) pairs → low + 8 * length (in_order pairs) ≤ top
words_fit top low pairs le one two all =
    rising_fit top low (in_order pairs) le one two (all_rise top low [] pairs (recursion_from_All (λ (p : ℕ × ℕ). IsWordIn low top p.0) pairs all) tt)

-- Words of the kernel's tables.

pub record IsTableWord (pages addr : ℕ) : Type 0 where
  pub whole : addr % 8 ≡ 0
  pub low : page_at (owner_table pages) ≤ addr
  pub high : addr < page_at (kernel_pages pages)

pub table_homes : (words : List Word) (pairs : List (ℕ × ℕ)) → HasPages (length words) → All (λ p. IsTableWord (pages_of words) p.0) pairs → All (λ p. IsHome (length words) p.0) pairs
table_homes words pairs size all = All-weaker (λ (p : ℕ × ℕ). IsTableWord (pages_of words) p.0) (λ (p : ℕ × ℕ). IsHome (length words) p.0) (λ p is. home p.0 is) pairs all
  where
    home : (addr : ℕ) → IsTableWord (pages_of words) addr → IsHome (length words) addr
    home addr is =
        let least = size.least in
        let all = size.whole in
        let high = is.high in
        record { inside = record { aligned = is.whole; inside = omega arith }; outside = λ past. is.low }

pub table_spares : (pages : ℕ) (pairs : List (ℕ × ℕ)) → All (λ p. IsTableWord pages p.0) pairs → All (λ p. (p.0 ≢ signature_word) × (p.0 ≢ version_word) × (p.0 ≢ count_word)) pairs
table_spares pages pairs all =
    All-weaker (λ (p : ℕ × ℕ). IsTableWord pages p.0) (λ (p : ℕ × ℕ). (p.0 ≢ signature_word) × (p.0 ≢ version_word) × (p.0 ≢ count_word)) (λ p is. spares p.0 is) pairs all
  where
    spares : (addr : ℕ) → IsTableWord pages addr → (addr ≢ signature_word) × (addr ≢ version_word) × (addr ≢ count_word)
    spares addr is = let low = is.low in (λ same. omega arith, λ same. omega arith, λ same. omega arith)

-- the words that say whose these pages are
pub owner_words : (pages owner : ℕ) (list : List ℕ) → All (λ page. page < pages) list → All (λ p. IsTableWord pages p.0) (owner_pairs pages owner list)
owner_words pages owner list inside =
    All-map (λ (p : ℕ × ℕ). IsTableWord pages p.0) (λ (page : ℕ). (owner_word pages page, owner)) list
    (All-weaker (λ (page : ℕ). page < pages) (λ (page : ℕ). IsTableWord pages (owner_word pages page)) (λ page lt. word page lt) list inside)
  where
    word : (page : ℕ) → page < pages → IsTableWord pages (owner_word pages page)
    word page lt = record { whole = omega arith; low = omega arith; high = omega arith }

-- one pair for each page at most, whatever the list
pub owner_room : (pages owner : ℕ) (list : List ℕ) → All (λ page. page < pages) list → length (in_order (owner_pairs pages owner list)) ≤ pages
owner_room pages owner list inside =
    let fit = words_fit (owner_word pages pages) (page_at (owner_table pages)) (owner_pairs pages owner list) (omega arith) (omega arith) (omega arith) all in
    omega arith
  where
    word : (page : ℕ) → page < pages → IsWordIn (page_at (owner_table pages)) (owner_word pages pages) (owner_word pages page)
    word page lt = record { least = omega arith; below = omega arith; whole = omega arith }

    all : All (λ p. IsWordIn (page_at (owner_table pages)) (owner_word pages pages) p.0) (owner_pairs pages owner list)
    all =
        All-map (λ (p : ℕ × ℕ). IsWordIn (page_at (owner_table pages)) (owner_word pages pages) p.0) (λ (page : ℕ). (owner_word pages page, owner)) list
        (All-weaker (λ (page : ℕ). page < pages) (λ (page : ℕ). IsWordIn (page_at (owner_table pages)) (owner_word pages pages) (owner_word pages page)) (λ page lt. word page lt) list inside)

-- word k of a coffer's entry
pub entry_word : (pages id addr k : ℕ) → 1 ≤ id → id ≤ 256 → k < 64 → addr ≡ coffer_entry pages id + 8 * k → IsTableWord pages addr
entry_word pages id addr k low high lt is = record { whole = omega arith; low = omega arith; high = omega arith }

-- Pairs for words of the tables alone can be committed.

pub capacity : (pages : ℕ) → pages + 512 ≤ pair_capacity pages
capacity pages = omega arith

pub may_commit : (words : List Word) (holders : List Holder) (granted : List ℕ) (pairs : List (ℕ × ℕ)) → IsWorking words holders → All (IsOuter words) granted
    → All (λ p. IsTableWord (pages_of words) p.0) pairs → length (in_order pairs) ≤ pages_of words + 512 → MayCommit words granted pairs
may_commit words holders granted pairs w outer all fit =
    let most = capacity (pages_of words) in
    record { size = w.size; idle = w.idle; pages = outer; homes = table_homes words pairs w.size all; room = within (length (in_order pairs)) (pages_of words) (pair_capacity (pages_of words)) fit most }
  where
    within : (n pages most : ℕ) → n ≤ pages + 512 → pages + 512 ≤ most → n ≤ most
    within n pages most one two = omega arith

-- so can pairs that make pages an owner's
pub owner_may : (words : List Word) (holders : List Holder) (granted : List ℕ) (owner : ℕ) (list : List ℕ) → IsWorking words holders → All (IsOuter words) granted
    → All (λ page. page < pages_of words) list → MayCommit words granted (owner_pairs (pages_of words) owner list)
owner_may words holders granted owner list w outer inside =
    may_commit words holders granted (owner_pairs (pages_of words) owner list) w outer (owner_words (pages_of words) owner list inside)
    (within (length (in_order (owner_pairs (pages_of words) owner list))) (pages_of words) (owner_room (pages_of words) owner list inside))
  where
    within : (n pages : ℕ) → n ≤ pages → n ≤ pages + 512
    within n pages le = omega arith
