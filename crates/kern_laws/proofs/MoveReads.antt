-- What is read once a row's pairs are laid over: they are for owner words, for words of coffers and path buckets, and for words of
-- pages that aren't the kernel's.
use Rattle.std.proofs.Common.{◌≡◌, ◌≢◌, ◌⊎◌, inl, inr, ℕ, ◌+◌, ◌-◌, ◌*◌, ◌%◌, ◌<◌, ◌≤◌, List, ◌++◌, ap, ◌∙◌, arith}
use Rattle.std.specs.Prelude.{All, if◌then◌else◌, nat_eq}
use Rattle.std.proofs.lemmas.List.Elements.{All-weaker}
use Rattle.std.proofs.lemmas.List.Sums.{fold-append}
use Rattle.zo_layout.specs.Layout.{page_at, word_of, kernel_pages, owner_table, coffer_table, owner_word, coffer_entry, path_bucket}
use Rattle.kern_model.specs.Journal.{laid_over}
use Rattle.kern_model.specs.Kernel.{read_after}
use Rattle.kern_model.specs.KernelTables.{owner_in}
use Rattle.kern_owner.specs.Laws.{SameTables}
use Rattle.kern_roots.specs.Laws.{SameRoots}
use Rattle.kern_model.proofs.LaidLemmas.{laid_unnamed}

-- an address of a word between two others
pub record IsBetween (low high addr : ℕ) : Type 0 where
  pub whole : addr % 8 ≡ 0
  pub least : low ≤ addr
  pub below : addr < high

abbrev pub IsOwnerPlace : ℕ → ℕ → Type 0
IsOwnerPlace pages addr = IsBetween (page_at (owner_table pages)) (page_at (coffer_table pages)) addr

abbrev pub IsCofferPlace : ℕ → ℕ → Type 0
IsCofferPlace pages addr = IsBetween (page_at (coffer_table pages)) (page_at (kernel_pages pages)) addr

abbrev pub IsOuterPlace : ℕ → ℕ → Type 0
IsOuterPlace pages addr = IsBetween (page_at (kernel_pages pages)) (page_at pages) addr

-- the parts of a row's pairs
pub record AreParts (pages : ℕ) (owning changing linking : List (ℕ × ℕ)) : Type 0 where
  pub owners : All (λ (p : ℕ × ℕ). IsOwnerPlace pages p.0) owning
  pub entries : All (λ (p : ℕ × ℕ). IsCofferPlace pages p.0) changing
  pub others : All (λ (p : ℕ × ℕ). IsOuterPlace pages p.0) linking

-- Where the tables stand.

pub owner_placed : (pages page : ℕ) → page < pages → IsOwnerPlace pages (owner_word pages page)
owner_placed pages page lt = record { whole = omega arith; least = omega arith; below = omega arith }

entry_place : (t k id i : ℕ) → k ≡ t + 33 → 1 ≤ id → id ≤ 256 → i < 64 → IsBetween (4096 * t) (4096 * k) (4096 * t + 8 * (64 * (id - 1)) + 8 * i)
entry_place t k id i is low high lt = record { whole = omega arith; least = omega arith; below = omega arith }

table_end : (pages : ℕ) → kernel_pages pages ≡ coffer_table pages + 33
table_end pages = omega arith

pub entry_placed : (pages id i : ℕ) → 1 ≤ id → id ≤ 256 → i < 64 → IsCofferPlace pages (word_of (coffer_entry pages id) i)
entry_placed pages id i low high lt = entry_place (coffer_table pages) (kernel_pages pages) id i (table_end pages) low high lt

bucket_place : (t k bucket : ℕ) → k ≡ t + 33 → bucket < 256 → IsBetween (4096 * t) (4096 * k) (4096 * (t + 32) + 8 * bucket)
bucket_place t k bucket is lt = record { whole = omega arith; least = omega arith; below = omega arith }

pub bucket_placed : (pages bucket : ℕ) → bucket < 256 → IsCofferPlace pages (path_bucket pages bucket)
bucket_placed pages bucket lt = bucket_place (coffer_table pages) (kernel_pages pages) bucket (table_end pages) lt

-- What is read.

pub laid_append : (ps qs : List (ℕ × ℕ)) (addr d : ℕ) → laid_over (ps ++ qs) addr d ≡ laid_over qs addr (laid_over ps addr d)
laid_append ps qs addr d = fold-append (λ (value : ℕ) (p : ℕ × ℕ). if nat_eq p.0 addr then p.1 else value) d ps qs

-- pairs for words that stand elsewhere
apart : (low high below above : ℕ) (ps : List (ℕ × ℕ)) (addr d : ℕ) → (high ≤ below) ⊎ (above ≤ low) → IsBetween low high addr → All (λ (p : ℕ × ℕ). IsBetween below above p.0) ps
    → laid_over ps addr d ≡ d
apart low high below above ps addr d (inl behind) place all =
    laid_unnamed ps addr d (All-weaker (λ (p : ℕ × ℕ). IsBetween below above p.0) (λ (p : ℕ × ℕ). p.0 ≢ addr) (λ p at same. let a = at.least in let b = place.below in omega arith) ps all)
apart low high below above ps addr d (inr before) place all =
    laid_unnamed ps addr d (All-weaker (λ (p : ℕ × ℕ). IsBetween below above p.0) (λ (p : ℕ × ℕ). p.0 ≢ addr) (λ p at same. let a = at.below in let b = place.least in omega arith) ps all)

table_start : (pages : ℕ) → page_at (coffer_table pages) ≤ page_at (kernel_pages pages)
table_start pages = omega arith

pub reads_owner : (pages : ℕ) (owners entries others : List (ℕ × ℕ)) (at : ℕ → ℕ) (addr : ℕ) → AreParts pages owners entries others → IsOwnerPlace pages addr
    → read_after (owners ++ (entries ++ others)) at addr ≡ laid_over owners addr (at addr)
reads_owner pages owners entries others at addr parts place =
    laid_append owners (entries ++ others) addr (at addr)
    ∙ laid_append entries others addr (laid_over owners addr (at addr))
    ∙ apart (page_at (owner_table pages)) (page_at (coffer_table pages)) (page_at (kernel_pages pages)) (page_at pages) others addr (laid_over entries addr (laid_over owners addr (at addr))) (inl (table_start pages)) place parts.others
    ∙ apart (page_at (owner_table pages)) (page_at (coffer_table pages)) (page_at (coffer_table pages)) (page_at (kernel_pages pages)) entries addr (laid_over owners addr (at addr)) (inl (omega arith)) place parts.entries

pub reads_coffer : (pages : ℕ) (owners entries others : List (ℕ × ℕ)) (at : ℕ → ℕ) (addr : ℕ) → AreParts pages owners entries others → IsCofferPlace pages addr
    → read_after (owners ++ (entries ++ others)) at addr ≡ read_after entries at addr
reads_coffer pages owners entries others at addr parts place =
    laid_append owners (entries ++ others) addr (at addr)
    ∙ laid_append entries others addr (laid_over owners addr (at addr))
    ∙ apart (page_at (coffer_table pages)) (page_at (kernel_pages pages)) (page_at (kernel_pages pages)) (page_at pages) others addr (laid_over entries addr (laid_over owners addr (at addr))) (inl (omega arith)) place parts.others
    ∙ ap (λ (d : ℕ). laid_over entries addr d)
    (apart (page_at (coffer_table pages)) (page_at (kernel_pages pages)) (page_at (owner_table pages)) (page_at (coffer_table pages)) owners addr (at addr) (inr (omega arith)) place parts.owners)

-- Where the tables read so, the coffers read as with their part alone, and owners as with theirs.

before_end : (pages : ℕ) → page_at (owner_table pages) ≤ page_at (coffer_table pages)
before_end pages = omega arith

pub same_owner : (pages : ℕ) (owners entries others : List (ℕ × ℕ)) (at after : ℕ → ℕ) (page : ℕ) → AreParts pages owners entries others
    → SameTables pages (read_after (owners ++ (entries ++ others)) at) after → page < pages → owner_in pages after page ≡ laid_over owners (owner_word pages page) (owner_in pages at page)
same_owner pages owners entries others at after page parts same lt =
    let place = owner_placed pages page lt in
    let below = place.below in
    let end = table_start pages in
    same (owner_word pages page) place.whole place.least (omega arith) ∙ reads_owner pages owners entries others at (owner_word pages page) parts place

pub in_tables : (pages addr : ℕ) (at after : ℕ → ℕ) → SameTables pages at after → IsCofferPlace pages addr → after addr ≡ at addr
in_tables pages addr at after same place = let least = place.least in let first = before_end pages in same addr place.whole (omega arith) place.below

pub same_roots : (pages : ℕ) (owners entries others : List (ℕ × ℕ)) (at after : ℕ → ℕ) → AreParts pages owners entries others
    → SameTables pages (read_after (owners ++ (entries ++ others)) at) after → SameRoots pages (read_after entries at) after
same_roots pages owners entries others at after parts same = record {
  entries = λ id i low high lt. by (word_of (coffer_entry pages id) i) (entry_placed pages id i low high lt);
  buckets = λ bucket lt. by (path_bucket pages bucket) (bucket_placed pages bucket lt);
}
  where
    by : (addr : ℕ) → IsCofferPlace pages addr → after addr ≡ read_after entries at addr
    by addr place = in_tables pages addr (read_after (owners ++ (entries ++ others)) at) after same place ∙ reads_coffer pages owners entries others at addr parts place
